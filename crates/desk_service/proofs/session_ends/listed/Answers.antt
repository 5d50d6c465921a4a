use Rattle.std.proofs.Common.{[]}
use Rattle.desk_service.proofs.session_ends.listed.Goals as goal

-- nobody is connected to one that stands beside no others
pub returns-in-None : goal.returns-in-None
returns-in-None g c = (record { editors = 0; seats = [] }, c.new.ensures.items)
