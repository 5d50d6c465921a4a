use Rattle.std.proofs.Common.{sym}
use Rattle.kept_desk.proofs.door.DoorCalls.change.Goals as goal

pub returns : goal.returns
returns g c = rw (sym c.self.view_is) c.make_change.ensures
