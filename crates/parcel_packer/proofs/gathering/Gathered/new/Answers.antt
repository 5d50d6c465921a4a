use Rattle.parcel_packer.proofs.GatherLaws.{gathered_none}
use Rattle.parcel_packer.proofs.gathering.Gathered.new.Goals as goal

pub returns-clause-gathered : goal.returns-clause-gathered
returns-clause-gathered c = λ kind. rw c.in_ok-with_capacity.ensures.items (gathered_none kind c.at.result c.at.ensures.word (c.at.ensures.empty kind))
