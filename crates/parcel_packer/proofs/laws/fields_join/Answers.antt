use Rattle.parcel_packer.proofs.{PackingLaws.put_bits-joined, PutLaws.moved_stays}
use Rattle.parcel_packer.proofs.laws.fields_join.Goals as goal

pub returns-clause-joined : goal.returns-clause-joined
returns-clause-joined c = put_bits-joined

pub returns-clause-stays : goal.returns-clause-stays
returns-clause-stays c = moved_stays
