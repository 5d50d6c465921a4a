use Rattle.parcel_packer.proofs.PutLaws.{statement_put}
use Rattle.parcel_packer.proofs.laws.statements_fill_parcels.Goals as goal

pub returns : goal.returns
returns c = statement_put
