use Rattle.parcel_packer.proofs.PutLaws.{put_bits-end}
use Rattle.parcel_packer.proofs.laws.ends_add.Goals as goal

pub returns : goal.returns
returns c = put_bits-end
