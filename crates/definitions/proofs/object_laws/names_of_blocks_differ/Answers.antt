use Rattle.definitions.proofs.BlockLaws.{object-blocks}
use Rattle.definitions.proofs.object_laws.names_of_blocks_differ.Goals as goal

pub returns : goal.returns
returns c = record { names = object-blocks }
