use Rattle.std.proofs.Common.{refl}
use Rattle.definitions.proofs.TextLaws.{same_text-refl}
use Rattle.use_blocks.proofs.used_block.UsedBlock.step.Goals as goal

pub returns : goal.returns
returns c = rw (same_text-refl c.args.self.now.name, c.set_counting.ensures, c.set_position.ensures) refl
