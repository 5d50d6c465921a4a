use Rattle.expr_forms.proofs.NameLaws.{same_text-Decides}
use Rattle.use_blocks.proofs.positions.is_same_name.Goals as goal

pub returns : goal.returns
returns c = rw c.is_same.ensures (same_text-Decides c.args.name.now c.args.other.now)
