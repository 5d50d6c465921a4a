use Rattle.std.proofs.Common.{◌∙◌, None}
use Rattle.definitions.specs.Counters.{counters_at}
use Rattle.statement_coder.proofs.kept_sizing.KeptSizing.origin.Goals as goal

pub returns : goal.returns
returns c = c.origin.ensures None ∙ (λ i. (counters_at c.args.kind (c.block.ensures i) (c.place.ensures i) None).origin)
