use Rattle.std.{proofs.Common.{◌≡◌, List, ◌&&◌, length}, specs.Prelude.option_map}
use Rattle.definitions.specs.Expressions.{OperatorElement}
use Rattle.expr_forms.specs.Joins.{Links.pairs_behind, Parsed.are_plain}
use Rattle.expr_forms.proofs.expressions.are_plain.Given as goal

-- what was passed over and what is left are plain where the whole is
abbrev pub invariant-links : goal.invariant-links
invariant-links l = option_map (λ (pairs : List OperatorElement). l.plain && are_plain pairs) (pairs_behind l.base l.rest) ≡ option_map are_plain (pairs_behind l.base l.text)

abbrev pub decreases-links : goal.decreases-links
decreases-links l = length l.rest
