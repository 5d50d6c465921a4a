use Rattle.std.proofs.Common.{◌≡◌, length}
use Rattle.definitions.specs.{Expressions.grouped, Matching.{Sum, sum_of}}
use Rattle.expr_forms.specs.Joins.{Elements.sign_as, Sums.{HasParts, sum_from}}
use Rattle.expr_forms.proofs.sums.parts_of.Given as goal

-- there is a sum of what was found, from which the links that are left make the whole
abbrev pub invariant-links : goal.invariant-links
invariant-links l = (sum : Sum) × HasParts l.parts sum × (sum_of (grouped l.links).terms sum ≡ sum_of (grouped l.fn.behind).terms (sum_from (sign_as l.fn.sign)))

abbrev pub decreases-links : goal.decreases-links
decreases-links l = length l.links
