use Rattle.std.proofs.Common.{◌≡◌, length}
use Rattle.expr_forms.specs.Joins.ElementLists.{literals_among}
use Rattle.expr_forms.proofs.element_lists.next_literal.Given as goal

-- among what was taken there is no literal
abbrev pub invariant-links : goal.invariant-links
invariant-links l = literals_among l.links ≡ literals_among l.initial.links

abbrev pub decreases-links : goal.decreases-links
decreases-links l = length l.links
