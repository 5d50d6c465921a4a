use Rattle.std.proofs.Common.{◌≡◌, length}
use Rattle.expr_forms.specs.Joins.ElementLists.{symbols_among}
use Rattle.expr_forms.proofs.element_lists.next_symbol.Given as goal

-- among what was taken there is no symbol
abbrev pub invariant-links : goal.invariant-links
invariant-links l = symbols_among l.links ≡ symbols_among l.initial.links

abbrev pub decreases-links : goal.decreases-links
decreases-links l = length l.links
