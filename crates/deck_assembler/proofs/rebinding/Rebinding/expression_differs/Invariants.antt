use Rattle.std.{proofs.Common.{◌≡◌, length}, specs.List.list_any}
use Rattle.definitions.specs.Expressions.{elements_of}
use Rattle.expr_forms.specs.Joins.ElementLists.{elements_in}
use Rattle.deck_assembler.specs.Joins.Rebindings.{differs}
use Rattle.deck_assembler.proofs.rebinding.Rebinding.expression_differs.Given as goal

-- the elements that are left show what all show
abbrev pub invariant-links : goal.invariant-links
invariant-links l = list_any (differs l.self) (elements_in l.links) ≡ list_any (differs l.self) (elements_of l.expression)

abbrev pub decreases-links : goal.decreases-links
decreases-links l = length l.links
