use Rattle.std.{proofs.Common.{◌≡◌, length, flat_map}, specs.List.list_any}
use Rattle.deck_assembler.specs.Joins.Rebindings.{bit_elements, differs}
use Rattle.deck_assembler.proofs.rebinding.Rebinding.vfd_differs.Given as goal

-- what is left shows what all shows
abbrev pub invariant-fields : goal.invariant-fields
invariant-fields l = list_any (differs l.self) (flat_map bit_elements l.rest) ≡ list_any (differs l.self) (flat_map bit_elements l.fn.fields)

abbrev pub decreases-fields : goal.decreases-fields
decreases-fields l = length l.rest
