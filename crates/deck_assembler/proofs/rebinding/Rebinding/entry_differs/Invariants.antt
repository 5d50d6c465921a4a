use Rattle.std.{proofs.Common.{◌≡◌, length}, specs.List.list_any}
use Rattle.definitions.specs.Operations as op
use Rattle.definitions.specs.Laws.Rebound.{name_elements}
use Rattle.deck_assembler.specs.Joins.Rebindings.{differs}
use Rattle.deck_assembler.proofs.rebinding.Rebinding.entry_differs.Given as goal

-- the names that are left show what all show
abbrev pub invariant-names : goal.invariant-names
invariant-names l = list_any (differs l.self) (name_elements op.Entry l.rest) ≡ list_any (differs l.self) (name_elements op.Entry l.fn.names)

abbrev pub decreases-names : goal.decreases-names
decreases-names l = length l.rest
