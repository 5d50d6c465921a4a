use Rattle.std.{proofs.Common.{◌≡◌, length, flat_map}, specs.List.list_any}
use Rattle.definitions.specs.Laws.Rebound.{datum_elements}
use Rattle.deck_assembler.specs.Joins.Rebindings.{differs}
use Rattle.deck_assembler.proofs.rebinding.Rebinding.data_differ.Given as goal

-- what is left shows what all shows
abbrev pub invariant-words : goal.invariant-words
invariant-words l = list_any (differs l.self) (flat_map datum_elements l.rest) ≡ list_any (differs l.self) (flat_map datum_elements l.fn.words)

abbrev pub decreases-words : goal.decreases-words
decreases-words l = length l.rest
