-- The common blocks with those of the decks that are left.
use Rattle.std.proofs.Common.{◌≡◌, [], drop, map}
use Rattle.definitions.specs.Layout.{Based, common_lengths}
use Rattle.deck_linker.proofs.common_table.CommonTable.of_decks.Given as goal

abbrev pub invariant-loop-based : goal.invariant-loop-based
invariant-loop-based l =
    common_lengths (map (λ (based : Based). based.object) (drop l.based-index l.decks)) l.table ≡ common_lengths (map (λ (based : Based). based.object) l.decks) []
