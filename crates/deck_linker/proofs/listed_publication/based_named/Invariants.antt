-- what is looked for is in the decks that are left, if anywhere.
use Rattle.std.proofs.Common.{◌≡◌, length}
use Rattle.definitions.specs.Layout.{Layout}
use Rattle.deck_linker.specs.Publishing.{section_in}
use Rattle.deck_linker.proofs.listed_publication.based_named.Given as goal

abbrev pub invariant-loop-based : goal.invariant-loop-based
invariant-loop-based l = (layout : Layout) → section_in l.sought layout l.rest ≡ section_in l.sought layout l.decks

abbrev pub decreases-loop-based : goal.decreases-loop-based
decreases-loop-based l = length l.rest
