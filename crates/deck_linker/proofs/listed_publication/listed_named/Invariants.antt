-- what is looked for is in the decks that are left, if anywhere.
use Rattle.std.proofs.Common.{◌≡◌, length}
use Rattle.deck_linker.specs.Publishing.{listing_named}
use Rattle.deck_linker.proofs.listed_publication.listed_named.Given as goal

abbrev pub invariant-loop-object : goal.invariant-loop-object
invariant-loop-object l = listing_named l.name l.objects ≡ listing_named l.name l.rest

abbrev pub decreases-loop-object : goal.decreases-loop-object
decreases-loop-object l = length l.rest
