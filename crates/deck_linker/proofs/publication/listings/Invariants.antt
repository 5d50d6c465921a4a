-- The listings so far, and those of the decks that are left.
use Rattle.std.proofs.Common.{◌≡◌, ◌∷◌, ◌++◌, drop}
use Rattle.deck_linker.specs.Publishing.{listings}
use Rattle.deck_linker.proofs.publication.listings.Given as goal

abbrev pub invariant-loop-object : goal.invariant-loop-object
invariant-loop-object l = l.text ++ listings (drop l.object-index l.objects) ≡ 0 ∷ listings l.objects
