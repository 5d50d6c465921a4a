-- The lines so far, and those of the listings that are left.
use Rattle.std.proofs.Common.{◌≡◌, ◌+◌, drop}
use Rattle.deck_listing.specs.ListedObjects.{lines_in}
use Rattle.deck_linker.specs.Publishing.{listings}
use Rattle.deck_linker.proofs.published_listing.listing_lines.Given as goal

abbrev pub invariant-loop-object : goal.invariant-loop-object
invariant-loop-object l = l.lines + lines_in (listings (drop l.object-index l.objects)) ≡ lines_in (listings l.objects)
