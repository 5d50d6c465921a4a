use Rattle.std.proofs.Common.{ℕ, List, ◌++◌, ◌∙◌, sym, ap, arith, length}
use Rattle.deck_listing.specs.ListedObjects.{lines_in}
use Rattle.deck_linker.{specs.Publishing.listings, proofs.InPieceLaws.listing-parts}
use Rattle.deck_linker.proofs.published_listing.PublishedListing.new.Goals as goal

pub invariant_of-result : goal.invariant_of-result
invariant_of-result c =
    let objects = c.args.objects.now in
    listing-parts _ objects c.all_lines-lines.result c.in_ok-room.room _ _ c.in_ok-shared.ensures
    (c.all_lines-lines.ensures ∙ ap (λ (m : List ℕ). lines_in (listings objects ++ m)) (c.as_slice-2.ensures ∙ sym c.map.view_is)) (c.map.view_is ∙ c.requires)
    c.in_ok-room.ensures.fit c.in_ok-with_room.ensures (omega (arith, c.in_ok-room.ensures.few, ap length c.as_slice.ensures, ap length c.map.view_is))
