use Rattle.std.proofs.{Common.{◌≡◌, ◌+◌, ◌∷◌, ◌∙◌, ap, sym, map, drop}, lemmas.List.drop_more}
use Rattle.statement_coder.specs.Joins.Items.{item_as}
use Rattle.deck_listing.{specs.Joins.WordLines.AreJoined, proofs.WordLaws.joined-more}
use Rattle.deck_listing.proofs.field_lines.joined_fields.Goals as goal

pub loop-item-preserved : goal.loop-item-preserved
loop-item-preserved c =
    let rows = c.args.bases.now in
    let items = c.args.items.now in
    let item = c.item-item.result in
    let i = c.loop-item.item-index in
    let behind = map item_as (drop (i + 1) items) in
    let split : map item_as (drop i items) ≡ item_as item ∷ behind =
    ap (map item_as) (drop_more items i item c.loop-item-test.true ∙ ap (λ r. r ∷ drop (i + 1) items) (sym c.item-item.is)) in
    let joined : AreJoined rows c.loop-item.all (item_as item ∷ behind) (map item_as items) = rw split at c.loop-item.invariant in
    rw (c.with-all.ensures, c.field_bits.ensures.bits) (joined-more rows c.loop-item.all (item_as item) behind (map item_as items) joined)
