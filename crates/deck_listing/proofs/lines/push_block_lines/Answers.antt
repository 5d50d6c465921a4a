use Rattle.std.proofs.{Common.{◌+◌, ◌≡◌, ◌∷◌, ◌++◌, ◌∙◌, ap, sym, drop, append_assoc, flat_map}, lemmas.List.drop_more}
use Rattle.definitions.specs.Listing.{block_line}
use Rattle.deck_listing.proofs.lines.push_block_lines.Goals as goal

pub loop-row-preserved : goal.loop-row-preserved
loop-row-preserved c =
    let row = c.row-item.result in
    let i = c.loop-row.row-index in
    let behind = flat_map block_line (drop (i + 1) c.args.rows.now) in
    let here : drop i c.args.rows.now ≡ row ∷ drop (i + 1) c.args.rows.now =
    drop_more c.args.rows.now i row c.loop-row-test.true ∙ ap (λ r. r ∷ drop (i + 1) c.args.rows.now) (sym c.row-item.is) in
    ap (λ t. t ++ behind) c.push_block_line.ensures
    ∙ append_assoc c.loop-row.text (block_line row) behind
    ∙ ap (λ rows. c.loop-row.text ++ flat_map block_line rows) (sym here)
    ∙ c.loop-row.invariant
