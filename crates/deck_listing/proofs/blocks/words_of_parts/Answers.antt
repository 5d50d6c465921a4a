use Rattle.std.{proofs.Common.{List, ap, length, sym, subst}, specs.List.AllZip, proofs.lemmas.Result.IfOk-weaker}
use Rattle.parcel_packer.specs.Joins.Packing.{Packed}
use Rattle.deck_listing.{specs.Joins.BlockWords.{AreWhole, AreWordsOf, IsFilledWith}, specs.Joins.Walking.AreEmpty, proofs.BlockSteps.{filled-words, runs-whole}}
use Rattle.deck_listing.proofs.blocks.words_of_parts.Goals as goal

pub put_lines-requires-clause-empty : goal.put_lines-requires-clause-empty
put_lines-requires-clause-empty g c =
    subst (λ count. AreEmpty c.args.parts.now.kind count c.in_ok-packed.packed.items) (ap length c.rows.ensures) c.in_ok-packed.ensures

pub filled_blocks-requires : goal.filled_blocks-requires
filled_blocks-requires g c =
    let whole = c.requires.object in
    let parts = c.args.parts.now in
    subst AreWhole (sym c.as_slice.ensures.value)
    (runs-whole parts.kind (g.L.Linking.linking c.args.linking.now) parts.bases whole.object.coded c.put_lines.new.blocks.items (c.in_ok-put_lines.ensures whole.cards whole.object whole.are_parts))

pub returns : goal.returns
returns g c =
    IfOk-weaker c.filled_blocks.result _ _
    (λ blocks filled cards object are_parts.
    let linking = g.L.Linking.linking c.args.linking.now in
    let parts = c.args.parts.now in
    subst (λ rows. AllZip (AreWordsOf linking object) rows blocks.items) are_parts.rows
    (filled-words parts.kind linking object parts.bases c.put_lines.new.blocks.items blocks.items are_parts.kind
    (c.in_ok-put_lines.ensures cards object are_parts)
    (subst (λ (packed : List Packed). AllZip IsFilledWith packed blocks.items) c.as_slice.ensures.value filled)))
    c.filled_blocks.ensures
