use Rattle.std.proofs.Common.{◌≡◌, ◌<◌, ◌≤◌, ◌∷◌, ◌∙◌, ap, map, ◌++◌}
use Rattle.definitions.specs.Kinds.{word_bits}
use Rattle.statement_coder.specs.Joins.Items.{item_as}
use Rattle.deck_listing.{specs.Joins.WordLines.DoFillWords, proofs.WordLaws.{filled-full, filled-field, text-full, lines_ahead-more}}
use Rattle.deck_listing.proofs.field_lines.push_word_lines.Goals as goal

pub fields-preserved-then-next-word_bits : goal.fields-preserved-then-next-word_bits
fields-preserved-then-next-word_bits c =
    let full : word_bits c.args.kind ≤ c.fields.next.width = rw c.word_bits.ensures at c.if-next-word_bits.true in
    rw c.push_full_word-next.ensures.next (record {
      filled = filled-full c.args.kind c.fields.next (map item_as c.fields.left.now) c.fields.invariant.filled full;
      text = text-full c.args.kind c.args.bases.now c.fields.next (map item_as c.fields.left.now) c.fields.text c.push_full_word-next.new.text _
          c.fields.invariant.filled full c.push_full_word-next.ensures.text c.fields.invariant.text;
    })

pub fields-preserved : goal.fields-preserved
fields-preserved c =
    let kind = c.args.kind in
    let rows = c.args.bases.now in
    let next = c.fields.next in
    let field = item_as c.in-Some.item.now in
    let behind = map item_as c.in-Some.behind.now in
    let split : map item_as c.fields.left.now ≡ field ∷ behind = ap (map item_as) c.in-Some.ensures.cases.0 in
    let filled : DoFillWords kind next (field ∷ behind) = rw split at c.fields.invariant.filled in
    let text = rw split at c.fields.invariant.text in
    let room : next.width < word_bits kind = rw c.word_bits.ensures at c.if-next-word_bits.false in
    rw (c.with-next.ensures, c.field_bits.ensures.bits) (record {
      filled = filled-field kind rows next field behind filled room;
      text = ap (λ l. c.fields.text ++ l) (lines_ahead-more kind rows next field behind) ∙ text;
    })
