-- The lines of words that fields fill one behind the other.
use Rattle.std.{proofs.Common.{◌≡◌, ℕ, suc, ◌+◌, ◌-◌, ◌*◌, ◌/◌, ◌%◌, ◌^◌, ◌<◌, ◌≤◌, List, [], ◌∷◌, ◌++◌, Option, Some, None, refl, sym, ap, ap₂, ◌∙◌, arith, append_assoc}, specs.Prelude.{ℤ, pos, ◌+ℤ◌, unwrap_or}, proofs.Math.Nat.mod-lt, proofs.Math.Pow.pow_mono, proofs.lemmas.Nat.{pow-add, shr_below}}
use Rattle.definitions.{specs.Coding.coded_in, specs.Forms.Form, specs.Kinds.word_bits, specs.Lengths.{BlockRow, base_in}, specs.Listing.{unlinked, data_lines, peripheral_lines}, specs.StatementItems.{Item, Content, Known, Linked, part_value}, specs.Words.{content_bits, cut, joined, width_of}, specs.declared.deck_kind.DeckKind.DeckKind, specs.declared.deck_kind.DeckKind.TheVariants.{Rel, Abs, Periph}, proofs.WordLaws.pow_positive, specs.Laws.Filling.HasRoom, proofs.CodingLaws.coded_in-below}
use Rattle.deck_objects.specs.Joins.LineItems.{AreShort}
use Rattle.deck_listing.{specs.Joins.WordLines.{AreJoined, DoFillWords, behind_full, lines_ahead, with_bits, word_line, word_lines}, specs.declared.field_lines.OpenWord.OpenWord, proofs.CutLaws.cut-first}
use Rattle.parcel_packer.proofs.ParcelSteps.{joined_below}

or_zero-below : (width : ℕ) (value : ℤ) → unwrap_or (coded_in width value) 0 < 2 ^ width
or_zero-below width value = step (coded_in width value) refl
  where
    step : (found : Option ℕ) → coded_in width value ≡ found → unwrap_or found 0 < 2 ^ width
    step None e = pow_positive width
    step (Some bits) e = coded_in-below width value bits e

unlinked-below : (rows : List BlockRow) (width : ℕ) (form : Form) → unlinked rows width form < 2 ^ width
unlinked-below rows width form = or_zero-below width (form.number +ℤ part_value (λ name. pos (base_in name rows)) (λ name. pos 0) form.part)

-- a field with room has bits with room
pub content-below : (rows : List BlockRow) (width : ℕ) (content : Content) → HasRoom width content → content_bits (unlinked rows) width content < 2 ^ width
content-below rows width (Known bits) room = room
content-below rows width (Linked form) room = unlinked-below rows width form

-- bits behind bits, and so many more behind both
moved_up : (a x w more rest : ℕ) → (a * 2 ^ w + x) * 2 ^ more + rest ≡ a * 2 ^ (w + more) + (x * 2 ^ more + rest)
moved_up a x w more rest =
    (let e : (a * 2 ^ w + x) * 2 ^ more + rest ≡ a * (2 ^ w * 2 ^ more) + (x * 2 ^ more + rest) = omega arith in e)
    ∙ ap (λ p. a * p + (x * 2 ^ more + rest)) (sym (pow-add 2 w more))

-- fields that have room join to bits that have room
pub joined-below : (rows : List BlockRow) (fields : List Item) → AreShort fields → joined (unlinked rows) fields < 2 ^ width_of fields
joined-below rows [] short = omega arith
joined-below rows (field ∷ fields) short =
    joined_below (content_bits (unlinked rows) field.width field.content) (joined (unlinked rows) fields) field.width (width_of fields)
    (content-below rows field.width field.content short.1.0) (joined-below rows fields short.1.1)

-- a field stands behind the bits before it
lines_ahead-field : (kind : DeckKind) (next : OpenWord) (x w more rest : ℕ) → lines_ahead kind (with_bits next w x) more rest ≡ lines_ahead kind next (w + more) (x * 2 ^ more + rest)
lines_ahead-field kind next x w more rest =
    ap₂ (λ n b. word_lines kind next.word (cut (word_bits kind) (n / word_bits kind) b))
    (let e : next.width + w + more ≡ next.width + (w + more) = omega arith in e)
    (moved_up next.bits x w more rest)

-- a full word has its line, and what is behind it stands in the next word
lines_ahead-full : (kind : DeckKind) (word left bits more rest : ℕ) → bits < 2 ^ (word_bits kind + left) → rest < 2 ^ more → (word_bits kind + left + more) % word_bits kind ≡ 0 →
    lines_ahead kind (record { word = word; width = word_bits kind + left; bits = bits }) more rest
    ≡ word_line kind word (bits / 2 ^ left) ++ lines_ahead kind (record { word = word + 1; width = left; bits = bits % 2 ^ left }) more rest
lines_ahead-full Rel word left bits more rest fits small whole =
    let n = (left + more) / 60 in
    ap (λ k. data_lines word (cut 60 k (bits * 2 ^ more + rest))) (let e : (60 + left + more) / 60 ≡ suc n = omega arith in e)
    ∙ ap (data_lines word) (cut-first 60 n left more bits rest (omega arith) fits small)
lines_ahead-full Abs word left bits more rest fits small whole =
    let n = (left + more) / 60 in
    ap (λ k. data_lines word (cut 60 k (bits * 2 ^ more + rest))) (let e : (60 + left + more) / 60 ≡ suc n = omega arith in e)
    ∙ ap (data_lines word) (cut-first 60 n left more bits rest (omega arith) fits small)
lines_ahead-full Periph word left bits more rest fits small whole =
    let n = (left + more) / 12 in
    ap (λ k. peripheral_lines word (cut 12 k (bits * 2 ^ more + rest))) (let e : (12 + left + more) / 12 ≡ suc n = omega arith in e)
    ∙ ap (peripheral_lines word) (cut-first 12 n left more bits rest (omega arith) fits small)

-- a word has 12 or 60 bits
pub word_some : (kind : DeckKind) → 12 ≤ word_bits kind
word_some Rel = omega arith
word_some Abs = omega arith
word_some Periph = omega arith

pub word_most : (kind : DeckKind) → word_bits kind ≤ 60
word_most Rel = omega arith
word_most Abs = omega arith
word_most Periph = omega arith

-- what stands in a full word has at most 60 bits
pub full-below : (kind : DeckKind) (width bits : ℕ) → word_bits kind ≤ width → bits < 2 ^ width → bits / 2 ^ (width - word_bits kind) < 2 ^ 64
full-below kind width bits full fits =
    let parts : width ≡ word_bits kind + (width - word_bits kind) = omega arith in
    let below = shr_below bits (word_bits kind) (width - word_bits kind) (rw (← parts) fits) in
    let most : 2 ^ word_bits kind ≤ 2 ^ 60 = pow_mono (word_most kind) in
    omega (arith, below, most)

-- words are whole behind a full word too
whole_behind : (kind : DeckKind) (width more : ℕ) → word_bits kind ≤ width → (width + more) % word_bits kind ≡ 0 → (width - word_bits kind + more) % word_bits kind ≡ 0
whole_behind Rel width more full whole = omega arith
whole_behind Abs width more full whole = omega arith
whole_behind Periph width more full whole = omega arith

-- the line of a full word comes first
pub lines_ahead-next : (kind : DeckKind) (next : OpenWord) (more rest : ℕ) → word_bits kind ≤ next.width → next.bits < 2 ^ next.width → rest < 2 ^ more → (next.width + more) % word_bits kind ≡ 0 →
    lines_ahead kind next more rest ≡ word_line kind next.word (next.bits / 2 ^ (next.width - word_bits kind)) ++ lines_ahead kind (behind_full kind next) more rest
lines_ahead-next kind next more rest full fits small whole =
    let left = next.width - word_bits kind in
    let parts : next.width ≡ word_bits kind + left = omega arith in
    ap (λ n. lines_ahead kind (record { word = next.word; width = n; bits = next.bits }) more rest) parts
    ∙ lines_ahead-full kind next.word left next.bits more rest (rw (← parts) fits) small (rw (← parts) whole)

-- what waits behind a full word
pub filled-full : (kind : DeckKind) (next : OpenWord) (left : List Item) → DoFillWords kind next left → word_bits kind ≤ next.width → DoFillWords kind (behind_full kind next) left
filled-full kind next left h full =
    let some = word_some kind in
    record {
      most = (let m = h.most in omega arith);
      fits = mod-lt next.bits (pow_positive (next.width - word_bits kind));
      short = h.short;
      whole = whole_behind kind next.width (width_of left) full h.whole;
      few = (let f = h.few in omega arith);
    }

-- a field more waits
pub filled-field : (kind : DeckKind) (rows : List BlockRow) (next : OpenWord) (field : Item) (left : List Item) → DoFillWords kind next (field ∷ left) → next.width < word_bits kind →
    DoFillWords kind (with_bits next field.width (content_bits (unlinked rows) field.width field.content)) left
filled-field kind rows next field left h short =
    let most = word_most kind in
    let few = h.few in
    let within = h.short.0 in
    let room = h.short.1.0 in
    let rest = h.short.1.1 in
    let whole = h.whole in
    let grouped : next.width + field.width + width_of left ≡ next.width + (field.width + width_of left) = omega arith in
    record {
      most = omega arith;
      fits = joined_below next.bits _ next.width field.width h.fits (content-below rows field.width field.content room);
      short = rest;
      whole = rw grouped whole;
      few = omega arith;
    }

-- its lines are still to come
pub lines_ahead-more : (kind : DeckKind) (rows : List BlockRow) (next : OpenWord) (field : Item) (left : List Item) →
    lines_ahead kind (with_bits next field.width (content_bits (unlinked rows) field.width field.content)) (width_of left) (joined (unlinked rows) left)
    ≡ lines_ahead kind next (width_of (field ∷ left)) (joined (unlinked rows) (field ∷ left))
lines_ahead-more kind rows next field left =
    lines_ahead-field kind next (content_bits (unlinked rows) field.width field.content) field.width (width_of left) (joined (unlinked rows) left)

-- a field more is joined
pub joined-more : (rows : List BlockRow) (all : OpenWord) (field : Item) (left items : List Item) → AreJoined rows all (field ∷ left) items →
    AreJoined rows (with_bits all field.width (content_bits (unlinked rows) field.width field.content)) left items
joined-more rows all field left items h =
    let room = h.short.1.0 in
    let rest = h.short.1.1 in
    let width = h.width in
    record {
      fits = joined_below all.bits _ all.width field.width h.fits (content-below rows field.width field.content room);
      short = rest;
      width = omega arith;
      bits = moved_up all.bits (content_bits (unlinked rows) field.width field.content) field.width (width_of left) (joined (unlinked rows) left) ∙ h.bits;
    }

-- the lines so far with that of a full word
pub text-full : (kind : DeckKind) (rows : List BlockRow) (next : OpenWord) (left : List Item) (old new all : List ℕ) → DoFillWords kind next left → word_bits kind ≤ next.width →
    new ≡ old ++ word_line kind next.word (next.bits / 2 ^ (next.width - word_bits kind)) →
    old ++ lines_ahead kind next (width_of left) (joined (unlinked rows) left) ≡ all → new ++ lines_ahead kind (behind_full kind next) (width_of left) (joined (unlinked rows) left) ≡ all
text-full kind rows next left old new all h full e f =
    ap (λ t. t ++ lines_ahead kind (behind_full kind next) (width_of left) (joined (unlinked rows) left)) e
    ∙ append_assoc old (word_line kind next.word (next.bits / 2 ^ (next.width - word_bits kind))) (lines_ahead kind (behind_full kind next) (width_of left) (joined (unlinked rows) left))
    ∙ ap (λ l. old ++ l) (sym (lines_ahead-next kind next (width_of left) (joined (unlinked rows) left) full h.fits (joined-below rows left h.short) h.whole))
    ∙ f
