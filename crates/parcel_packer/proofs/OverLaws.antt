-- The words of a block with others over them, as the definitions have them.
use Rattle.std.{proofs.Common.{◌≡◌, ◌≢◌, ℕ, zero, suc, ◌+◌, ◌^◌, ◌<◌, ◌≤◌, true, false, nat_lt, List, [], ◌∷◌, ◌++◌, Some, None, refl, sym, ap, ◌∙◌, arith, inl, inr}, proofs.lemmas.Bool.cases_order, proofs.lemmas.Bool.Decides.{eqb_tells, leb_tells}, specs.Option.option_or}
use Rattle.definitions.{specs.Image.stored_at, specs.Words.StoredWord, proofs.TestLaws.option_or-none}
use Rattle.parcel_packer.proofs.RiseLaws.{none-option_or}
use Rattle.parcel_packer.{specs.Joins.Spans.RiseWithin, specs.Joins.Laying.{with_stored, with_all_stored}, specs.Joins.Filling.{DoSpansRise, IsFilled, as_stored, found, words_from}, specs.declared.word_spans.WordSpan.WordSpan, proofs.RiseLaws.{order_of, rise-lower, rise-order}, proofs.FillLaws.{stored_offsets, stored_at-other, stored_at-under, spans-found, spans-rise, unique}}

lt_is : (a b : ℕ) → a < b → nat_lt a b ≡ true
lt_is a b h = elim (leb_tells (suc a) b) [ inl e ↦ e.0 | inr e ↦ let k = e.1 in absurd (omega arith) ]

not_lt : (a b : ℕ) → b ≤ a → nat_lt a b ≡ false
not_lt a b h = elim (leb_tells (suc a) b) [ inl e ↦ let k = e.1 in absurd (omega arith) | inr e ↦ e.0 ]

-- a word put among others is found at its offset, and else they are
stored_at-with : (offset : ℕ) (word : StoredWord) (words : List StoredWord) → stored_at offset (with_stored word words) ≡ option_or (stored_at offset (word ∷ [])) (stored_at offset words)
stored_at-with offset word [] = sym (option_or-none (stored_at offset (word ∷ [])) None refl)
stored_at-with offset word (other ∷ words) = elim (eqb_tells word.offset other.offset) [
  | inl e ↦ rw e.0 (in_place e.1)
  | inr e ↦ rw e.0 (elim (order_of word.offset other.offset) [
    | inl before ↦ rw (lt_is word.offset other.offset before) (in_front word (other ∷ words))
    | inr behind ↦ rw (not_lt word.offset other.offset behind) (past e.1 (stored_at-with offset word words))
  ])
]
  where
    in_front : (w : StoredWord) (ws : List StoredWord) → stored_at offset (w ∷ ws) ≡ option_or (stored_at offset (w ∷ [])) (stored_at offset ws)
    in_front w ws = elim (eqb_tells w.offset offset) [ inl e ↦ rw e.0 refl | inr e ↦ rw e.0 refl ]

    in_place : word.offset ≡ other.offset → stored_at offset (word ∷ words) ≡ option_or (stored_at offset (word ∷ [])) (stored_at offset (other ∷ words))
    in_place same = elim (eqb_tells word.offset offset) [
      | inl e ↦ rw e.0 refl
      | inr e ↦ rw e.0 (sym (stored_at-other offset other words (λ k. e.1 (same ∙ k))))
    ]

    past : word.offset ≢ other.offset → stored_at offset (with_stored word words) ≡ option_or (stored_at offset (word ∷ [])) (stored_at offset words) → stored_at offset (other ∷ with_stored word words) ≡ option_or (stored_at offset (word ∷ [])) (stored_at offset (other ∷ words))
    past apart rest = elim (eqb_tells other.offset offset) [
      | inl e ↦ rw e.0 (sym (none-option_or (stored_at offset (word ∷ [])) (Some other.value) (stored_at-other offset word [] (λ k. apart (k ∙ sym e.1)))))
      | inr e ↦ rw e.0 rest
    ]

pub over-found : (offset low high : ℕ) (words others : List StoredWord) → RiseWithin low (stored_offsets words) high → stored_at offset (with_all_stored words others) ≡ option_or (stored_at offset words) (stored_at offset others)
over-found offset low high [] others h = refl
over-found offset low high (word ∷ words) others h =
    over-found offset (word.offset + 1) high words (with_stored word others) h.1
    ∙ ap (option_or (stored_at offset words)) (stored_at-with offset word others)
    ∙ elim (eqb_tells word.offset offset) [
      | inl e ↦ rw e.0 (let at = e.1 in none-option_or (stored_at offset words) (Some word.value) (stored_at-under offset (word.offset + 1) words high h.1 (omega arith)))
      | inr e ↦ rw e.0 refl
    ]

with-rise : (low : ℕ) (word : StoredWord) (words : List StoredWord) (high : ℕ) → low ≤ word.offset → word.offset < high → RiseWithin low (stored_offsets words) high → RiseWithin low (stored_offsets (with_stored word words)) high
with-rise low word [] high from to h = (from, omega arith)
with-rise low word (other ∷ words) high from to h = elim (eqb_tells word.offset other.offset) [
  | inl e ↦ rw e.0 (let same = e.1 in (from, rise-lower (word.offset + 1) (other.offset + 1) (stored_offsets words) high h.1 (omega arith)))
  | inr e ↦ rw e.0 (elim (order_of word.offset other.offset) [
    | inl before ↦ rw (lt_is word.offset other.offset before) (from, (omega arith, h.1))
    | inr behind ↦ rw (not_lt word.offset other.offset behind) (h.0, with-rise (other.offset + 1) word words high (later e.1 behind) to h.1)
  ])
]
  where
    later : word.offset ≢ other.offset → other.offset ≤ word.offset → other.offset + 1 ≤ word.offset
    later apart behind = elim (cases_order word.offset other.offset) [ inl e ↦ absurd (apart e) | inr r ↦ omega arith ]

pub over-rise : (low : ℕ) (words others : List StoredWord) (high : ℕ) → RiseWithin 0 (stored_offsets others) high → RiseWithin low (stored_offsets words) high → RiseWithin 0 (stored_offsets (with_all_stored words others)) high
over-rise low [] others high h k = h
over-rise low (word ∷ words) others high h k =
    let above = rise-order (word.offset + 1) (stored_offsets words) high k.1 in
    over-rise (word.offset + 1) words (with_stored word others) high (with-rise 0 word others high (omega arith) (omega arith) h) k.1

-- spans that are filled from two lists are the words of one over those of the other
pub filled_over : (newer older spans : List WordSpan) → DoSpansRise 0 newer (2 ^ 20) → DoSpansRise 0 older (2 ^ 20) → IsFilled (λ offset. option_or (found offset newer) (found offset older)) spans →
    as_stored spans ≡ with_all_stored (as_stored newer) (as_stored older)
filled_over newer older spans h k both =
    let newer_rise = spans-rise 0 newer (2 ^ 20) h in
    unique (as_stored spans) (with_all_stored (as_stored newer) (as_stored older)) 0 (2 ^ 20) (2 ^ 20) (spans-rise 0 spans (2 ^ 20) both.rise)
    (over-rise 0 (as_stored newer) (as_stored older) (2 ^ 20) (spans-rise 0 older (2 ^ 20) k) newer_rise)
    (λ offset. spans-found offset spans ∙ both.has offset ∙ sym (over-found offset 0 (2 ^ 20) (as_stored newer) (as_stored older) newer_rise ∙ pair offset))
  where
    pair : (offset : ℕ) → option_or (stored_at offset (as_stored newer)) (stored_at offset (as_stored older)) ≡ option_or (found offset newer) (found offset older)
    pair offset = rw (spans-found offset newer, spans-found offset older) refl

-- rising spans are some words or none
pub some_stored : (low high : ℕ) (spans : List WordSpan) → DoSpansRise low spans high → as_stored spans ≡ [] → spans ≡ []
some_stored low high [] h e = refl
some_stored low high (span ∷ spans) h e = absurd (some_words span.offset span.count span.value h.1 e)
  where
    some_words : (offset count value : ℕ) → 0 < count → words_from offset count value ++ as_stored spans ≡ [] → ⊥
    some_words offset zero value k e = absurd (omega arith)
    some_words offset (suc count) value k e = cc
