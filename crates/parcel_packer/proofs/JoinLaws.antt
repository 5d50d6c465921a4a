-- Equal words one behind the other as one span.
use Rattle.std.proofs.Common.{◌≡◌, ℕ, zero, suc, ◌+◌, ◌^◌, ◌≤◌, List, [], ◌∷◌, ◌++◌, refl, sym, ap, subst, ◌∙◌, arith, append_assoc}
use Rattle.definitions.specs.Words.{StoredWord}
use Rattle.parcel_packer.{specs.Joins.Filling.{DoSpansRise, as_stored, words_from}, specs.Joins.Joining.{AreJoined, IsJoining, IsPushed}, specs.declared.word_spans.WordSpan.WordSpan, proofs.RiseLaws.spans-order}

-- so many words, and so many behind them
words-both : (offset first second value : ℕ) → words_from offset (first + second) value ≡ words_from offset first value ++ words_from (offset + first) second value
words-both offset zero second value =
    let count : 0 + second ≡ second = omega arith in
    let from : offset + 0 ≡ offset = omega arith in
    rw (count, from) refl
words-both offset (suc first) second value =
    let count : suc first + second ≡ suc (first + second) = omega arith in
    let next : offset + 1 + first ≡ offset + suc first = omega arith in
    rw count (ap (λ (words : List StoredWord). record { offset = offset; value = value } ∷ words)
    (words-both (offset + 1) first second value ∙ ap (λ (n : ℕ). words_from (offset + 1) first value ++ words_from n second value) next))

module _ (first second both : WordSpan) (joined : AreJoined first second both) where
  -- the words of both spans
  both-words : words_from both.offset both.count both.value ≡ words_from first.offset first.count first.value ++ words_from second.offset second.count second.value
  both-words =
      rw (joined.offset, joined.count, joined.value, joined.same, joined.behind) (words-both first.offset first.count second.count first.value)

  joined-words : (made left : List WordSpan) → as_stored (made ++ both ∷ left) ≡ as_stored (made ++ first ∷ second ∷ left)
  joined-words [] left =
      ap (λ (words : List StoredWord). words ++ as_stored left) both-words
      ∙ append_assoc (words_from first.offset first.count first.value) (words_from second.offset second.count second.value) (as_stored left)
  joined-words (span ∷ made) left = ap (λ (words : List StoredWord). words_from span.offset span.count span.value ++ words) (joined-words made left)

  joined-rise : (low : ℕ) (made left : List WordSpan) (high : ℕ) → DoSpansRise low (made ++ first ∷ second ∷ left) high → DoSpansRise low (made ++ both ∷ left) high
  joined-rise low [] left high rise =
      let from = rise.0 in
      let some = rise.1 in
      let offset = joined.offset in
      let count = joined.count in
      let behind = joined.behind in
      let end : second.offset + second.count ≡ both.offset + both.count = omega arith in
      (omega arith, omega arith, subst (λ (n : ℕ). DoSpansRise n left high) end rise.2.2)
  joined-rise low (span ∷ made) left high rise = (rise.0, rise.1, joined-rise (span.offset + span.count) made left high rise.2)

-- a span that is one with the last of those before it
pub pushed-joined : (old made new : List WordSpan) (last next both : WordSpan) → old ≡ made ++ last ∷ [] → new ≡ made ++ both ∷ [] → AreJoined last next both → IsPushed old next new
pushed-joined old made new last next both o n joined = record {
  words = λ left. ap as_stored (new-is left) ∙ joined-words last next both joined made left ∙ ap as_stored (old-is left);
  rise = λ left high h.
      subst (λ (l : List WordSpan). DoSpansRise 0 l high) (sym (new-is left))
      (joined-rise last next both joined 0 made left high (subst (λ (l : List WordSpan). DoSpansRise 0 l high) (sym (old-is left)) h));
}
  where
    new-is : (left : List WordSpan) → new ++ left ≡ made ++ both ∷ left
    new-is left = ap (λ (l : List WordSpan). l ++ left) n ∙ append_assoc made (both ∷ []) left

    old-is : (left : List WordSpan) → made ++ last ∷ next ∷ left ≡ old ++ next ∷ left
    old-is left = sym (ap (λ (l : List WordSpan). l ++ next ∷ left) o ∙ append_assoc made (last ∷ []) (next ∷ left))

-- and one that is not
pub pushed-behind : (old new : List WordSpan) (next : WordSpan) → new ≡ old ++ next ∷ [] → IsPushed old next new
pushed-behind old new next e = record {
  words = λ left. ap as_stored (is left);
  rise = λ left high h. subst (λ (l : List WordSpan). DoSpansRise 0 l high) (sym (is left)) h;
}
  where
    is : (left : List WordSpan) → new ++ left ≡ old ++ next ∷ left
    is left = ap (λ (l : List WordSpan). l ++ left) e ∙ append_assoc old (next ∷ []) left

-- one more
pub joining-more : (spans made new left : List WordSpan) (next : WordSpan) → IsPushed made next new → IsJoining spans made (next ∷ left) → IsJoining spans new left
joining-more spans made new left next pushed h = record { words = pushed.words left ∙ h.words; rise = pushed.rise left (2 ^ 20) h.rise }

-- those that rise behind others
rise-behind : (low : ℕ) (made rest : List WordSpan) (high : ℕ) → DoSpansRise low (made ++ rest) high → (from : ℕ) × DoSpansRise from rest high
rise-behind low [] rest high rise = (low, rise)
rise-behind low (span ∷ made) rest high rise = rise-behind (span.offset + span.count) made rest high rise.2

-- the next stands within the block
pub joining-within : (spans made left : List WordSpan) (next : WordSpan) → IsJoining spans made (next ∷ left) → next.offset + next.count ≤ 2 ^ 20
joining-within spans made left next h =
    let rise = (rise-behind 0 made (next ∷ left) (2 ^ 20) h.rise).1 in
    spans-order (next.offset + next.count) left (2 ^ 20) rise.2
