-- A whole word, and whole words of zeros, gathered at once.
use Rattle.std.{proofs.Common.{◌≡◌, ◌≢◌, ℕ, zero, suc, ◌+◌, ◌-◌, ◌*◌, ◌/◌, ◌%◌, ◌^◌, ◌<◌, ◌≤◌, Bool, true, nat_eq, List, [], ◌∷◌, ◌++◌, Some, length, replicate, refl, sym, ap, subst, ◌∙◌, arith, inl, inr, append-nil}, proofs.lemmas.Bool.Decides.eqb_tells, proofs.lemmas.Nat.{shr_le, shr_split}, proofs.lemmas.List.{Elements.filter-append, length-replicate, replicate_more, replicate-append-replicate}}
use Rattle.definitions.{specs.Image.stored_at, specs.Kinds.{units, unit_bits}, specs.Words.{Parcel, bits_at, cut, filling_of, in_word, parcels_from, word_of_parcels}, specs.declared.deck_kind.DeckKind.DeckKind, specs.declared.deck_kind.DeckKind.TheVariants.{Rel, Abs, Periph}, proofs.TestLaws.option_or-none}
use Rattle.parcel_packer.{specs.Joins.Packing.parcel_at, specs.Joins.Spans.span_parcels, specs.Joins.Filling.{AreWords, DoSpansRise, FillWords, IsGathered, IsOpenWord, as_stored, found, value_in, value_of_parcels}, specs.Joins.Joining.IsPushed, specs.declared.gathering.OpenWord.OpenWord, specs.declared.spans.Span.Span, specs.declared.word_spans.WordSpan.WordSpan, proofs.FillLaws.spans-found, proofs.GatherLaws.{no_parcels, word_four}, proofs.PackingLaws.{cut-length, parcels_from-append}, proofs.RiseLaws.{none-option_or, spans-push, found-append, found-above, found-here, found-before, order_of, units_le}}

cut-zero : (size count : ℕ) → cut size count 0 ≡ replicate count 0
cut-zero size zero = refl
cut-zero size (suc count) =
    let none : 0 / 2 ^ size ≡ 0 = let le = shr_le 0 size in omega arith in
    let rest : 0 % 2 ^ size ≡ 0 = let split = shr_split 0 size in omega arith in
    let more : count + 1 ≡ suc count = omega arith in
    rw (none, rest) (ap (λ ns. ns ++ 0 ∷ []) (cut-zero size count) ∙ replicate_more count 0 ∙ ap (λ n. replicate n 0) more)

-- parcels of other words
held-none : (kind : DeckKind) (word : ℕ) (instruction : Bool) (place : ℕ) (bits : List ℕ) → ((n : ℕ) → place ≤ n → n < place + length bits → n / units kind ≢ word) → in_word kind word (parcels_from instruction place bits) ≡ []
held-none kind word instruction place [] other = refl
held-none kind word instruction place (first ∷ bits) other = elim (eqb_tells (place / units kind) word) [
  | inl h ↦ absurd (other place (omega arith) (omega arith) h.1)
  | inr h ↦ rw h.0 (held-none kind word instruction (place + 1) bits (λ n a b. other n (omega arith) (omega arith)))
]

-- parcels of this word
held-all : (kind : DeckKind) (word : ℕ) (instruction : Bool) (place : ℕ) (bits : List ℕ) → ((n : ℕ) → place ≤ n → n < place + length bits → n / units kind ≡ word) →
    in_word kind word (parcels_from instruction place bits) ≡ parcels_from instruction place bits
held-all kind word instruction place [] same = refl
held-all kind word instruction place (first ∷ bits) same = elim (eqb_tells (place / units kind) word) [
  | inl h ↦ rw h.0 (ap (λ ps. parcel_at instruction place first ∷ ps) (held-all kind word instruction (place + 1) bits (λ n a b. same n (omega arith) (omega arith))))
  | inr h ↦ absurd (h.1 (same place (omega arith) (omega arith)))
]

in_word-both : (kind : DeckKind) (word : ℕ) (xs ys : List Parcel) → in_word kind word (xs ++ ys) ≡ in_word kind word xs ++ in_word kind word ys
in_word-both kind word xs ys = filter-append (λ (p : Parcel). nat_eq (p.place / units kind) word) xs ys

-- the words of parcels that are those of whole words
word_past : (kind : DeckKind) (place count n : ℕ) → place % units kind ≡ 0 → count % units kind ≡ 0 → n < place + count → n / units kind < place / units kind + count / units kind
word_past Rel place count n a b h = omega arith
word_past Abs place count n a b h = omega arith
word_past Periph place count n a b h = omega arith

word_there : (kind : DeckKind) (place count word : ℕ) → place % units kind ≡ 0 → count % units kind ≡ 0 → place / units kind ≤ word → word < place / units kind + count / units kind →
    (place + (units kind * word - place) ≡ units kind * word) × (count ≡ (units kind * word - place) + (units kind + (place + count - (units kind * word + units kind)))) × (units kind * word % units kind ≡ 0)
word_there Rel place count word a b h k = (omega arith, omega arith, omega arith)
word_there Abs place count word a b h k = (omega arith, omega arith, omega arith)
word_there Periph place count word a b h k = (omega arith, omega arith, omega arith)

-- places before a word, in it and behind it
word_of : (kind : DeckKind) (word n : ℕ) →
    (n < units kind * word → n / units kind < word) × (units kind * word ≤ n → n < units kind * word + units kind → n / units kind ≡ word) × (units kind * word + units kind ≤ n → word < n / units kind)
word_of Rel word n = (λ a. omega arith, λ a b. omega arith, λ a. omega arith)
word_of Abs word n = (λ a. omega arith, λ a b. omega arith, λ a. omega arith)
word_of Periph word n = (λ a. omega arith, λ a b. omega arith, λ a. omega arith)

-- parcels before a word, those of it and those behind it
held_middle : (kind : DeckKind) (word : ℕ) (instruction : Bool) (place : ℕ) (front middle back : List ℕ) → place + length front ≡ units kind * word → length middle ≡ units kind →
    in_word kind word (parcels_from instruction place (front ++ (middle ++ back))) ≡ parcels_from instruction (units kind * word) middle
held_middle kind word instruction place front middle back h k =
    let first = units kind * word in
    let xs = parcels_from instruction place front in
    let ys = parcels_from instruction first middle in
    let zs = parcels_from instruction (first + length middle) back in
    ap (in_word kind word)
    (parcels_from-append instruction place front (middle ++ back) ∙ ap (λ p. xs ++ parcels_from instruction p (middle ++ back)) h ∙ ap (λ ps. xs ++ ps) (parcels_from-append instruction first middle back))
    ∙ in_word-both kind word xs (ys ++ zs)
    ∙ ap (λ ps. ps ++ in_word kind word (ys ++ zs)) (held-none kind word instruction place front (λ n a b e. let lt = (word_of kind word n).0 (rw h at b) in absurd (omega arith)))
    ∙ in_word-both kind word ys zs
    ∙ ap (λ ps. ps ++ in_word kind word zs) (held-all kind word instruction first middle (λ n a b. (word_of kind word n).1 a (rw k at b)))
    ∙ ap (λ ps. ys ++ ps) (held-none kind word instruction (first + length middle) back (λ n a b e. let lt = (word_of kind word n).2 (rw k at a) in absurd (omega arith)))
    ∙ append-nil ys

one_word : (kind : DeckKind) → units kind / units kind ≡ 1
one_word Rel = refl
one_word Abs = refl
one_word Periph = refl

four_joined : (n : ℕ) → ((n / 32768 / 32768 / 32768 % 32768 * 32768 + n / 32768 / 32768 % 32768) * 32768 + n / 32768 % 32768) * 32768 + n % 32768 ≡ n % 2 ^ 60
four_joined n = omega arith

four_cut : (kind : DeckKind) (instruction : Bool) (place bits : ℕ) → units kind ≡ 4 → place % 4 ≡ 0 → word_of_parcels kind (parcels_from instruction place (cut 15 4 bits)) ≡ bits % 2 ^ 60
four_cut kind instruction place bits four p0 =
    let p1 : (place + 1) % 4 ≡ 1 = omega arith in
    let p2 : (place + 1 + 1) % 4 ≡ 2 = omega arith in
    let p3 : (place + 1 + 1 + 1) % 4 ≡ 3 = omega arith in
    word_four kind (parcels_from instruction place (cut 15 4 bits)) _ _ _ _ (rw four (λ e. absurd (omega arith))) (rw (four, p0) refl) (rw (four, p0, p1) refl) (rw (four, p0, p1, p2) refl) (rw (four, p0, p1, p2, p3) refl)
    ∙ four_joined bits

-- the word whose parcels are a number cut
word_cut : (kind : DeckKind) (instruction : Bool) (place bits : ℕ) → place % units kind ≡ 0 →
    value_of_parcels kind (parcels_from instruction place (cut (unit_bits kind) (units kind) bits)) ≡ Some (bits % 2 ^ (unit_bits kind * units kind))
word_cut Rel instruction place bits h = ap Some (four_cut Rel instruction place bits refl h)
word_cut Abs instruction place bits h = ap Some (four_cut Abs instruction place bits refl h)
word_cut Periph instruction place bits h =
    let p0 : place % 1 ≡ 0 = omega arith in
    let ps = parcels_from instruction place (cut 12 1 bits) in
    let only : (f : ℕ) → bits_at Periph f 0 ps ≡ bits % 4096 = λ f. rw p0 refl in
    ap Some (omega (arith, only (filling_of Periph ps)))

-- a span of whole words fills them
pub span_fills : (kind : DeckKind) (span : Span) (first again size width word value : ℕ) → AreWords kind span → first ≡ units kind → again ≡ units kind → size ≡ unit_bits kind → width ≡ units kind →
    word ≡ span.place / first → value ≡ span.bits % 2 ^ (size * width) → FillWords kind word (span.count / again) value (span_parcels (unit_bits kind) span)
span_fills kind span first again size width word value h f a s w e v = rw (e, v, f, a, s, w) (record {
  has = λ at from to. elim h.of [
    | inl one ↦ whole at from to one
    | inr empty ↦ none at from to empty
  ];
  before = λ at below. held-none kind at span.is_instruction span.place bits (λ n c d same. let le = units_le kind span.place n c in absurd (omega arith));
  past = λ at above. held-none kind at span.is_instruction span.place bits (λ n c d same. let lt = word_past kind span.place span.count n h.from_word h.to_word (rw many at d) in absurd (omega arith));
})
  where
    bits : List ℕ
    bits = cut (unit_bits kind) span.count span.bits

    many : length bits ≡ span.count
    many = cut-length (unit_bits kind) span.count span.bits

    whole : (at : ℕ) → span.place / units kind ≤ at → at < span.place / units kind + span.count / units kind → span.count ≡ units kind →
        value_in kind (span_parcels (unit_bits kind) span) at ≡ Some (span.bits % 2 ^ (unit_bits kind * units kind))
    whole at from to one =
        let single : span.count / units kind ≡ 1 = ap (λ n. n / units kind) one ∙ one_word kind in
        ap (value_of_parcels kind) (held-all kind at span.is_instruction span.place bits
        (λ n c d. let le = units_le kind span.place n c in let lt = word_past kind span.place span.count n h.from_word h.to_word (rw many at d) in omega (arith, single)))
        ∙ ap (λ n. value_of_parcels kind (parcels_from span.is_instruction span.place (cut (unit_bits kind) n span.bits))) one
        ∙ word_cut kind span.is_instruction span.place span.bits h.from_word

    none : (at : ℕ) → span.place / units kind ≤ at → at < span.place / units kind + span.count / units kind → span.bits ≡ 0 →
        value_in kind (span_parcels (unit_bits kind) span) at ≡ Some (span.bits % 2 ^ (unit_bits kind * units kind))
    none at from to empty =
        let i = span.is_instruction in
        let first = units kind * at in
        let before = first - span.place in
        let behind = span.place + span.count - (first + units kind) in
        let parts = word_there kind span.place span.count at h.from_word h.to_word from to in
        let front = replicate before 0 in
        let zeros : bits ≡ front ++ (replicate (units kind) 0 ++ replicate behind 0) =
        ap (λ n. cut (unit_bits kind) span.count n) empty ∙ cut-zero (unit_bits kind) span.count ∙ ap (λ n. replicate n 0) parts.1
        ∙ sym (replicate-append-replicate before (units kind + behind) 0) ∙ ap (λ ns. front ++ ns) (sym (replicate-append-replicate (units kind) behind 0)) in
        ap (λ ns. value_of_parcels kind (in_word kind at (parcels_from i span.place ns))) zeros
        ∙ ap (value_of_parcels kind)
        (held_middle kind at i span.place front (replicate (units kind) 0) (replicate behind 0) (ap (λ n. span.place + n) (length-replicate before 0) ∙ parts.0) (length-replicate (units kind) 0))
        ∙ ap (λ ns. value_of_parcels kind (parcels_from i first ns)) (sym (cut-zero (unit_bits kind) (units kind)))
        ∙ word_cut kind i first 0 parts.2
        ∙ ap (λ n. Some (n % 2 ^ (unit_bits kind * units kind))) (sym empty)

-- nothing lies from the open word on
none-behind : (kind : DeckKind) (parcels : List Parcel) (spans : List WordSpan) (next : OpenWord) (offset : ℕ) → IsGathered kind parcels spans next → next.is_empty ≡ true → next.word ≤ offset → in_word kind offset parcels ≡ []
none-behind kind parcels spans next offset h empty from = elim (order_of next.word offset) [
  | inl behind ↦ h.behind offset behind
  | inr same ↦ let e : offset ≡ next.word = omega arith in rw e (no_parcels (in_word kind next.word parcels) (sym h.holds.empty ∙ empty))
]

-- so many words of one value from the open word on, in which nothing lies
pub words_gathered : (kind : DeckKind) (parcels more : List Parcel) (old : List WordSpan) (next : OpenWord) (count value : ℕ) → next.is_empty ≡ true → 0 < count → next.word + count < 2 ^ 20 →
    FillWords kind next.word count value more → IsGathered kind parcels old next →
    IsGathered kind (parcels ++ more) (old ++ (let s : WordSpan = record { offset = next.word; count = count; value = value } in s) ∷ []) (record next { word = next.word + count })
words_gathered kind parcels more old next count value empty some small fill h =
    record {
      small = small;
      rise = spans-push 0 old span (next.word + count) h.rise some (omega arith);
      has = λ offset below. found-append offset old (span ∷ []) ∙ elim (order_of offset next.word) [
        | inl before ↦
            option_or-none (found offset old) (found offset (span ∷ [])) (found-before offset span [] before)
            ∙ h.has offset before
            ∙ ap (value_of_parcels kind) (sym (in_word-both kind offset parcels more ∙ ap (λ ps. in_word kind offset parcels ++ ps) (fill.before offset before) ∙ append-nil (in_word kind offset parcels)))
        | inr behind ↦
            none-option_or (found offset old) (found offset (span ∷ [])) (found-above offset 0 old next.word h.rise behind)
            ∙ found-here offset span [] behind below
            ∙ sym (fill.has offset behind below)
            ∙ ap (value_of_parcels kind) (sym (in_word-both kind offset parcels more ∙ ap (λ ps. ps ++ in_word kind offset more) (none-behind kind parcels old next offset h empty behind)))
      ];
      holds = let Holds : List Parcel → Type 0 = λ ps. IsOpenWord kind next ps in
          let same : in_word kind next.word parcels ≡ in_word kind (next.word + count) (parcels ++ more) = no_parcels _ (sym h.holds.empty ∙ empty) ∙ sym (no_more (next.word + count) (omega arith)) in
          let held = subst Holds same h.holds in record { bits = held.bits; instruction = held.instruction; empty = held.empty };
      behind = λ offset above. no_more offset (omega arith);
    }
  where
    span : WordSpan
    span = record { offset = next.word; count = count; value = value }

    no_more : (offset : ℕ) → next.word + count ≤ offset → in_word kind offset (parcels ++ more) ≡ []
    no_more offset past =
        in_word-both kind offset parcels more
        ∙ ap (λ ps. ps ++ in_word kind offset more) (none-behind kind parcels old next offset h empty (omega arith))
        ∙ fill.past offset past

-- the same where they join the last span
pub gathered_pushed : (kind : DeckKind) (parcels : List Parcel) (old new : List WordSpan) (span : WordSpan) (next : OpenWord) → IsPushed old span new → IsGathered kind parcels (old ++ span ∷ []) next → IsGathered kind parcels new next
gathered_pushed kind parcels old new span next pushed h = record {
  small = h.small;
  rise = subst (λ (l : List WordSpan). DoSpansRise 0 l next.word) (append-nil new) (pushed.rise [] next.word h.rise);
  has = λ offset below.
      sym (ap (λ (l : List WordSpan). stored_at offset (as_stored l)) (append-nil new) ∙ spans-found offset new)
      ∙ ap (stored_at offset) (pushed.words [])
      ∙ spans-found offset (old ++ span ∷ [])
      ∙ h.has offset below;
  holds = h.holds;
  behind = h.behind;
}
