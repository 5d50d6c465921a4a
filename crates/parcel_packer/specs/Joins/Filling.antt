-- What spans of words say of each word of a block, and what they are to say (ours).
use Rattle.std.specs.{Prelude.{ℕ, zero, suc, ◌≡◌, ◌+◌, ◌-◌, ◌%◌, ◌^◌, ◌<◌, ◌≤◌, List, [], ◌∷◌, ◌++◌, Option, None, Some, Bool, true, false, ◌&&◌, nat_le, nat_lt, max, min, ◌⊎◌, unwrap_or, slice_index_or, if◌then◌else◌}, List.list_any, Option.option_or}
use Rattle.definitions.specs.{Kinds.units, Words.{Parcel, StoredWord, bits_at, in_word, word_of_parcels}, declared.deck_kind.DeckKind.DeckKind}
use Rattle.parcel_packer.specs.{declared.gathering.OpenWord.OpenWord, declared.spans.Span.Span, declared.word_spans.WordSpan.WordSpan}

-- so many words of one value, one behind the other
abbrev pub words_from : ℕ → ℕ → ℕ → List StoredWord
words_from offset zero value = []
words_from offset (suc count) value = record { offset = offset; value = value } ∷ words_from (offset + 1) count value

-- the words as the definitions have them
abbrev pub as_stored : List WordSpan → List StoredWord
as_stored [] = []
as_stored (span ∷ spans) = words_from span.offset span.count span.value ++ as_stored spans

-- spans, each of a word or more, stand one behind the other, from one offset up to another
abbrev pub DoSpansRise : ℕ → List WordSpan → ℕ → Type 0
DoSpansRise low [] high = low ≤ high
DoSpansRise low (span ∷ spans) high = (low ≤ span.offset) × (0 < span.count) × DoSpansRise (span.offset + span.count) spans high

-- whether a span has the word at an offset
abbrev pub is_within : ℕ → WordSpan → Bool
is_within offset span = nat_le span.offset offset && nat_lt offset (span.offset + span.count)

-- the value that spans of words have at an offset
abbrev pub found : ℕ → List WordSpan → Option ℕ
found offset [] = None
found offset (span ∷ spans) = if is_within offset span then Some span.value else found offset spans

-- the word that parcels make, if there are any
abbrev pub value_of_parcels : DeckKind → List Parcel → Option ℕ
value_of_parcels kind [] = None
value_of_parcels kind (parcel ∷ parcels) = Some (word_of_parcels kind (parcel ∷ parcels))

-- what a run has in a word
abbrev pub value_in : DeckKind → List Parcel → ℕ → Option ℕ
value_in kind run word = value_of_parcels kind (in_word kind word run)

-- what the latest of these runs has in a word; the latest run is the last
abbrev pub latest_value : DeckKind → List (List Parcel) → ℕ → Option ℕ
latest_value kind [] word = None
latest_value kind (run ∷ runs) word = option_or (latest_value kind runs word) (value_in kind run word)

-- spans, by increasing offset, that have at each offset the value that they are to have there
pub record IsFilled (value : ℕ → Option ℕ) (spans : List WordSpan) : Type 0 where
  pub rise : DoSpansRise 0 spans (2 ^ 20)
  pub has : (offset : ℕ) → found offset spans ≡ value offset

-- whether there are no parcels
abbrev pub is_none_there : List Parcel → Bool
is_none_there [] = true
is_none_there (parcel ∷ parcels) = false

-- a word being gathered shows what these parcels have at each place of it
pub record IsOpenWord (kind : DeckKind) (next : OpenWord) (parcels : List Parcel) : Type 0 where
  pub bits : (filling place : ℕ) → place < 4 → bits_at kind filling place parcels ≡ unwrap_or (slice_index_or next.parcels place None) filling
  pub instruction : list_any (λ (parcel : Parcel). parcel.is_instruction) parcels ≡ next.has_instruction
  pub empty : next.is_empty ≡ is_none_there parcels

-- the finished word of some parcels, if there are any
abbrev pub word_made : DeckKind → ℕ → List Parcel → List WordSpan
word_made kind offset [] = []
word_made kind offset (parcel ∷ parcels) = record { offset = offset; count = 1; value = word_of_parcels kind (parcel ∷ parcels) } ∷ []

-- a span is that of a whole word, or of whole words of zeros
pub record AreWords (kind : DeckKind) (span : Span) : Type 0 where
  pub from_word : span.place % units kind ≡ 0
  pub to_word : span.count % units kind ≡ 0
  pub some : 0 < span.count
  pub of : (span.count ≡ units kind) ⊎ (span.bits ≡ 0)

-- parcels fill so many words, each with one value, and lie in no other
pub record FillWords (kind : DeckKind) (first count value : ℕ) (parcels : List Parcel) : Type 0 where
  pub has : (word : ℕ) → first ≤ word → word < first + count → value_in kind parcels word ≡ Some value
  pub before : (word : ℕ) → word < first → in_word kind word parcels ≡ []
  pub past : (word : ℕ) → first + count ≤ word → in_word kind word parcels ≡ []

-- a run's parcels gathered: each word before the open one is finished, and nothing lies behind that
pub record IsGathered (kind : DeckKind) (parcels : List Parcel) (spans : List WordSpan) (next : OpenWord) : Type 0 where
  pub small : next.word < 2 ^ 20
  pub rise : DoSpansRise 0 spans next.word
  pub has : (offset : ℕ) → offset < next.word → found offset spans ≡ value_in kind parcels offset
  pub holds : IsOpenWord kind next (in_word kind next.word parcels)
  pub behind : (offset : ℕ) → next.word < offset → in_word kind offset parcels ≡ []

-- the words of a span from one offset up to another, as a span, if there are any
abbrev pub part_of : WordSpan → ℕ → ℕ → List WordSpan
part_of span from to =
    let begin = max span.offset from in
    let end = min (span.offset + span.count) to in
    if nat_lt begin end then record span { offset = begin; count = end - begin } ∷ [] else []

-- the words of older spans from one offset up to another stand behind others; those that reach further are left
pub record IsBetween (older : List WordSpan) (from to : ℕ) (old new left : List WordSpan) : Type 0 where
  pub more : List WordSpan
  pub are_more : new ≡ old ++ more
  pub rise : DoSpansRise from more to
  pub has : (offset : ℕ) → from ≤ offset → offset < to → found offset more ≡ found offset older
  pub left_rise : DoSpansRise 0 left (2 ^ 20)
  pub left_has : (offset : ℕ) → to ≤ offset → found offset older ≡ found offset left

-- the same as it goes on: some of the words stand there, the others are those of the spans that are left
pub record IsTaking (older : List WordSpan) (from to : ℕ) (old new left : List WordSpan) : Type 0 where
  pub more : List WordSpan
  pub are_more : new ≡ old ++ more
  pub low : ℕ
  pub within : low ≤ to
  pub rise : (high : ℕ) → from ≤ high → low ≤ high → DoSpansRise from more high
  pub left_rise : DoSpansRise low left (2 ^ 20)
  pub has : (offset : ℕ) → from ≤ offset → offset < to → option_or (found offset more) (found offset left) ≡ found offset older
  pub left_has : (offset : ℕ) → to ≤ offset → found offset older ≡ found offset left

-- two lists of spans being merged: up to an offset all words are taken, the others are those of the spans that are left
pub record IsMerging (newer older taken newer_left older_left : List WordSpan) (from : ℕ) : Type 0 where
  pub rise : DoSpansRise 0 taken from
  pub newer_rise : DoSpansRise from newer_left (2 ^ 20)
  pub older_rise : DoSpansRise 0 older_left (2 ^ 20)
  pub has : (offset : ℕ) → offset < from → found offset taken ≡ option_or (found offset newer) (found offset older)
  pub newer_has : (offset : ℕ) → from ≤ offset → found offset newer ≡ found offset newer_left
  pub older_has : (offset : ℕ) → from ≤ offset → found offset older ≡ found offset older_left
