-- Decks and common blocks one behind the other, a step at a time.
use Rattle.std.{proofs.Common.{ℕ, ◌≡◌, ◌+◌, ◌<◌, ◌≤◌, Bool, true, false, List, [], ◌∷◌, refl, ap, ◌∙◌}, specs.Prelude.map}
use Rattle.definitions.specs.{Kinds.{memory_end, is_absolute_deck}, Lengths.BlockLength, Layout.{Based, Place, based_at, based_from, commons_from, deck_length, deck_place, end_after, end_after_common, has_beyond, place, placed}, Objects.Object, declared.deck_kind.DeckKind.DeckKind, declared.deck_kind.DeckKind.TheVariants.{Rel, Abs, Periph}}
use Rattle.deck_linker.{specs.Joins.Placing.{names_of_lengths, names_of_commons}, proofs.TestLaws.{lt-true, lt-false}}

-- an object with its base, and whether it passes the end
abbrev based_as : Object → ℕ → Bool → Based
based_as object base past = record { object = object; base = base; is_past = past }

-- the place of so many words, by whether they would pass the end of memory
abbrev place_by : ℕ → ℕ → Bool → Place
place_by base words past = elim past [
  | true ↦ record { base = 0; is_past = true; end = base }
  | false ↦ record { base = base; is_past = false; end = base + words }
]

-- words that would pass it
place-past : (base words : ℕ) → 0o400000 < base + words → place base words ≡ place_by base words true
place-past base words past = ap (λ (t : Bool). place_by base words t) (lt-true (memory_end Rel) (base + words) past)

-- words that would not
place-standing : (base words : ℕ) → base + words ≤ 0o400000 → place base words ≡ place_by base words false
place-standing base words within = ap (λ (t : Bool). place_by base words t) (lt-false (memory_end Rel) (base + words) within)

-- a REL deck has the place of its words
rel-place : (base : ℕ) (object : Object) → object.kind ≡ Rel → deck_place object.kind base object ≡ place base (deck_length object)
rel-place base object rel = ap (λ (kind : DeckKind). deck_place kind base object) rel

-- one that would pass the end of memory
pub placed-past : (base : ℕ) (object : Object) → object.kind ≡ Rel → 0o400000 < base + deck_length object → placed base object ≡ based_as object 0 true
placed-past base object rel past = ap (λ (here : Place). based_at object here) (rel-place base object rel ∙ place-past base (deck_length object) past)

-- one that would not
pub placed-standing : (base : ℕ) (object : Object) → object.kind ≡ Rel → base + deck_length object ≤ 0o400000 → placed base object ≡ based_as object base false
placed-standing base object rel within = ap (λ (here : Place). based_at object here) (rel-place base object rel ∙ place-standing base (deck_length object) within)

-- an ABS or PERIPH deck
pub placed-absolute : (base : ℕ) (object : Object) → is_absolute_deck object.kind ≡ true → placed base object ≡ based_as object 0 (has_beyond object)
placed-absolute base object absolute = by_kind object.kind absolute
  where
    by_kind : (kind : DeckKind) → is_absolute_deck kind ≡ true → based_at object (deck_place kind base object) ≡ based_as object 0 (has_beyond object)
    by_kind Rel h = absurd (cc)
    by_kind Abs h = refl
    by_kind Periph h = refl

-- a REL deck that would pass the end of memory moves no other
pub end-past : (base : ℕ) (object : Object) → object.kind ≡ Rel → 0o400000 < base + deck_length object → end_after base object ≡ base
end-past base object rel past = ap (λ (here : Place). here.end) (rel-place base object rel ∙ place-past base (deck_length object) past)

-- one that does not is followed by the next
pub end-standing : (base : ℕ) (object : Object) → object.kind ≡ Rel → base + deck_length object ≤ 0o400000 → end_after base object ≡ base + deck_length object
end-standing base object rel within = ap (λ (here : Place). here.end) (rel-place base object rel ∙ place-standing base (deck_length object) within)

-- common blocks keep their names
pub names-commons : (base : ℕ) (blocks : List BlockLength) → names_of_commons (commons_from base blocks) ≡ names_of_lengths blocks
names-commons base [] = refl
names-commons base (block ∷ blocks) = ap (λ (names : List (List ℕ)). block.name ∷ names) (names-commons (end_after_common base block) blocks)

-- decks in their places are those decks
pub objects-based : (base : ℕ) (objects : List Object) → map (λ (based : Based). based.object) (based_from base objects) ≡ objects
objects-based base [] = refl
objects-based base (object ∷ objects) = ap (λ (others : List Object). object ∷ others) (objects-based (end_after base object) objects)
