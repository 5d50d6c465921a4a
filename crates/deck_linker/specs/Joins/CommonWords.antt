-- The words of the common blocks of a link, as the code gathers them: a list for each, in their order.
use Rattle.std.specs.{Prelude.{ℕ, ◌≡◌, ◌^◌, List, [], Option, Some, Bool, Vec, length, map, slice_get, if◌then◌else◌}, List.{list_any, position_from}, Option.is_some}
use Rattle.definitions.specs.{Characters.same_text, Image.common_words, Lengths.BlockRow, Layout.{Based, Common, Layout}, LinkValues.linking_of, Words.{StoredWord, stored_words}}
use Rattle.parcel_packer.specs.{Joins.Laying.{with_all_stored, over_all}, Joins.Filling.{DoSpansRise, as_stored}, declared.word_spans.WordSpan.WordSpan}
use Rattle.deck_linker.specs.Joins.Placing.{names_of_commons}

-- where the first common block of a name stands among others
abbrev pub common_place : List ℕ → List Common → Option ℕ
common_place name commons = position_from (same_text name) 0 (names_of_commons commons)

-- whether one of these rows is that of a common block of the link
abbrev pub has_common : List Common → List BlockRow → Bool
has_common commons rows = list_any (λ (row : BlockRow). is_some (common_place row.name commons)) rows

-- whether one of these rows has a name
abbrev pub has_row : List ℕ → List BlockRow → Bool
has_row name rows = list_any (λ (row : BlockRow). same_text row.name name) rows

-- the words that the statements of a deck store in its block of a name
abbrev pub deck_words : Layout → Based → List ℕ → List StoredWord
deck_words layout based name = stored_words based.object.kind (linking_of layout based) name based.object.coded

-- words with those that a deck stores in its block of a name over them, where it is one of these rows
abbrev pub over_rows : Layout → Based → List BlockRow → List ℕ → List StoredWord → List StoredWord
over_rows layout based rows name earlier = if has_row name rows then with_all_stored (deck_words layout based name) earlier else earlier

-- words with those that a deck stores in its block of a name over them
abbrev pub over_deck : Layout → Based → List ℕ → List StoredWord → List StoredWord
over_deck layout based name earlier = with_all_stored (deck_words layout based name) earlier

-- words with those over them that decks store in their blocks of a name, one deck after the other
abbrev pub over_decks : Layout → List ℕ → List Based → List StoredWord → List StoredWord
over_decks layout name decks earlier = over_all (map (λ (based : Based). deck_words layout based name) decks) earlier

-- words with others over them, where a row has the name
abbrev pub over_row : BlockRow → List StoredWord → List ℕ → List StoredWord → List StoredWord
over_row row words name earlier = if same_text row.name name then with_all_stored words earlier else earlier

-- each list is by increasing offset
abbrev pub DoListsRise : {Z : Type 0} → List (Vec WordSpan Z) → Type 0
DoListsRise {Z} lists = (i : ℕ) (spans : Vec WordSpan Z) → slice_get lists i ≡ Some spans → DoSpansRise 0 spans.items (2 ^ 20)

-- the list at a place has words over it, and the others are as before
pub record IsPutOver {Z : Type 0} (place : ℕ) (newer : List WordSpan) (old new : List (Vec WordSpan Z)) : Type 0 where
  pub same : length new ≡ length old
  pub rise : DoListsRise new
  pub here : (before after : Vec WordSpan Z) → slice_get old place ≡ Some before → slice_get new place ≡ Some after →
      as_stored after.items ≡ with_all_stored (as_stored newer) (as_stored before.items)
  pub others : (i : ℕ) (after : Vec WordSpan Z) → (place ≡ i → ⊥) → slice_get new i ≡ Some after → slice_get old i ≡ Some after

-- for the name of each common block, its list is what is made of the one before
pub record AreMade {Z : Type 0} (commons : List Common) (made : List ℕ → List StoredWord → List StoredWord) (old new : List (Vec WordSpan Z)) : Type 0 where
  pub same : length new ≡ length old
  pub rise : DoListsRise new
  pub each : (name : List ℕ) (i : ℕ) (before after : Vec WordSpan Z) → common_place name commons ≡ Some i → slice_get old i ≡ Some before → slice_get new i ≡ Some after →
      as_stored after.items ≡ made name (as_stored before.items)

-- so many lists without words
pub record AreNone {Z : Type 0} (count : ℕ) (lists : List (Vec WordSpan Z)) : Type 0 where
  pub same : length lists ≡ count
  pub none : (i : ℕ) (spans : Vec WordSpan Z) → slice_get lists i ≡ Some spans → spans.items ≡ []

-- these are the words of all common blocks of a link
pub record AreCommonWords {Z : Type 0} (layout : Layout) (lists : List (Vec WordSpan Z)) : Type 0 where
  pub same : length lists ≡ length layout.commons
  pub rise : DoListsRise lists
  pub each : (name : List ℕ) (i : ℕ) (spans : Vec WordSpan Z) → common_place name layout.commons ≡ Some i → slice_get lists i ≡ Some spans →
      as_stored spans.items ≡ common_words layout name layout.decks
