-- The words of all blocks of an object.
use Rattle.std.specs.{Prelude.{ℕ, ◌≡◌, ◌^◌, List, Some, Vec, slice_get}, List.AllZip}
use Rattle.definitions.specs.{Lengths.BlockRow, Objects.Object, Words.{Linking, stored, stored_words, words_in}}
use Rattle.parcel_packer.specs.{Joins.Filling.{DoSpansRise, as_stored}, Joins.Packing.{Packed, runs_in}, declared.word_spans.WordSpan.WordSpan}

-- spans by increasing offset are the words that the statements of an object store in a block
pub record AreWordsOf {Z : Type 0} (linking : Linking) (object : Object) (row : BlockRow) (spans : Vec WordSpan Z) : Type 0 where
  pub words : as_stored spans.items ≡ stored_words object.kind linking row.name object.coded
  pub rise : DoSpansRise 0 spans.items (2 ^ 20)

-- the words that the statements of an object store in each of its blocks
abbrev pub AreBlockWords : {Z : Type 0} → Linking → Object → List (Vec WordSpan Z) → Type 0
AreBlockWords linking object blocks = AllZip (AreWordsOf linking object) object.rows blocks

-- spans by increasing offset are the words of what is packed
pub record IsFilledWith {Z : Type 0} (packed : Packed) (spans : Vec WordSpan Z) : Type 0 where
  pub words : as_stored spans.items ≡ stored packed.kind (runs_in packed) (words_in packed.kind (runs_in packed))
  pub rise : DoSpansRise 0 spans.items (2 ^ 20)

-- in none of these blocks a parcel is open
abbrev pub AreWhole : List Packed → Type 0
AreWhole packed = (i : ℕ) (words : Packed) → slice_get packed i ≡ Some words → words.run.filled ≡ 0
