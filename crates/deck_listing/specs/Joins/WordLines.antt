-- The lines of the words that fields fill, in the words of the definitions.
use Rattle.std.specs.Prelude.{ℕ, ◌≡◌, ◌≤◌, ◌<◌, ◌+◌, ◌-◌, ◌*◌, ◌/◌, ◌%◌, ◌^◌, List, Bool, false}
use Rattle.definitions.specs.{Kinds.word_bits, Listing.{central_line, central_lines, data_lines, peripheral_item_lines, peripheral_line, peripheral_lines, unlinked}, Lengths.BlockRow, Operations.{Operation, is_instruction}, StatementItems.Item, Words.{Linking, cut, joined, width_of}, declared.deck_kind.DeckKind.DeckKind, declared.deck_kind.DeckKind.TheVariants.Periph}
use Rattle.deck_objects.specs.Joins.LineItems.{AreShort}
use Rattle.deck_listing.specs.declared.field_lines.OpenWord.{OpenWord}

-- the line of one word of a deck, which is no instruction
abbrev pub word_line : DeckKind → ℕ → ℕ → List ℕ
word_line Periph word bits = peripheral_line word bits
word_line kind word bits = central_line word 0 60 bits

-- the lines of words one behind the other
abbrev pub word_lines : DeckKind → ℕ → List ℕ → List ℕ
word_lines Periph word words = peripheral_lines word words
word_lines kind word words = data_lines word words

-- whether the fields of a statement have one line together
abbrev pub has_one_line : DeckKind → Operation → Bool
has_one_line Periph operation = false
has_one_line kind operation = is_instruction operation

-- the lines of the fields of a statement, by the kind of its deck
abbrev pub fields_text : DeckKind → Linking → Operation → ℕ → List Item → List ℕ
fields_text Periph linking operation place fields = peripheral_item_lines linking operation place fields
fields_text kind linking operation place fields = central_lines linking operation place fields

-- the lines of a word that is begun and of the words behind it, where so many bits are still to come
abbrev pub lines_ahead : DeckKind → OpenWord → ℕ → ℕ → List ℕ
lines_ahead kind next width bits = word_lines kind next.word (cut (word_bits kind) ((next.width + width) / word_bits kind) (next.bits * 2 ^ width + bits))

-- a word with the bits of a field behind its own
abbrev pub with_bits : OpenWord → ℕ → ℕ → OpenWord
with_bits next width bits = record next { width = next.width + width; bits = next.bits * 2 ^ width + bits }

-- the word behind one that is full, with the bits that had no room there
abbrev pub behind_full : DeckKind → OpenWord → OpenWord
behind_full kind next = record { word = next.word + 1; width = next.width - word_bits kind; bits = next.bits % 2 ^ (next.width - word_bits kind) }

-- bits that wait and fields that are left fill whole words
pub record DoFillWords (kind : DeckKind) (next : OpenWord) (left : List Item) : Type 0 where
  pub most : next.width ≤ 120
  pub fits : next.bits < 2 ^ next.width
  pub short : AreShort left
  pub whole : (next.width + width_of left) % word_bits kind ≡ 0
  pub few : next.word + next.width + width_of left < 2 ^ 60

-- the bits so far and those of the fields that are left are the bits of all
pub record AreJoined (rows : List BlockRow) (all : OpenWord) (left items : List Item) : Type 0 where
  pub fits : all.bits < 2 ^ all.width
  pub short : AreShort left
  pub width : all.width + width_of left ≡ width_of items
  pub bits : all.bits * 2 ^ width_of left + joined (unlinked rows) left ≡ joined (unlinked rows) items
