-- The lines of stored words.
use Rattle.std.specs.Prelude.{ℕ, zero, suc, ◌+◌, List, [], ◌++◌, codes, not, filter, flat_map, if◌then◌else◌}
use Rattle.definitions.specs.{Blocks.is_common, Image.word_line, Kinds.kind_text, Lengths.BlockRow, Layout.{AddressedWord, addressed, block_words, is_beyond, literal_stored}, Listing.line, Numerals.octal_of, Objects.Object, Words.Linking, declared.deck_kind.DeckKind.DeckKind, declared.deck_kind.DeckKind.TheVariants.Periph}
use Rattle.parcel_packer.specs.{Joins.Filling.{as_stored, words_from}, declared.word_spans.WordSpan.WordSpan}

-- the lines of words; one beyond the memory of the deck has none
abbrev pub lines_of : DeckKind → List AddressedWord → List ℕ
lines_of kind words = flat_map (word_line kind) (filter (λ word. not (is_beyond kind word)) words)

-- the lines of so many words of one value, where their block stands at a base
abbrev pub span_lines : DeckKind → ℕ → ℕ → ℕ → ℕ → List ℕ
span_lines kind base offset count value = lines_of kind (addressed base (words_from offset count value))

-- the lines of so many words of one value from an address on, with so many octal digits of the address and of the value
abbrev pub octal_lines : ℕ → ℕ → ℕ → ℕ → ℕ → List ℕ
octal_lines address_digits value_digits address zero value = []
octal_lines address_digits value_digits address (suc count) value =
    line (octal_of address_digits address ++ (codes " " ++ octal_of value_digits value)) ++ octal_lines address_digits value_digits (address + 1) count value

-- and by the kind of their deck
abbrev pub equal_lines : DeckKind → ℕ → ℕ → ℕ → List ℕ
equal_lines Periph address count value = octal_lines 4 4 address count value
equal_lines kind address count value = octal_lines 6 20 address count value

-- the lines of the words of a block that stands at a place behind a base
abbrev pub block_lines : DeckKind → ℕ → ℕ → List WordSpan → List ℕ
block_lines kind base block words = lines_of kind (addressed (base + block) (as_stored words))

-- the lines of literals that stand at an offset of their block, which stands at a base
abbrev pub literal_lines : DeckKind → ℕ → ℕ → List ℕ → List ℕ
literal_lines kind base offset literals = lines_of kind (addressed base (literal_stored offset literals))

-- the words of one of an object's own blocks with their addresses; a common block has none there
abbrev pub row_words : Linking → Object → ℕ → BlockRow → List AddressedWord
row_words linking object base row = if is_common row.name then [] else addressed (base + row.base) (block_words linking object row)

-- the words of the own blocks of an object among these
abbrev pub rows_words : Linking → Object → ℕ → List BlockRow → List AddressedWord
rows_words linking object base rows = flat_map (row_words linking object base) rows

-- the first line of a section
abbrev pub section_head : List ℕ → DeckKind → ℕ → List ℕ
section_head name kind base = line (codes "DECK " ++ (name ++ (codes " " ++ (kind_text kind ++ (codes " " ++ octal_of 6 base)))))
