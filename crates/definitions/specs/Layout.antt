-- The layout of a link: where decks and common blocks stand, and the words of a deck with their addresses (ours; labelled common: COMPASS 60492600, USE).
use Rattle.std.specs.{Prelude.{ℕ, ◌+◌, List, [], ◌∷◌, Bool, true, false, not, max, flat_map, filter, nat_lt, nat_le, if◌then◌else◌, map}, List.list_any}
use Rattle.definitions.specs.{Characters.same_text, Kinds.memory_end, Blocks.{literals_block, is_common}, Lengths.{BlockLength, BlockRow, base_in, total_length}, Words.{Linking, StoredWord, stored_words}, Objects.Object, declared.deck_kind.DeckKind.DeckKind, declared.deck_kind.DeckKind.TheVariants.Rel}

-- where the first REL deck stands
abbrev pub first_base : ℕ
first_base = 0o100

-- a place in the central memory: its first address, whether it would pass the end of memory, and where the next place begins
pub record Place : Type 0 where
  pub base : ℕ
  pub is_past : Bool
  pub end : ℕ

-- so many words where those before them end: what would pass the end of memory has base 0, and moves nothing behind it
abbrev pub place : ℕ → ℕ → Place
place base words = elim (nat_lt (memory_end Rel) (base + words)) [
  | true ↦ record { base = 0; is_past = true; end = base }
  | false ↦ record { base = base; is_past = false; end = base + words }
]

-- an object with its base, and whether it passes the end of memory
pub record Based : Type 0 where
  pub object : Object
  pub base : ℕ
  pub is_past : Bool

-- the length of a deck: that of its own blocks
abbrev pub deck_length : Object → ℕ
deck_length object = total_length object.rows

-- the literals as stored words
abbrev pub literal_stored : ℕ → List ℕ → List StoredWord
literal_stored offset [] = []
literal_stored offset (word ∷ words) = record { offset = offset; value = word } ∷ literal_stored (offset + 1) words

-- the stored words of a block, the literals among the blocks
abbrev pub block_words : Linking → Object → BlockRow → List StoredWord
block_words linking object row =
    elim (same_text row.name literals_block) [
      | true ↦ literal_stored 0 object.literals
      | false ↦ stored_words object.kind linking row.name object.coded
    ]

-- a stored word with its address
pub record AddressedWord : Type 0 where
  pub address : ℕ
  pub value : ℕ

-- stored words with their addresses, from a base on
abbrev pub addressed : ℕ → List StoredWord → List AddressedWord
addressed base words = map (λ (word : StoredWord). record { address = base + word.offset; value = word.value }) words

-- the rows of the blocks that stand in the deck itself
abbrev pub local_rows : Object → List BlockRow
local_rows object = filter (λ (row : BlockRow). not (is_common row.name)) object.rows

-- the stored words of an object's own blocks with their addresses from a base on, in order of address
abbrev pub object_words : Linking → Object → ℕ → List AddressedWord
object_words linking object base = flat_map (λ (row : BlockRow). addressed (base + row.base) (block_words linking object row)) (local_rows object)

-- whether a word lies where its memory has ended
abbrev pub is_beyond : DeckKind → AddressedWord → Bool
is_beyond kind word = nat_le (memory_end kind) word.address

-- whether a stored word of an absolute or peripheral deck lies beyond its memory
abbrev pub has_beyond : Object → Bool
has_beyond object = list_any (is_beyond object.kind) (object_words (λ width form. 0) object 0)

-- the place of a deck of this kind where the decks before it end; an ABS or PERIPH deck has base 0, and moves none
abbrev pub deck_place : DeckKind → ℕ → Object → Place
deck_place Rel base object = place base (deck_length object)
deck_place kind base object = record { base = 0; is_past = has_beyond object; end = base }

-- a deck in a place
abbrev pub based_at : Object → Place → Based
based_at object here = record { object = object; base = here.base; is_past = here.is_past }

-- a deck where the decks before it end
abbrev pub placed : ℕ → Object → Based
placed base object = based_at object (deck_place object.kind base object)

-- where the decks end with this one behind them
abbrev pub end_after : ℕ → Object → ℕ
end_after base object = (deck_place object.kind base object).end

-- decks in their places, one behind the other
abbrev pub based_from : ℕ → List Object → List Based
based_from base [] = []
based_from base (object ∷ objects) = placed base object ∷ based_from (end_after base object) objects

-- where decks end
abbrev pub end_of_decks : ℕ → List Object → ℕ
end_of_decks base [] = base
end_of_decks base (object ∷ objects) = end_of_decks (end_after base object) objects

-- a common block of a link: its base, and whether it passes the end of memory
pub record Common : Type 0 where
  pub name : List ℕ
  pub words : ℕ
  pub base : ℕ
  pub is_past : Bool

-- the lengths of common blocks with that of a row more; common blocks of one name are one, of the greatest length
abbrev pub with_common : BlockRow → List BlockLength → List BlockLength
with_common row [] = record { name = row.name; words = row.words } ∷ []
with_common row (block ∷ blocks) =
    if same_text row.name block.name then record block { words = max block.words row.words } ∷ blocks
    else block ∷ with_common row blocks

-- the lengths of common blocks with those of a deck's rows more
abbrev pub with_commons : List BlockRow → List BlockLength → List BlockLength
with_commons [] blocks = blocks
with_commons (row ∷ rows) blocks = with_commons rows (if is_common row.name then with_common row blocks else blocks)

-- the common blocks of decks in order of first use, decks in order, behind those so far
abbrev pub common_lengths : List Object → List BlockLength → List BlockLength
common_lengths [] blocks = blocks
common_lengths (object ∷ objects) blocks = common_lengths objects (with_commons object.rows blocks)

-- a common block in a place
abbrev pub common_at : BlockLength → Place → Common
common_at block here = record { name = block.name; words = block.words; base = here.base; is_past = here.is_past }

-- a common block where those before it end
abbrev pub placed_common : ℕ → BlockLength → Common
placed_common base block = common_at block (place base block.words)

-- where the common blocks end with this one behind them
abbrev pub end_after_common : ℕ → BlockLength → ℕ
end_after_common base block = (place base block.words).end

-- common blocks in their places, one behind the other
abbrev pub commons_from : ℕ → List BlockLength → List Common
commons_from base [] = []
commons_from base (block ∷ blocks) = placed_common base block ∷ commons_from (end_after_common base block) blocks

-- decks and common blocks in their places
pub record Layout : Type 0 where
  pub decks : List Based
  pub commons : List Common

-- the places of the decks of a link, and behind them those of their common blocks
abbrev pub layout_of : List Object → Layout
layout_of objects = record { decks = based_from first_base objects; commons = commons_from (end_of_decks first_base objects) (common_lengths objects []) }

-- the base of a common block
abbrev pub common_base : List ℕ → List Common → ℕ
common_base name [] = 0
common_base name (common ∷ commons) = if same_text name common.name then common.base else common_base name commons

-- where a block of a deck stands in a link
abbrev pub block_base : List Common → Based → List ℕ → ℕ
block_base commons based name = if is_common name then common_base name commons else based.base + base_in name based.object.rows
