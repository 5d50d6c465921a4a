-- What depends on the kind of a deck alone (6600 reference 60100000, central memory, peripheral processors; COMPASS 60492600, ABS, PERIPH).
use Rattle.std.specs.Prelude.{ℕ, List, Bool, true, false, codes}
use Rattle.definitions.specs.declared.deck_kind.DeckKind.{DeckKind, TheVariants.{Rel, Abs, Periph}}

-- the kind of a deck as it is written
abbrev pub kind_text : DeckKind → List ℕ
kind_text Rel = codes "REL"
kind_text Abs = codes "ABS"
kind_text Periph = codes "PERIPH"

-- how many bits a word has
abbrev pub word_bits : DeckKind → ℕ
word_bits Periph = 12
word_bits _ = 60

-- four parcels in a central word; a peripheral word is one unit
abbrev pub units : DeckKind → ℕ
units Periph = 1
units _ = 4

-- the bits of a parcel, or of a peripheral word
abbrev pub unit_bits : DeckKind → ℕ
unit_bits Periph = 12
unit_bits _ = 15

-- how many words a block has at most
abbrev pub most_words : DeckKind → ℕ
most_words Periph = 4096
most_words _ = 131072

-- the first address behind the memory that a deck is for
abbrev pub memory_end : DeckKind → ℕ
memory_end Periph = 0o10000
memory_end _ = 0o400000

-- whether a deck is ABS or PERIPH
abbrev pub is_absolute_deck : DeckKind → Bool
is_absolute_deck Rel = false
is_absolute_deck _ = true

-- whether CON and VFD may have literals
abbrev pub allows_literals : DeckKind → Bool
allows_literals Periph = false
allows_literals _ = true

-- the bits of an address in an instruction; a field with a block or external has at least as many
abbrev pub address_bits : ℕ
address_bits = 18
