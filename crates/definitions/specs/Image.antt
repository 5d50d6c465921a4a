-- The octal image (ours): each deck that has a section, with its stored words in order of address, and then the common blocks.
use Rattle.std.specs.{Prelude.{ℕ, ◌==◌, List, [], ◌∷◌, ◌++◌, Bool, true, false, not, Option, Some, None, unwrap_or, codes, filter, flat_map, map, if◌then◌else◌}, Option.option_or}
use Rattle.definitions.specs.{Numerals.octal_of, Kinds.kind_text, Words.{StoredWord, rising, stored_words}, Objects.Object, Listing.line, Layout.{Based, Common, Layout, AddressedWord, addressed, object_words, is_beyond}, LinkValues.linking_of, declared.deck_kind.DeckKind.DeckKind, declared.deck_kind.DeckKind.TheVariants.{Rel, Periph}}

-- a stored word behind its address: 20 digits behind 6, in a peripheral deck 4 behind 4
abbrev pub word_line : DeckKind → AddressedWord → List ℕ
word_line Periph word = line (octal_of 4 word.address ++ (codes " " ++ octal_of 4 word.value))
word_line kind word = line (octal_of 6 word.address ++ (codes " " ++ octal_of 20 word.value))

-- the stored words of a deck in a link; those beyond its memory are left out
abbrev pub section_words : Layout → Based → List AddressedWord
section_words layout based =
    filter (λ word. not (is_beyond based.object.kind word)) (object_words (linking_of layout based) based.object based.base)

-- the section of a deck: its name, kind and base, and its stored words
abbrev pub section : Layout → Based → List ℕ
section layout based =
    line (codes "DECK " ++ (based.object.name ++ (codes " " ++ (kind_text based.object.kind ++ (codes " " ++ octal_of 6 based.base)))))
    ++ flat_map (word_line based.object.kind) (section_words layout based)

-- a REL deck that passes the end of memory has no section
abbrev pub section_by : DeckKind → Bool → Layout → Based → List ℕ
section_by Rel true layout based = []
section_by kind is_past layout based = section layout based

-- the section of an object alone at a base: externals and common blocks count as 0
abbrev pub image_alone : Object → ℕ → List ℕ
image_alone object base = section (record { decks = []; commons = [] }) (record { object = object; base = base; is_past = false })

-- the value that words have at an offset
abbrev pub stored_at : ℕ → List StoredWord → Option ℕ
stored_at offset [] = None
stored_at offset (word ∷ words) = if word.offset == offset then Some word.value else stored_at offset words

-- the value that the last of these lists with a word at an offset has there
abbrev pub last_at : ℕ → List (List StoredWord) → Option ℕ
last_at offset [] = None
last_at offset (words ∷ later) = option_or (last_at offset later) (stored_at offset words)

-- lists of words as one, by increasing offset: at each offset that of the last list with a word there
abbrev pub laid : List (List StoredWord) → List StoredWord
laid lists =
    map (λ (offset : ℕ). record { offset = offset; value = unwrap_or (last_at offset lists) 0 })
    (rising (flat_map (λ (words : List StoredWord). map (λ (word : StoredWord). word.offset) words) lists))

-- the words that decks store in a block of this name: each is that of the last deck that stores it
abbrev pub common_words : Layout → List ℕ → List Based → List StoredWord
common_words layout name decks = laid (map (λ (based : Based). stored_words based.object.kind (linking_of layout based) name based.object.coded) decks)

-- the section of a common block with these words; one without words has none
abbrev pub common_section : Common → List StoredWord → List ℕ
common_section common [] = []
common_section common (word ∷ words) =
    line (codes "COMMON " ++ (common.name ++ (codes " " ++ octal_of 6 common.base))) ++ flat_map (word_line Rel) (addressed common.base (word ∷ words))

-- a common block that passes the end of memory has no section
abbrev pub common_section_by : Layout → Common → List ℕ
common_section_by layout common = if common.is_past then [] else common_section common (common_words layout common.name layout.decks)

-- the sections of the decks in order, those of the common blocks, and END
abbrev pub image_text : Layout → List ℕ
image_text layout =
    flat_map (λ (based : Based). section_by based.object.kind based.is_past layout based) layout.decks
    ++ (flat_map (common_section_by layout) layout.commons ++ line (codes "END"))
