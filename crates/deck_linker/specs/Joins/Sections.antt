-- The sections of an image.
use Rattle.std.specs.Prelude.{ℕ, ◌+◌, List, ◌++◌, Option, Some, None, codes, flat_map}
use Rattle.definitions.specs.{Numerals.octal_of, Listing.line, Layout.{Layout, Based}, Image.{section_by, word_line}, Words.StoredWord, declared.deck_kind.DeckKind.TheVariants.Rel}
use Rattle.deck_linker.specs.Publishing.{section_of}

-- the section of a deck, where it has one
abbrev pub deck_section : Layout → Based → List ℕ
deck_section layout based = section_by based.object.kind based.is_past layout based

-- the section of a deck that was found, if one was
abbrev pub section_found : Layout → Option Based → Option (List ℕ)
section_found layout None = None
section_found layout (Some based) = section_of layout based

-- the first line of the section of a common block
unfoldable pub common_head : List ℕ → ℕ → List ℕ
common_head name base = line (codes "COMMON " ++ (name ++ (codes " " ++ octal_of 6 base)))

-- the line of a stored word of a common block that stands at a base
unfoldable pub common_word : ℕ → StoredWord → List ℕ
common_word base word = word_line Rel (record { address = base + word.offset; value = word.value })

-- the lines of the words of a common block
abbrev pub common_words_text : ℕ → List StoredWord → List ℕ
common_words_text base words = flat_map (common_word base) words
