-- The map of a link, from sets of names.
use Rattle.std.specs.Prelude.{ℕ, List, [], ◌∷◌, ◌++◌, codes, flat_map, if◌then◌else◌}
use Rattle.definitions.specs.{Numerals.octal_of, Settled.Definition, Blocks.is_named, Layout.{Layout, Based, Common}, Listing.line, Map.{deck_line, common_line, entry_line, entry_lines}}
use Rattle.deck_linker.specs.Joins.Names.{with_entries}

-- the end of a line: a base and a length
unfoldable pub shown_place : ℕ → ℕ → List ℕ
shown_place base words = codes " " ++ (octal_of 6 base ++ (codes " " ++ octal_of 8 words))

-- the end of a line: a value of 60 bits
unfoldable pub shown_value : ℕ → List ℕ
shown_value bits = codes " " ++ octal_of 20 bits

-- an entry, where no earlier deck has it
abbrev pub new_entry : List Common → List (List ℕ) → Based → Definition → List ℕ
new_entry commons earlier based entry = if is_named entry.name earlier then [] else entry_line commons based entry

-- the entries of decks, each name once; those of each join those that earlier decks enter
abbrev pub entries_of_decks : List Common → List (List ℕ) → List Based → List ℕ
entries_of_decks commons earlier [] = []
entries_of_decks commons earlier (based ∷ others) = entry_lines commons earlier based based.object.entries ++ entries_of_decks commons (with_entries based.object.entries earlier) others

-- the map up to its LINK lines
abbrev pub map_front : Layout → List ℕ
map_front layout = line (codes "MAP") ++ (flat_map deck_line layout.decks ++ (flat_map common_line layout.commons ++ entries_of_decks layout.commons [] layout.decks))
