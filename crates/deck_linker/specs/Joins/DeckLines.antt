-- The LINK lines of decks, from a set of the names that earlier decks enter.
use Rattle.std.specs.Prelude.{ℕ, List, [], ◌∷◌, ◌++◌, flat_map, reverse}
use Rattle.definitions.specs.{Layout.{Layout, Based, Common}, LinkValues.entry_names, LinkLines.{doubled_lines, missing_lines, unfit_addresses, past_lines}}
use Rattle.deck_linker.specs.Joins.Names.{with_entries}

-- the LINK lines of a deck, where earlier decks enter some names
abbrev pub lines_of_deck : Layout → List (List ℕ) → Based → List (List ℕ)
lines_of_deck layout earlier based =
    doubled_lines earlier based.object.name based.object.entries
    ++ (missing_lines (entry_names layout.decks) based.object.name based.object.externals
    ++ (flat_map (unfit_addresses layout based) (reverse based.object.coded) ++ past_lines based.is_past based.object.name))

-- those of these decks; the names of each join those that earlier decks enter
abbrev pub lines_of_decks : Layout → List (List ℕ) → List Based → List (List ℕ)
lines_of_decks layout earlier [] = []
lines_of_decks layout earlier (based ∷ others) = lines_of_deck layout earlier based ++ lines_of_decks layout (with_entries based.object.entries earlier) others

-- those of a common block
abbrev pub lines_of_common : Common → List (List ℕ)
lines_of_common common = past_lines common.is_past common.name
