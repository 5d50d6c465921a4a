-- The link map (ours): each deck with its base, each entry with its value, and the LINK lines.
use Rattle.std.specs.Prelude.{ℕ, List, [], ◌∷◌, ◌++◌, codes, flat_map, unwrap_or, if◌then◌else◌}
use Rattle.definitions.specs.{Numerals.octal_of, Coding.coded_in, Settled.Definition, Blocks.is_named, Listing.line, Kinds.kind_text, Layout.{Based, Common, Layout, deck_length}, LinkValues.{entry_value, names_of}, LinkLines.link_lines}

-- a deck in the map: name, kind, base and length
abbrev pub deck_line : Based → List ℕ
deck_line based = line (codes "DECK " ++ (based.object.name ++ (codes " " ++ (kind_text based.object.kind ++ (codes " " ++ (octal_of 6 based.base ++ (codes " " ++ octal_of 8 (deck_length based.object))))))))

-- a common block in the map: name, base and length
abbrev pub common_line : Common → List ℕ
common_line common = line (codes "COMMON " ++ (common.name ++ (codes " " ++ (octal_of 6 common.base ++ (codes " " ++ octal_of 8 common.words)))))

-- an entry in the map: name, deck, and value in 60 bits, which is 0 where it does not fit
abbrev pub entry_line : List Common → Based → Definition → List ℕ
entry_line commons based entry = line (codes "ENTRY " ++ (entry.name ++ (codes " " ++ (based.object.name ++ (codes " " ++ octal_of 20 (unwrap_or (coded_in 60 (entry_value commons based entry)) 0))))))

-- the entries of a deck that no earlier deck has
abbrev pub entry_lines : List Common → List (List ℕ) → Based → List Definition → List ℕ
entry_lines commons earlier based [] = []
entry_lines commons earlier based (entry ∷ entries) = (if is_named entry.name earlier then [] else entry_line commons based entry) ++ entry_lines commons earlier based entries

-- the entries of all decks, each name once; the decks before enter these names
abbrev pub all_entry_lines : List Common → List (List ℕ) → List Based → List ℕ
all_entry_lines commons earlier [] = []
all_entry_lines commons earlier (based ∷ others) = entry_lines commons earlier based based.object.entries ++ all_entry_lines commons (earlier ++ names_of based.object.entries) others

-- the map: decks, common blocks, entries and LINK lines between MAP and END
abbrev pub map_text : Layout → List ℕ
map_text layout =
    line (codes "MAP") ++ (flat_map deck_line layout.decks ++ (flat_map common_line layout.commons
    ++ (all_entry_lines layout.commons [] layout.decks ++ (flat_map (λ text. text) (link_lines layout) ++ line (codes "END")))))
