-- The LINK lines: what went wrong in a link, each with its letter and its deck (ours).
use Rattle.std.specs.Prelude.{ℕ, ◌+◌, ◌*◌, ◌/◌, List, [], ◌∷◌, ◌++◌, Bool, codes, flat_map, reverse, if◌then◌else◌, map}
use Rattle.definitions.specs.{Numerals.octal_of, Kinds.{unit_bits, word_bits}, Settled.Definition, Blocks.is_named, StatementItems.Item, Words.Coded, Listing.line, Layout.{Based, Common, Layout, block_base}, LinkValues.{names_of, entry_names, is_unfit}}

-- a LINK line: its letter, its deck, and what it reports
abbrev pub link_line : List ℕ → List ℕ → List ℕ → List ℕ
link_line letter deck what = line (codes "LINK " ++ (letter ++ (codes " " ++ (deck ++ what))))

-- entries that an earlier deck has
abbrev pub doubled_lines : List (List ℕ) → List ℕ → List Definition → List (List ℕ)
doubled_lines names deck [] = []
doubled_lines names deck (entry ∷ entries) = (if is_named entry.name names then link_line (codes "D") deck (codes " " ++ entry.name) ∷ [] else []) ++ doubled_lines names deck entries

-- externals that no deck has
abbrev pub missing_lines : List (List ℕ) → List ℕ → List (List ℕ) → List (List ℕ)
missing_lines names deck [] = []
missing_lines names deck (name ∷ externals) = (if is_named name names then [] else link_line (codes "U") deck (codes " " ++ name) ∷ []) ++ missing_lines names deck externals

-- the words in which fields begin that don't fit; `from` is the bit at which the first field begins
abbrev pub unfit_words : Layout → Based → ℕ → List Item → List ℕ
unfit_words layout based from [] = []
unfit_words layout based from (item ∷ fields) =
    (if is_unfit layout based item then from / word_bits based.object.kind ∷ [] else []) ++ unfit_words layout based (from + item.width) fields

-- a LINK A line for each of these words of a block, with its address
abbrev pub address_lines : List ℕ → ℕ → List ℕ → List (List ℕ)
address_lines deck base words = map (λ word. link_line (codes "A") deck (codes " " ++ octal_of 8 (base + word))) words

-- the LINK A lines of a statement, one for each field that does not fit
abbrev pub unfit_addresses : Layout → Based → Coded → List (List ℕ)
unfit_addresses layout based coded =
    address_lines based.object.name (block_base layout.commons based coded.settled.block)
    (unfit_words layout based (coded.settled.place * unit_bits based.object.kind) coded.fields)

-- the LINK F line of a deck or common block that passes the end of memory
abbrev pub past_lines : Bool → List ℕ → List (List ℕ)
past_lines is_past name = if is_past then link_line (codes "F") name [] ∷ [] else []

-- the LINK lines of a deck, whose earlier decks enter these names
abbrev pub deck_lines : Layout → List (List ℕ) → Based → List (List ℕ)
deck_lines layout earlier based =
    doubled_lines earlier based.object.name based.object.entries
    ++ (missing_lines (entry_names layout.decks) based.object.name based.object.externals
    ++ (flat_map (unfit_addresses layout based) (reverse based.object.coded) ++ past_lines based.is_past based.object.name))

-- the LINK lines of these decks, where the decks before them enter these names
abbrev pub lines_from : Layout → List (List ℕ) → List Based → List (List ℕ)
lines_from layout earlier [] = []
lines_from layout earlier (based ∷ others) = deck_lines layout earlier based ++ lines_from layout (earlier ++ names_of based.object.entries) others

-- all LINK lines: those of the decks, and those of the common blocks
abbrev pub link_lines : Layout → List (List ℕ)
link_lines layout = lines_from layout [] layout.decks ++ flat_map (λ (common : Common). past_lines common.is_past common.name) layout.commons
