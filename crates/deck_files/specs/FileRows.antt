-- The rows of the files of decks, in the order of their names, byte by byte (ours).
use Rattle.std.specs.{Prelude.{ℕ, ◌-◌, Bool, List, Option, Some, None, codes, length, take, drop, insert, position, if◌then◌else◌}, Ordering.{is_lt, nat_cmp}, Cmp.Lexicographic.slice_cmp}
use Rattle.definitions.specs.{Characters.same_text, DeckInput.is_deck_name}
use Rattle.deck_files.specs.declared.file_rows.{DeckEntry.DeckEntry, FileRow.FileRow}

-- how many files of decks are listed at most
abbrev pub most_files : ℕ
most_files = 1000

-- the deck that is named so
abbrev pub deck_named : List ℕ → Option (List ℕ)
deck_named stem = if is_deck_name stem then Some stem else None

-- the deck whose file has this name: what stands in front of the last five characters, where these are .DECK
abbrev pub deck_in : List ℕ → Option (List ℕ)
deck_in file = if same_text (drop (length file - 5) file) (codes ".DECK") then deck_named (take (length file - 5) file) else None

-- whether a name comes before another: a byte that is less decides, and else the shorter one is first
abbrev pub is_before : List ℕ → List ℕ → Bool
is_before name other = is_lt (slice_cmp nat_cmp name other)

-- the place of the first that comes behind, or the end
abbrev pub place_or_end : Option ℕ → ℕ → ℕ
place_or_end (Some place) end = place
place_or_end None end = end

-- where a row of this name stands among others
abbrev pub place_in : List ℕ → List FileRow → ℕ
place_in name rows = place_or_end (position (λ row. is_before name row.name) rows) (length rows)

-- rows with one more, in its place
abbrev pub with_row : FileRow → List FileRow → List FileRow
with_row row rows = insert rows (place_in row.name rows) row

-- the row of a deck's file that has so many cards
abbrev pub row_of : DeckEntry → Option ℕ → FileRow
row_of entry cards = record { name = entry.name; cards = cards; written = entry.written }
