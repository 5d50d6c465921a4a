-- The lines of the files of decks (ours): name, how many cards, and when the file was last written.
use Rattle.std.specs.Prelude.{ℕ, List, [], ◌∷◌, ◌++◌, Option, Some, None, codes, decimal, flat_map}
use Rattle.definitions.specs.Characters.{line_feed}
use Rattle.deck_files.specs.declared.file_rows.FileRow.{FileRow}

-- how many cards a file has, or that it is not read as cards
abbrev pub count_text : Option ℕ → List ℕ
count_text (Some cards) = decimal cards
count_text None = codes "UNREADABLE"

-- name, number of cards, and date
abbrev pub file_text : FileRow → List ℕ
file_text row = row.name ++ (codes " " ++ (count_text row.cards ++ (codes " " ++ row.written)))

-- the line of a file
abbrev pub file_line : FileRow → List ℕ
file_line row = file_text row ++ line_feed ∷ []

-- the lines of some files
abbrev pub files_text : List FileRow → List ℕ
files_text rows = flat_map file_line rows
