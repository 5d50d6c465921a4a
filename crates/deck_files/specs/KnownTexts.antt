-- What is known of the files of a folder, as text (ours): a line for each file, with the deck's name, a blank, and 96 hexadecimal digits: the digest, the length, and the version, or hyphens where none is known.
use Rattle.std.specs.{Prelude.{ℕ, ◌≡◌, ◌<◌, ◌-◌, ◌^◌, ◌==◌, IfSome, List, [], ◌∷◌, ◌++◌, Option, Some, None, Result, Ok, Err, codes, drop, flat_map, length, min, take, if◌then◌else◌}, Option.option_map, Int.{w64, from_be_bytes, to_be_bytes}}
use Rattle.hex.specs.Hex.{IsBytes, decode_sized, encode_lower}
use Rattle.definitions.specs.{Characters.same_text, InputLines.{InputLine, Line, TooLong, Cut, lines_of}}
use Rattle.deck_files.specs.{declared.known_rows.Known.Known, declared.known_texts.KnownRow.KnownRow, FileRows.deck_named, Files.{Named, with_named}, KnownFiles.known_up_to}

-- ---- writing

abbrev pub version_text : Option ℕ → List ℕ
version_text None = codes "----------------"
version_text (Some version) = encode_lower (to_be_bytes w64 version)

abbrev pub known_text : Known → List ℕ
known_text known = encode_lower known.sum.digest ++ (encode_lower (to_be_bytes w64 known.sum.length) ++ version_text known.version)

-- the line of a file, and its line feed
abbrev pub row_line : List ℕ → Known → List ℕ
row_line name known = name ++ (codes " " ++ known_text known)

abbrev pub row_text : List ℕ → Known → List ℕ
row_text name known = row_line name known ++ codes "\n"

-- a digest is 32 bytes, and a number one of 64 bits
abbrev pub IsWritable : Known → Type 0
IsWritable known = (length known.sum.digest ≡ 32) × IsBytes known.sum.digest × (known.sum.length < 2 ^ 64) × IfSome known.version (λ version. version < 2 ^ 64)

-- the line of a file, where anything is known of it
abbrev pub row_if : List ℕ → Option Known → List ℕ
row_if name None = []
row_if name (Some known) = row_text name known

-- the lines of all files, one behind the other
abbrev pub rows_text : Named (Option Known) → List ℕ
rows_text files = flat_map (λ (row : List ℕ × Option Known). row_if row.0 row.1) files

-- ---- reading

abbrev pub bytes_if : {E : Type 0} → Result (List ℕ) E → Option (List ℕ)
bytes_if (Ok bytes) = Some bytes
bytes_if (Err error) = None

-- the number of 16 digits
abbrev pub number_in : List ℕ → Option ℕ
number_in text = option_map (λ bytes. from_be_bytes w64 bytes) (bytes_if (decode_sized text 8))

-- the digest of 64 digits
abbrev pub digest_in : List ℕ → Option (List ℕ)
digest_in text = bytes_if (decode_sized text 32)

abbrev pub known_of : Option (List ℕ) → Option ℕ → Option ℕ → Option Known
known_of None length version = None
known_of (Some digest) None version = None
known_of (Some digest) (Some length) version = Some (record { sum = record { length = length; digest = digest }; version = version })

-- what is known of a file by its digits; no version where they show none
abbrev pub known_in : List ℕ → Option Known
known_in text = if length text == 96 then known_of (digest_in (take 64 text)) (number_in (take 16 (drop 64 text))) (number_in (drop 16 (drop 64 text))) else None

abbrev pub row_of : Option (List ℕ) → Option Known → Option KnownRow
row_of None known = None
row_of (Some name) None = None
row_of (Some name) (Some known) = Some (record { name = name; known = known })

-- a blank and the digits, behind a name
abbrev pub row_behind : List ℕ → List ℕ → Option KnownRow
row_behind name tail = if same_text (take (min (length tail) 1) tail) (codes " ") then row_of (deck_named name) (known_in (drop (min (length tail) 1) tail)) else None

-- the row of a line, if it is one
abbrev pub row_in : List ℕ → Option KnownRow
row_in line = row_behind (take (length line - 97) line) (drop (length line - 97) line)

-- the files with that of a row, for a desk that goes on behind a version
abbrev pub with_row : ℕ → Option KnownRow → Named (Option Known) → Option (Named (Option Known))
with_row last None files = None
with_row last (Some row) files = Some (with_named row.name (Some (known_up_to last row.known)) files)

-- the files with those of these lines, in their order; none where one of them is no row
abbrev pub rows_behind : ℕ → Option (Named (Option Known)) → List InputLine → Option (Named (Option Known))
rows_behind last files [] = files
rows_behind last None (line ∷ lines) = None
rows_behind last (Some files) (Line bytes ∷ lines) = rows_behind last (with_row last (row_in bytes) files) lines
rows_behind last (Some files) (TooLong ∷ lines) = None
rows_behind last (Some files) (Cut ∷ lines) = None

-- the files that are known by a text
abbrev pub rows_in : ℕ → List ℕ → Option (Named (Option Known))
rows_in last text = rows_behind last (Some []) (lines_of text)
