-- The text of a record (ours): a line that shows what was done, a line for each card or edit that belongs to it, behind a blank, and a line with the check sum of the lines before it.
use Rattle.std.specs.Prelude.{ℕ, List, [], ◌∷◌, ◌++◌, length, map, flat_map, codes, decimal}
use Rattle.definitions.specs.Characters.{line_feed}
use Rattle.session_commands.specs.{declared.words.Seen.Seen, Lines.{behind_a_blank, name_and_number, name_and_seen, line_of_edit, line_in_batch}}
use Rattle.desk_core.specs.declared.calls.{Change.Change, Change.TheVariants.{AddDeck, PutDeck, DropDeck, EditDeck, Undo}, Edits.Edits, Edits.TheVariants.{One, Batch}}
use Rattle.journal.specs.{declared.records.Entry.Entry, declared.records.Entry.TheVariants.{Begun, Made}, declared.records.Record.Record, CheckSums.check_sum}

-- a line and its line feed
abbrev pub ended : List ℕ → List ℕ
ended line = line ++ line_feed ∷ []

-- lines, each with its line feed
abbrev pub text_of_lines : List (List ℕ) → List ℕ
text_of_lines lines = flat_map ended lines

-- edits of a deck as the line that asked for them
abbrev pub line_of_edits : List ℕ → Seen → Edits → List ℕ
line_of_edits name seen (One edit) = line_of_edit name seen edit
line_of_edits name seen (Batch edits) = codes "BATCH" ++ name_and_seen name seen (behind_a_blank (decimal (length edits) ++ []))

-- a change as the line that asked for it
abbrev pub line_of_change : Change → List ℕ
line_of_change (AddDeck deck) = codes "ADD" ++ behind_a_blank (deck.name ++ [])
line_of_change (PutDeck deck seen) = codes "PUT" ++ name_and_number deck.name seen (behind_a_blank (decimal (length deck.cards) ++ []))
line_of_change (DropDeck name seen) = codes "DROP" ++ name_and_number name seen []
line_of_change (EditDeck name seen edits) = line_of_edits name seen edits
line_of_change (Undo name version) = codes "UNDO" ++ name_and_number name version []

-- what a record shows, as a line
abbrev pub line_of_entry : Entry → List ℕ
line_of_entry Begun = codes "BEGIN"
line_of_entry (Made change) = line_of_change change

-- the lines of several edits; one stands on the line that asked for it
abbrev pub lines_of_edits : Edits → List (List ℕ)
lines_of_edits (One edit) = []
lines_of_edits (Batch edits) = map line_in_batch edits

-- the cards, or the edits, that belong to a change
abbrev pub lines_behind_change : Change → List (List ℕ)
lines_behind_change (AddDeck deck) = deck.cards
lines_behind_change (PutDeck deck seen) = deck.cards
lines_behind_change (DropDeck name seen) = []
lines_behind_change (EditDeck name seen edits) = lines_of_edits edits
lines_behind_change (Undo name version) = []

-- the cards, or the edits, that belong to what a record shows
abbrev pub lines_behind : Entry → List (List ℕ)
lines_behind Begun = []
lines_behind (Made change) = lines_behind_change change

-- a record as one line: the version, when it was made, the name of the session, and what the record shows
abbrev pub log_line : Record → List ℕ
log_line r = decimal r.version ++ behind_a_blank (r.moment ++ behind_a_blank (r.by ++ behind_a_blank (line_of_entry r.entry)))

-- the first line of its text
abbrev pub first_line : Record → List ℕ
first_line r = codes "RECORD" ++ behind_a_blank (log_line r)

-- the lines of a record up to its check sum
abbrev pub lines_of_record : Record → List (List ℕ)
lines_of_record r = first_line r ∷ map behind_a_blank (lines_behind r.entry)

-- the line of a check sum
abbrev pub sum_line : ℕ → List ℕ
sum_line sum = codes "SUM" ++ behind_a_blank (decimal sum ++ [])

-- the text of a record
abbrev pub text_of_record : Record → List ℕ
text_of_record r = let text = text_of_lines (lines_of_record r) in text ++ ended (sum_line (check_sum text))

-- the text of the record of a change, from behind its version to in front of its check sum
abbrev pub text_behind_version : List ℕ → List ℕ → Change → List ℕ
text_behind_version moment by change =
    behind_a_blank moment ++ (behind_a_blank by ++ (codes " " ++ (line_of_change change ++ (line_feed ∷ [] ++ text_of_lines (map behind_a_blank (lines_behind_change change))))))

-- the text of a record, by its version and the text behind it
abbrev pub text_with_version : ℕ → List ℕ → List ℕ
text_with_version version behind = let text = codes "RECORD" ++ (behind_a_blank (decimal version) ++ behind) in text ++ ended (sum_line (check_sum text))

-- the text of records, one behind the other
abbrev pub text_of_records : List Record → List ℕ
text_of_records records = flat_map text_of_record records
