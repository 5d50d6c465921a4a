-- How a record begins (ours): its first line shows the version, when it was made, the name of the session, and what was done.
use Rattle.std.specs.Prelude.{ℕ, List, [], Option, Some, None, Result, Ok, Err, codes, drop, option_and_then, option_map, if◌then◌else◌}
use Rattle.definitions.specs.{Characters.same_text, DeckInput.is_deck_name, Fields.unbroken_front}
use Rattle.session_commands.specs.{declared.commands.Command.Command, declared.refusals.Refusal.Refusal, declared.words.Seen.Seen, declared.words.Seen.TheVariants.{Exactly, Since}, Words.{from_blank, first_word, first_number, behind_word}, Commands.command_of}
use Rattle.session_commands.specs.declared.commands.Command.TheVariants as command
use Rattle.cards.specs.declared.edits.Edit.{Edit}
use Rattle.desk_core.specs.declared.calls.{Change.TheVariants.{AddDeck, PutDeck, DropDeck, EditDeck}, Edits.TheVariants.{One, Batch}}
use Rattle.journal.specs.{declared.records.Entry.Entry, declared.records.Entry.TheVariants.Made, declared.beginning.Begun.Begun, declared.beginning.Open.Open, CheckSums.{first_sum, sum_over}, Records.ended}
use Rattle.journal.specs.declared.records.Entry.TheVariants as entry
use Rattle.moments.specs.Moments.{moment_of}

-- what is made of a part that a line needs, if it has it
abbrev pub given : {A B : Type 0} → Option A → (A → Option B) → Option B
given None made = None
given (Some part) made = made part

-- an entry that announces no lines
abbrev pub alone : Entry → Option Begun
alone entry = Some (record { entry = entry; lines = 0 })

-- a batch, without its edits
abbrev pub batch_named : Result (List ℕ) Refusal → ℕ → ℕ → Option Begun
batch_named (Ok name) seen count = Some (record { entry = Made (EditDeck name (Exactly seen) (Batch [])); lines = count })
batch_named (Err refusal) seen count = None

-- an edit by who has seen a version and no other
abbrev pub edit_seen : List ℕ → Seen → Edit → Option Begun
edit_seen name (Exactly seen) edit = alone (Made (EditDeck name (Exactly seen) (One edit)))
edit_seen name (Since seen) edit = None

-- a batch by who has seen a version and no other, without its edits
abbrev pub batch_seen : Result (List ℕ) Refusal → Seen → ℕ → Option Begun
batch_seen name (Exactly seen) count = batch_named name seen count
batch_seen name (Since seen) count = None

-- a put, without its cards
abbrev pub put_named : Result (List ℕ) Refusal → ℕ → ℕ → Option Begun
put_named (Ok name) seen count = Some (record { entry = Made (PutDeck (record { name = name; cards = [] }) seen); lines = count })
put_named (Err refusal) seen count = None

-- the change that a command asks for, without what stands on further lines
abbrev pub begun_by : Result Command Refusal → Option Begun
begun_by (Ok (command.Add name)) = alone (Made (AddDeck (record { name = name; cards = [] })))
begun_by (Ok (command.Drop name seen)) = alone (Made (DropDeck name seen))
begun_by (Ok (command.Edit name seen edit)) = edit_seen name seen edit
begun_by (Ok (command.Batch head)) = batch_seen head.name head.seen head.count
begun_by (Ok (command.Put head)) = put_named head.name head.version head.count
begun_by _ = None

-- what a record shows, by its text
abbrev pub begun_of : List ℕ → Option Begun
begun_of text = if same_text text (codes "BEGIN") then alone entry.Begun else begun_by (command_of text)

-- the name of a session that a word is
abbrev pub name_of : List ℕ → Option (List ℕ)
name_of word = if is_deck_name word then Some word else None

-- an open record, whose first line is this one
abbrev pub open_with : List ℕ → ℕ → List ℕ → List ℕ → Begun → Open
open_with line version moment by begun =
    record { so_far = record { version = version; moment = moment; by = by; entry = begun.entry }; lines = begun.lines; sum = sum_over first_sum (ended line) }

-- the parts of a first line
abbrev pub opened_by : List ℕ → List ℕ → Option Open
opened_by line rest =
    let second = behind_word rest in
    let third = behind_word second in
    given (first_number rest) (λ version.
    given (option_and_then moment_of (first_word second)) (λ moment.
    given (option_and_then name_of (first_word third)) (λ by.
    option_map (open_with line version moment by) (begun_of (drop 1 (behind_word third))))))

-- the record that a line begins
abbrev pub opened : List ℕ → Option Open
opened line = if same_text (unbroken_front line) (codes "RECORD") then opened_by line (from_blank line) else None
