-- What one command takes from a session's reader: all its lines, or the beginning of them (ours).
use Rattle.std.specs.{Prelude.{ℕ, ◌≡◌, ◌⊎◌, ⊤, ◌<◌, Bool, true, false, IsTrue, List, [], ◌∷◌, ◌++◌, Option, Some, None, Result, Ok, Err, length, map}, Io.KnownBytes.Consumes}
use Rattle.definitions.specs.InputLines.{Line, lines_of}
use Rattle.text_ports.specs.{Lines.ReadsLine, Faults.count_up, declared.lines.LineIs.LineIs}
use Rattle.text_ports.specs.declared.lines.LineIs.TheVariants as line
use Rattle.desk_core.specs.declared.calls.{Change.TheVariants.{PutDeck, EditDeck}, Edits.TheVariants.Batch}
use Rattle.session_commands.specs.{Commands.command_of, declared.refusals.Refusal.TheVariants.OutOfMemory}
use Rattle.session_line.specs.{declared.tasks.Task.Task, declared.tasks.Task.TheVariants.{Make, Refuse}, declared.reading.Stop.Stop, declared.reading.Stop.TheVariants.{InputEnded, InputFailed}, Tasks.{lines_due, task_of}}

-- the reader lost exactly these whole lines, whatever follows them
pub record TakesLines (old new : Option (List ℕ)) (lines : List (List ℕ)) : Type 0 where
  pub taken : List ℕ
  pub consumed : Consumes old new taken
  pub whole : (rest : List ℕ) → lines_of (taken ++ rest) ≡ map Line lines ++ lines_of rest

-- why no line came: the input ended, also within a line or with one that is too long; or the reader failed
abbrev pub stop_at : LineIs → Option Stop
stop_at line.Line = None
stop_at line.End = Some InputEnded
stop_at line.Cut = Some InputEnded
stop_at line.TooLong = Some InputEnded
stop_at line.Fault = Some InputFailed

-- the reader gave no line, for this reason
pub record BreaksOff (old new : Option (List ℕ)) (stop : Stop) : Type 0 where
  pub answer : LineIs
  pub buffer : List ℕ
  pub reads : ReadsLine old new answer buffer
  pub stops : stop_at answer ≡ Some stop

-- whether lines begin a command and more belong to it
abbrev pub IsBegun : List (List ℕ) → Type 0
IsBegun [] = ⊤
IsBegun (first ∷ others) = length others < lines_due (command_of first)

-- the reader broke off before a command was whole
pub record Stops (old new : Option (List ℕ)) (stop : Stop) : Type 0 where
  pub lines : List (List ℕ)
  pub between : Option (List ℕ)
  pub taken : TakesLines old between lines
  pub begun : IsBegun lines
  pub broken : BreaksOff between new stop

-- the reader broke off behind fewer lines than so many
pub record StopsWithin (old new : Option (List ℕ)) (count : ℕ) (stop : Stop) : Type 0 where
  pub lines : List (List ℕ)
  pub between : Option (List ℕ)
  pub taken : TakesLines old between lines
  pub fewer : length lines < count
  pub broken : BreaksOff between new stop

-- whether a task is a batch or a put, whose edits or cards are a list in memory
abbrev pub has_list : Task → Bool
has_list (Make (EditDeck name seen (Batch edits))) = true
has_list (Make (PutDeck deck version)) = true
has_list _ = false

-- the task of some lines; of a batch or a put also that there is no memory for its list
abbrev pub IsTaskFor : Task → Task → Type 0
IsTaskFor asked task = (task ≡ asked) ⊎ (IsTrue (has_list asked) × (task ≡ Refuse OutOfMemory))

-- the reader lost exactly the lines of one command, which ask for this task
pub record TakesTask (old new : Option (List ℕ)) (task : Task) : Type 0 where
  pub first : List ℕ
  pub others : List (List ℕ)
  pub taken : TakesLines old new (first ∷ others)
  pub whole : length others ≡ lines_due (command_of first)
  pub asked : IsTaskFor (task_of first others) task

-- the reader lost exactly the lines that belong to a first one, which was taken already; together they ask for this task
pub record TakesBehind (first : List ℕ) (old new : Option (List ℕ)) (task : Task) : Type 0 where
  pub others : List (List ℕ)
  pub taken : TakesLines old new others
  pub whole : length others ≡ lines_due (command_of first)
  pub asked : IsTaskFor (task_of first others) task

-- the count of faults rises where the reader failed
abbrev pub count_after_reading : {T : Type 0} → Result T Stop → ℕ → ℕ
count_after_reading (Ok value) faults = faults
count_after_reading (Err InputEnded) faults = faults
count_after_reading (Err InputFailed) faults = count_up faults
