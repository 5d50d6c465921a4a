-- One line of a session is served (ours): what its bytes in, its call of the desk with that of the shelf, and its bytes out have to do with each other.
use Rattle.std.specs.{Prelude.{ℕ, ◌≡◌, ◌<◌, ◌⊎◌, true, false, List, Option, length, take}, Io.KnownBytes.Appends}
use Rattle.text_ports.specs.Faults.{count_up}
use Rattle.deck_files.specs.ShelfRelations.{ShelfRelations}
use Rattle.session_line.specs.{declared.tasks.Task.Task, declared.reading.Stop.Stop, declared.reading.Stop.TheVariants.{InputEnded, InputFailed}, declared.answers.Answer.Answer, declared.serving.Outcome.Outcome, declared.serving.Outcome.TheVariants.{Served, Ended, ReadFault, WriteFault}, Answers.{told_text, is_bye}, Tasks.lines_due, Taking.{TakesTask, TakesBehind, Stops, StopsWithin}, Executing.Executes, Rights.allowed, declared.rights.Rights.Rights, DeskRelations.DeskRelations}
use Rattle.session_commands.specs.Commands.{command_of}

-- what a session stands between: the bytes that its reader has left and that its writer took, where they are known; the desk and the shelf
pub record Sides (C S : Type 0) : Type 0 where
  pub input : Option (List ℕ)
  pub output : Option (List ℕ)
  pub desk : C
  pub shelf : S

abbrev pub sides : {C S : Type 0} → Option (List ℕ) → Option (List ℕ) → C → S → Sides C S
sides input output desk shelf = record { input = input; output = output; desk = desk; shelf = shelf }

-- exactly the first `sent` bytes went out, not all
abbrev pub IsCutAt : ℕ → Option (List ℕ) → Option (List ℕ) → List ℕ → Type 0
IsCutAt sent old new bytes = (sent < length bytes) × Appends old new (take sent bytes)

-- an answer went out: all its text, and then the session ends where it is the end; or exactly the first `sent` bytes, not all
abbrev pub GoesOut : Option (List ℕ) → Option (List ℕ) → Answer → Outcome → Type 0
GoesOut old new answer Served = (is_bye answer.told ≡ false) × Appends old new (told_text answer.told)
GoesOut old new answer Ended = (is_bye answer.told ≡ true) × Appends old new (told_text answer.told)
GoesOut old new answer ReadFault = ⊥
GoesOut old new answer (WriteFault executed sent) = (executed ≡ answer.executed) × IsCutAt sent old new (told_text answer.told)

-- how a session ends where no command came whole
abbrev pub outcome_of : Stop → Outcome
outcome_of InputEnded = Ended
outcome_of InputFailed = ReadFault

module _ {C S : Type 0} where
  -- the input stopped before a command was whole: nothing is called, and nothing goes out
  pub record OnlyReads (old new : Sides C S) (outcome : Outcome) : Type 0 where
    pub stop : Stop
    pub stopped : Stops old.input new.input stop
    pub told : outcome ≡ outcome_of stop
    pub output : new.output ≡ old.output
    pub desk : new.desk ≡ old.desk
    pub shelf : new.shelf ≡ old.shelf

  -- the same in the lines behind a first one, which was taken already
  pub record OnlyReadsBehind (first : List ℕ) (old new : Sides C S) (outcome : Outcome) : Type 0 where
    pub stop : Stop
    pub stopped : StopsWithin old.input new.input (lines_due (command_of first)) stop
    pub told : outcome ≡ outcome_of stop
    pub output : new.output ≡ old.output
    pub desk : new.desk ≡ old.desk
    pub shelf : new.shelf ≡ old.shelf

module _ {C S : Type 0} (rights : Rights) (calls : DeskRelations C) (files : ShelfRelations S) where
  -- one command is taken whole, and what the session may do of it is executed once and answered
  pub record ServesCommand (old new : Sides C S) (outcome : Outcome) : Type 0 where
    pub task : Task
    pub answer : Answer
    pub taken : TakesTask old.input new.input task
    pub executed : Executes calls files (allowed rights task) old.desk new.desk old.shelf new.shelf answer
    pub sent : GoesOut old.output new.output answer outcome

  -- one line of a session is served
  abbrev pub Serves : Sides C S → Sides C S → Outcome → Type 0
  Serves old new outcome = ServesCommand old new outcome ⊎ OnlyReads old new outcome

  -- the command of a first line, which was taken already, is taken whole, and what the session may do of it is executed once and answered
  pub record ServesCommandBehind (first : List ℕ) (old new : Sides C S) (outcome : Outcome) : Type 0 where
    pub task : Task
    pub answer : Answer
    pub taken : TakesBehind first old.input new.input task
    pub executed : Executes calls files (allowed rights task) old.desk new.desk old.shelf new.shelf answer
    pub sent : GoesOut old.output new.output answer outcome

  -- one line of a session that was taken already is served
  abbrev pub ServesBehind : List ℕ → Sides C S → Sides C S → Outcome → Type 0
  ServesBehind first old new outcome = ServesCommandBehind first old new outcome ⊎ OnlyReadsBehind first old new outcome

-- the reader's count of faults rises where it failed
abbrev pub read_faults_after : Outcome → ℕ → ℕ
read_faults_after Served faults = faults
read_faults_after Ended faults = faults
read_faults_after ReadFault faults = count_up faults
read_faults_after (WriteFault executed sent) faults = faults

-- the writer's count of faults rises where it failed
abbrev pub write_faults_after : Outcome → ℕ → ℕ
write_faults_after Served faults = faults
write_faults_after Ended faults = faults
write_faults_after ReadFault faults = faults
write_faults_after (WriteFault executed sent) faults = count_up faults
