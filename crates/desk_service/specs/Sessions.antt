-- A session: lines that are served one after the other, and what ends it (ours).
use Rattle.std.specs.{Prelude.{ℕ, ◌≡◌, ◌+◌, ◌==◌, ◌<◌, ◌&&◌, Bool, true, false, List, Option, Some, None}, Io.KnownBytes.Keeps}
use Rattle.text_ports.specs.{Faults.{count_up, count_after_flush, count_after_line}, Lines.ReadsLine, declared.lines.LineIs.LineIs}
use Rattle.text_ports.specs.declared.lines.LineIs.TheVariants as line
use Rattle.deck_files.specs.ShelfRelations.{ShelfRelations}
use Rattle.session_line.specs.{declared.rights.Rights.Rights, declared.serving.Outcome.Outcome, declared.serving.Outcome.TheVariants.{Served, Ended, ReadFault, WriteFault}, Serving.{Sides, sides, Serves, ServesBehind, read_faults_after, write_faults_after}, DeskRelations.DeskRelations}
use Rattle.session_commands.specs.Strangers.{is_command, is_request_of_http}
use Rattle.desk_service.specs.declared.{openings.Opening.Opening, sessions.Ending.Ending}
use Rattle.desk_service.specs.declared.openings.Opening.TheVariants as opening
use Rattle.desk_service.specs.declared.sessions.Ending.TheVariants as ending

-- how many lines a session serves at most behind its first command
abbrev pub most_commands : ℕ
most_commands = 1000000

-- how many lines that are no commands a session may begin with
abbrev pub most_strange : ℕ
most_strange = 16

-- how a session ends where no line came; none where one did
abbrev pub ending_without : LineIs → Option Ending
ending_without line.Line = None
ending_without line.End = Some ending.Left
ending_without line.Cut = Some ending.Left
ending_without line.TooLong = Some ending.Left
ending_without line.Fault = Some ending.ReadFault

-- what became of a line that was served: it ended the session, or was a command, or none
abbrev pub opening_of : Option Ending → Bool → Opening
opening_of (Some ending) command = opening.Ended ending
opening_of None true = opening.Met
opening_of None false = opening.Strange

-- how the session ends with a first line, if it ends
abbrev pub ending_in : Opening → Option Ending
ending_in (opening.Ended ending) = Some ending
ending_in opening.Strange = None
ending_in opening.Met = None

-- whether a session ends at a line without a look at it: where it is the first, and a request of HTTP
abbrev pub is_turned_away : Bool → List ℕ → Bool
is_turned_away first text = first && is_request_of_http text

-- how a session ends after a line, and after what the writer kept back was sent on, or not; none where the next line may come
abbrev pub ending_after : Outcome → Bool → Option Ending
ending_after Served true = None
ending_after Served false = Some ending.WriteFault
ending_after Ended true = Some ending.Left
ending_after Ended false = Some ending.WriteFault
ending_after ReadFault flushed = Some ending.ReadFault
ending_after (WriteFault executed sent) flushed = Some ending.WriteFault

-- whether the reader or the writer failed
abbrev pub is_fault : Outcome → Bool
is_fault Served = false
is_fault Ended = false
is_fault ReadFault = true
is_fault (WriteFault executed sent) = true

-- what a session stands between, and how many faults its reader and its writer passed on
pub record Standing (C S : Type 0) : Type 0 where
  pub sides : Sides C S
  pub read_faults : ℕ
  pub write_faults : ℕ

abbrev pub standing : {C S : Type 0} → Sides C S → ℕ → ℕ → Standing C S
standing sides reads writes = record { sides = sides; read_faults = reads; write_faults = writes }

-- the same, of a reader and a writer that count their faults
abbrev pub between : {R W C S : Type 0} → (R → Option (List ℕ)) → (W → Option (List ℕ)) → R × ℕ → W × ℕ → C → S → Standing C S
between remaining contents input output desk shelf = standing (sides (remaining input.0) (contents output.0) desk shelf) input.1 output.1

-- the reader's count of faults once a line was served, by how the session ends there, if it ends: it rises where the session ends by the reader's fault
abbrev pub read_faults_at : Option Ending → ℕ → ℕ
read_faults_at (Some ending.ReadFault) faults = count_up faults
read_faults_at told faults = faults

-- and the writer's
abbrev pub write_faults_at : Option Ending → ℕ → ℕ
write_faults_at (Some ending.WriteFault) faults = count_up faults
write_faults_at told faults = faults

module _ {C S : Type 0} where
  -- what the writer kept back is sent on, or the writer failed, and nothing else is changed
  pub record SendsOn (sent : Bool) (old new : Standing C S) : Type 0 where
    pub output : Keeps old.sides.output new.sides.output
    pub input : new.sides.input ≡ old.sides.input
    pub desk : new.sides.desk ≡ old.sides.desk
    pub shelf : new.sides.shelf ≡ old.sides.shelf
    pub reader : new.read_faults ≡ old.read_faults
    pub writer : new.write_faults ≡ count_after_flush sent old.write_faults

  -- a line is asked for, with this answer, and nothing else is changed
  pub record TakesLine (answer : LineIs) (text : List ℕ) (old new : Standing C S) : Type 0 where
    pub input : ReadsLine old.sides.input new.sides.input answer text
    pub output : new.sides.output ≡ old.sides.output
    pub desk : new.sides.desk ≡ old.sides.desk
    pub shelf : new.sides.shelf ≡ old.sides.shelf
    pub reader : new.read_faults ≡ count_after_line answer old.read_faults
    pub writer : new.write_faults ≡ old.write_faults

  -- one line is served so, its reply is sent on, and nothing behind a fault, and this is how the session ends there, if it ends
  pub record ServesSo (serves : Sides C S → Sides C S → Outcome → Type 0) (old new : Standing C S) (told : Option Ending) : Type 0 where
    pub middle : Standing C S
    pub outcome : Outcome
    pub flushed : Bool
    pub served : serves old.sides middle.sides outcome
    pub reads : middle.read_faults ≡ read_faults_after outcome old.read_faults
    pub writes : middle.write_faults ≡ write_faults_after outcome old.write_faults
    pub sent : SendsOn flushed middle new
    pub silent : is_fault outcome ≡ true → flushed ≡ true
    pub ends : told ≡ ending_after outcome flushed

module _ {C S : Type 0} (rights : Rights) (calls : DeskRelations C) (files : ShelfRelations S) where
  -- one line is served, or one that was taken already, and its reply is sent on
  abbrev pub ServesLine : Standing C S → Standing C S → Option Ending → Type 0
  ServesLine = ServesSo (Serves rights calls files)

  abbrev pub ServesTaken : List ℕ → Standing C S → Standing C S → Option Ending → Type 0
  ServesTaken text = ServesSo (ServesBehind rights calls files text)

  -- one of the first lines: none came; or it is the first and a request of HTTP, and is taken and nothing else; or it is served
  pub data OpensLine (is_first : Bool) (old new : Standing C S) (what : Opening) : Type 0 where
    no_line : (answer : LineIs) (text : List ℕ) (ending : Ending) → TakesLine answer text old new → ending_without answer ≡ Some ending → what ≡ opening.Ended ending → OpensLine is_first old new what
    turned_away : (text : List ℕ) → TakesLine line.Line text old new → is_turned_away is_first text ≡ true → what ≡ opening.Ended ending.Request → OpensLine is_first old new what
    first_line : (text : List ℕ) (taken : Standing C S) (told : Option Ending) → TakesLine line.Line text old taken → is_turned_away is_first text ≡ false → ServesTaken text taken new told →
        what ≡ opening_of told (is_command text) → OpensLine is_first old new what

  -- so many lines that are no commands, none of which ends the session
  pub data OpensLines (first : Standing C S) : Standing C S → ℕ → Type 0 where
    no_stranger : OpensLines first first 0
    next_stranger : (middle last : Standing C S) (count : ℕ) → OpensLines first middle count → OpensLine (count == 0) middle last opening.Strange → OpensLines first last (count + 1)

  -- the first lines of a session: up to one that ends it, or to the first that is a command; or all that may be none
  pub data OpensSession (first last : Standing C S) : Option Ending → Type 0 where
    ended_early : (middle : Standing C S) (count : ℕ) (ending : Ending) → OpensLines first middle count → count < most_strange → OpensLine (count == 0) middle last (opening.Ended ending) → OpensSession first last (Some ending)
    met : (middle : Standing C S) (count : ℕ) → OpensLines first middle count → count < most_strange → OpensLine (count == 0) middle last opening.Met → OpensSession first last None
    strange : OpensLines first last most_strange → OpensSession first last (Some ending.Stranger)

  -- so many lines are served one after the other, none of which ends the session
  pub data ServesLines (first : Standing C S) : Standing C S → ℕ → Type 0 where
    no_line : ServesLines first first 0
    next_line : (middle last : Standing C S) (count : ℕ) → ServesLines first middle count → ServesLine middle last None → ServesLines first last (count + 1)

  -- the lines of a session: fewer than it may have, and then one that ends it; or all that it may have
  pub data ServesToEnd (first last : Standing C S) : Ending → Type 0 where
    ended : (middle : Standing C S) (count : ℕ) (ending : Ending) → ServesLines first middle count → count < most_commands → ServesLine middle last (Some ending) → ServesToEnd first last ending
    full : ServesLines first last most_commands → ServesToEnd first last ending.Full

  -- all lines of a session: it ends with its first lines, or those behind its first command follow
  pub data ServesAll (first last : Standing C S) (ending : Ending) : Type 0 where
    closed : OpensSession first last (Some ending) → ServesAll first last ending
    opened : (middle : Standing C S) → OpensSession first middle None → ServesToEnd middle last ending → ServesAll first last ending

-- the same with another desk
abbrev pub with_desk : {C S : Type 0} → Standing C S → C → Standing C S
with_desk standing desk = record standing { sides = record standing.sides { desk = desk } }

module _ {C S : Type 0} (rights : Rights) (calls : DeskRelations C) (files : ShelfRelations S) where
  -- a session: it begins, and its lines are served to its end
  pub record ServesSession (first last : Standing C S) (ending : Ending) : Type 0 where
    pub begun : C
    pub begins_so : calls.begins first.sides.desk begun
    pub served : ServesAll rights calls files (with_desk first begun) last ending
