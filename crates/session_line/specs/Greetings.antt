-- Who greets, and the lines that it is shown (ours): the service and its version, and who is connected.
use Rattle.std.specs.Prelude.{ℕ, ◌≡◌, Bool, true, false, List, [], ◌++◌, codes, decimal}
use Rattle.desk_core.specs.declared.{calls.Call.Call, calls.Call.TheVariants.Ask, calls.Question.TheVariants.Status, replies.Reply.Reply, replies.Reply.TheVariants.StatusIs}
use Rattle.session_line.specs.declared.{greetings.Connected.Connected, greetings.Greeting.Greeting, rights.Rights.Rights, rights.Rights.TheVariants.{Edits, Reads}}

-- the version of the program
abbrev pub service_version : List ℕ
service_version = codes "0.1.0"

-- the service
abbrev pub service_text : List ℕ
service_text = codes "SERVICE beskloun " ++ service_version

-- the word for a session, by what it may do
abbrev pub session_word : Rights → List ℕ
session_word Edits = codes "SESSION "
session_word Reads = codes "READER "

-- what a session is, its number, and who it is
abbrev pub connected_text : Connected → List ℕ
connected_text connected = session_word connected.rights ++ (decimal connected.number ++ (codes " " ++ connected.who))

-- a status, and the sessions that are connected
abbrev pub met : Reply → List Connected → Greeting
met status sessions = record { status = status; sessions = sessions }

-- whether a status is shown
abbrev pub is_status_reply : Reply → Bool
is_status_reply (StatusIs version published rows) = true
is_status_reply _ = false

-- whether the name holds from now on: where the status is shown
abbrev pub is_met : Greeting → Bool
is_met greeting = is_status_reply greeting.status

-- this is done where a name holds, and else nothing
abbrev pub WhereMet : {K : Type 0} → (K → K → Type 0) → Bool → K → K → Type 0
WhereMet does true old new = does old new
WhereMet does false old new = new ≡ old

module _ {C : Type 0} (makes : C → Call → Reply → C → Type 0) where
  -- who knows of no session asks for the status
  abbrev pub MeetsAlone : C → Greeting → C → Type 0
  MeetsAlone old greeting new = makes old (Ask Status) greeting.status new × (greeting.sessions ≡ [])
