-- The changes of a journal made again, one after the other, on a desk (ours).
use Rattle.std.specs.{Prelude.{ℕ, ◌≡◌, ◌≢◌, ◌+◌, ⊤, Bool, true, false, List, [], ◌∷◌, ◌++◌, Option, Some, None, length, filter_map}, Io.KnownBytes.{Consumes, IsAtEnd}}
use Rattle.desk_core.specs.Changes as changes
use Rattle.desk_core.specs.{declared.calls.Change.Change, declared.calls.Call.TheVariants.Make, declared.replies.Refusal.TheVariants.OutOfMemory, declared.replies.Reply.Reply, declared.replies.Reply.TheVariants.{Changed, Refused}, Desks.{Desk, new_desk_at, decks_of}, Runs.{History, Runs, change_made, changes_in}, Steps.Steps}
use Rattle.journal.specs.{declared.records.Entry.Entry, declared.records.Entry.TheVariants.{Begun, Made}, declared.records.Record.Record, declared.places.Ending.Ending, declared.places.Ending.TheVariants.{Whole, Cut, Faulty}, declared.reading.JournalFault.JournalFault, declared.replaying.ReplayFault.ReplayFault, declared.places.Place.Place, Places.capped, Journals.{Journal, journal_from, journal_of}, Reading.StopsReading}
use Rattle.journal.specs.declared.reading.JournalFault.TheVariants as fault
use Rattle.journal.specs.declared.replaying.ReplayFault.TheVariants as replay

-- the fault of a journal as one of making its changes again
abbrev pub replay_fault : JournalFault → ReplayFault
replay_fault fault.ReadFault = replay.ReadFault
replay_fault fault.OutOfMemory = replay.OutOfMemory

-- the change of decks that a record of this version shows, if it shows one
abbrev pub change_in_entry : ℕ → Entry → Option changes.Change
change_in_entry version Begun = None
change_in_entry version (Made asked) = change_made asked (Changed version)

abbrev pub change_told : Record → Option changes.Change
change_told r = change_in_entry r.version r.entry

-- the changes that records show, in order
abbrev pub changes_told : List Record → List changes.Change
changes_told records = filter_map change_told records

-- the version behind which a journal goes on that begins with a record
abbrev pub begun_at : ℕ → Entry → ℕ
begun_at version Begun = version
begun_at version (Made asked) = 0

-- the version behind which a journal goes on: that of its first record, where this shows so; or none
abbrev pub begun_by : List Record → ℕ
begun_by [] = 0
begun_by (r ∷ records) = begun_at r.version r.entry

-- a change of who has a name is made again, and makes the version
abbrev pub MakesAgain : ℕ → List ℕ → Change → Desk → Desk → Type 0
MakesAgain version by asked desk next = Steps desk (Make by asked) (Changed version) next

-- what a record shows is taken: it begins the journal, where it is the first; or it has a change, which is made again
abbrev pub IsTakenAs : Bool → ℕ → List ℕ → Entry → Desk → Desk → Type 0
IsTakenAs first version by Begun desk next = (first ≡ true) × (next ≡ new_desk_at version)
IsTakenAs first version by (Made asked) desk next = MakesAgain version by asked desk next

abbrev pub IsTaken : Bool → Record → Desk → Desk → Type 0
IsTaken first r desk next = IsTakenAs first r.version r.by r.entry desk next

-- the desk answers the change of who has a name otherwise: it refuses it, and not for want of memory, or makes another version
pub record AnswersOtherwise (version : ℕ) (by : List ℕ) (asked : Change) (desk : Desk) : Type 0 where
  pub reply : Reply
  pub next : Desk
  pub steps : Steps desk (Make by asked) reply next
  pub other : reply ≢ Changed version
  pub memory : reply ≢ Refused OutOfMemory

-- what a record shows can't be taken: it begins a journal, and is not the first; or the desk answers its change otherwise
abbrev pub IsUnmadeAs : Bool → ℕ → List ℕ → Entry → Desk → Type 0
IsUnmadeAs first version by Begun desk = first ≡ false
IsUnmadeAs first version by (Made asked) desk = AnswersOtherwise version by asked desk

-- the fault that names the record at a place: by its number, and the byte at which it begins
abbrev pub unmade_at : Place → ReplayFault
unmade_at place = replay.Unmade (capped (place.records + 1)) place.begin

-- why a record at a place is not taken: there is no memory; or it can't be, and the fault names it
abbrev pub IsNotTaken : Bool → Record → Place → Desk → ReplayFault → Type 0
IsNotTaken first r place desk replay.ReadFault = ⊥
IsNotTaken first r place desk replay.OutOfMemory = ⊤
IsNotTaken first r place desk (replay.Unmade number begin) = (replay.Unmade number begin ≡ unmade_at place) × IsUnmadeAs first r.version r.by r.entry desk

-- a desk on which the changes of records were made again: one history from a new desk leads to it, which accepted exactly these changes; so its version is as many behind that with which they begin, and its decks are those that they leave
pub record IsReplayed (records : List Record) (desk : Desk) : Type 0 where
  pub history : History
  pub runs : Runs (begun_by records) history desk
  pub accepted : changes_in history ≡ changes_told records
  pub version : desk.version ≡ begun_by records + length (changes_told records)
  pub decks : decks_of desk ≡ changes.decks_after (changes_told records)

-- records in front of a journal
abbrev pub fronted : List Record → Journal → Journal
fronted records journal = record journal { records = records ++ journal.records }

-- the bytes that were taken are the first records of the journal, whatever follows
abbrev pub TellsFirst : List Record → List ℕ → Type 0
TellsFirst records taken = (rest : List ℕ) → (journal : Journal) × (journal_of (taken ++ rest) ≡ fronted records journal)

-- the bytes that were taken are these records, and end like this: nothing is left, or what is left shows nothing
abbrev pub TellsJournal : List Record → Ending → List ℕ → Option (List ℕ) → Type 0
TellsJournal records Whole taken left = (journal_of taken ≡ record { records = records; ending = Whole }) × IsAtEnd left
TellsJournal records (Cut begin) taken left = (journal_of taken ≡ record { records = records; ending = Cut begin }) × IsAtEnd left
TellsJournal records (Faulty number begin) taken left = (rest : List ℕ) → journal_of (taken ++ rest) ≡ record { records = records; ending = Faulty number begin }

-- the bytes that were taken are the records of the journal, to its end; or the first of them, where the desk has the version that was asked for
abbrev pub TellsSoFar : List Record → ℕ → Desk → Option Ending → List ℕ → Option (List ℕ) → Type 0
TellsSoFar records last desk None taken left = TellsFirst records taken × (desk.version ≡ last)
TellsSoFar records last desk (Some ending) taken left = TellsJournal records ending taken left

-- a journal is read, to its end or to a version, and the changes of the records that were read are made again
pub record Replays (old new : Option (List ℕ)) (last : ℕ) (desk : Desk) (ending : Option Ending) : Type 0 where
  pub records : List Record
  pub replayed : IsReplayed records desk
  pub taken : List ℕ
  pub consumed : Consumes old new taken
  pub told : TellsSoFar records last desk ending taken new

-- the bytes that were taken are these records, and what follows is read from this place on
abbrev pub LeadsTo : List Record → List ℕ → Place → Type 0
LeadsTo records taken place = (rest : List ℕ) → journal_of (taken ++ rest) ≡ fronted records (journal_from None place rest)

-- whether there are no records
abbrev pub are_none : List Record → Bool
are_none [] = true
are_none (r ∷ records) = false

-- the changes of the first records of a journal are made again, and the next record can't be: it has this number, and begins at this byte
pub record IsUnmade (old new : Option (List ℕ)) (number begin : ℕ) : Type 0 where
  pub records : List Record
  pub desk : Desk
  pub replayed : IsReplayed records desk
  pub front : List ℕ
  pub place : Place
  pub stands : LeadsTo records front place
  pub unmade : Record
  pub own : List ℕ
  pub behind : Place
  pub told : LeadsTo (records ++ unmade ∷ []) (front ++ own) behind
  pub consumed : Consumes old new (front ++ own)
  pub refused : IsNotTaken (are_none records) unmade place desk (replay.Unmade number begin)

-- why a journal is not read to its end, by the reader's count of faults before and after: the reader fails, or gives as many bytes as can be counted, or there is no memory; or a record can't be made again
abbrev pub StopsReplay : Option (List ℕ) → Option (List ℕ) → ℕ → ℕ → ReplayFault → Type 0
StopsReplay old new before after replay.ReadFault = StopsReading old new before after fault.ReadFault
StopsReplay old new before after replay.OutOfMemory = StopsReading old new before after fault.OutOfMemory
StopsReplay old new before after (replay.Unmade number begin) = IsUnmade old new number begin
