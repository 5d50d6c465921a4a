-- The ends that a session has at its service (ours): what its calls answer.
use Rattle.std.specs.Prelude.{ℕ, ◌≡◌, ⊤, ◌⊎◌, List, Bool, true, false, Option, Some, None, Result, Ok, Err}
use Rattle.cards.specs.declared.edits.Edit.{Edit}
use Rattle.desk_core.specs.declared.{calls.Change.Change, calls.Call.{Call, TheVariants.Make}, replies.Refusal.Refusal, replies.Refusal.TheVariants.{NotKept, OutOfMemory}, replies.Reply.Reply, replies.Reply.TheVariants.{Changed, Carried}}
use Rattle.desk_service.specs.{declared.journals.News.News, declared.journals.News.TheVariants.{Fails, GoesOn}, Company.AreListed}
use Rattle.journal.specs.{declared.drafted.Drafted.Drafted, Drafted.drafted, Drafts.{carried_deck, change_carried, takes_memory}, Names.session_name, Queues.{Queue, all_shown}, Records.text_behind_version}
use Rattle.journal.specs.JournalFiles.{Step, IsKept, IsKeptAs, Batch as KeptBatch}
use Rattle.kept_desk.specs.EndsRelations.{EndsRelations}

-- whether there is a journal, the number of the session, the version of its latest change that was reported as not kept, and the name by which it asks for changes
pub record SessionEnds : Type 0 where
  pub journaled : Bool
  pub session : ℕ
  pub missed : Option ℕ
  pub name : List ℕ

-- by this name it asks for changes from now on; or by its number, where it gave none
abbrev pub IsNamed : SessionEnds → Option (List ℕ) → SessionEnds → Type 0
IsNamed old (Some name) new = new ≡ record old { name = name }
IsNamed old None new = new ≡ record old { name = session_name old.session }

-- what is reported of a journal behind a write, by whether the one before failed, and whether this one did: each time only that it is otherwise than before
abbrev pub news_of : Bool → Bool → Option News
news_of false true = Some Fails
news_of true false = Some GoesOn
news_of failed fails = None

-- the queue behind a write: these records are kept, and what came meanwhile waits on; or none is, and all that waits is given up
abbrev pub queue_behind : Option KeptBatch → Queue → Queue
queue_behind (Some kept) queue = record queue { first = kept.first; next = kept.next; shown = all_shown queue.places kept.from kept.drafts queue.shown }
queue_behind None queue = record queue { told = queue.behind }

-- what is known of the record of a change that a session of this name asks for at some moment
abbrev pub IsDrafted : List ℕ → Change → Drafted → Type 0
IsDrafted name change known = (moment : List ℕ) × (known ≡ drafted (record { moment = moment; by = name }) change)

module _ {F : Type 0} (has_done : F → List Step → Type 0) where
  -- the record of this change is kept with this version, as who has this name asked for it at some moment; with all before it, in the order of versions
  abbrev pub IsChangeKept : ℕ → List ℕ → Change → Type 0
  IsChangeKept version name change = (moment : List ℕ) × IsKeptAs has_done version (text_behind_version moment name change)

  -- for what was reported as not kept some record is kept now
  abbrev pub IsMadeUp : Option ℕ → Type 0
  IsMadeUp None = ⊤
  IsMadeUp (Some version) = IsKept has_done version

  -- what is answered where a change is asked for: what is known of its record, once what was reported to the session as not kept is kept; or a refusal, which reports want of memory of no drop, and of none that is carried
  abbrev pub BeginsRecord : SessionEnds → Change → Result Drafted Refusal → SessionEnds → Type 0
  BeginsRecord old change (Ok known) new = (new ≡ old) × (old.journaled ≡ true → IsMadeUp old.missed × IsDrafted old.name change known)
  BeginsRecord old change (Err refusal) new = (new ≡ old) × ((refusal ≡ NotKept) ⊎ ((refusal ≡ OutOfMemory) × (takes_memory change ≡ true)))

  -- what is answered where a change was made: that its record is kept, this one with this version, or that it is not, which the session remembers
  abbrev pub KeepsRecord : SessionEnds → ℕ → List ℕ → Bool → SessionEnds → Type 0
  KeepsRecord old version draft true new = (new ≡ old) × (old.journaled ≡ true → IsKeptAs has_done version draft)
  KeepsRecord old version draft false new = (new ≡ record old { missed = Some version }) × (old.journaled ≡ true)

  -- what its calls make of the ends: bells, sleeps and other sessions leave what is known of them
  abbrev pub ends_relations : EndsRelations SessionEnds
  ends_relations = record {
    begins = BeginsRecord;
    rings = λ old new. new ≡ old;
    keeps = KeepsRecord;
    sleeps = λ old version woken new. new ≡ old;
    lists = λ old name sessions new. (new ≡ old) × AreListed old.session name sessions;
    names = IsNamed;
    who = λ ends. ends.name;
  }

  -- the desk makes a change that who has a name asks for, with this version, and the record of just that change is kept; or, where it is carried, with these edits, and the record of just these is kept
  pub data IsMadeAndKept {C : Type 0} (makes : C → Call → Reply → C → Type 0) (name : List ℕ) (change : Change) (version : ℕ) (old new : C) : Type 0 where
    as_asked : carried_deck change ≡ None → makes old (Make name change) (Changed version) new → IsChangeKept version name change → IsMadeAndKept makes name change version old new
    as_carried : (deck : List ℕ) (seen : ℕ) (edits : List Edit) → carried_deck change ≡ Some deck → makes old (Make name change) (Carried version seen edits) new →
        IsChangeKept version name (change_carried deck seen edits) → IsMadeAndKept makes name change version old new
