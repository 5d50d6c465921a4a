-- The file of a journal (ours): what it was asked, step by step, and whether it did so; and what it has kept by these steps.
use Rattle.std.specs.Prelude.{ℕ, ◌≡◌, ◌≢◌, ◌+◌, ◌≤◌, ◌<◌, List, [], ◌∷◌, ◌++◌, length, Bool, true, false}
use Rattle.journal.specs.{declared.marks.Mark.Mark, Marks.mark_behind, Queues.texts_from}

-- what is asked: to write bytes behind all others; to wait until all that was written is kept, also if the machine fails; to cut off what stands behind so many bytes; to note beside the file how much of it is kept
pub data Asked : Type 0 where
  Append : List ℕ → Asked
  Sync : Asked
  CutTo : ℕ → Asked
  Note : Mark → Asked

-- a step: what is asked, and whether it was done
abbrev pub Step : Type 0
Step = Asked × Bool

-- what a file has kept behind the whole records that it was opened with, which have this mark, by the steps since then, the newest first; and whether nothing else can stand there. Only where nothing else does is anything written; it is kept once the sync behind it was done and the mark of all that is kept was noted, and what was not is cut off before anything else is written
pub data HasKept (begun : Mark) : List Step → List ℕ → Bool → Type 0 where
  at_opening : HasKept begun [] [] false
  cut_back : (steps : List Step) (text : List ℕ) (clean done : Bool) → HasKept begun steps text clean → HasKept begun ((CutTo (begun.length + length text), done) ∷ steps) text done
  noted : (steps : List Step) (text more : List ℕ) → HasKept begun steps text true → HasKept begun ((Note (mark_behind begun (text ++ more)), true) ∷ (Sync, true) ∷ (Append more, true) ∷ steps) (text ++ more) true
  not_noted : (steps : List Step) (text more : List ℕ) → HasKept begun steps text true → HasKept begun ((Note (mark_behind begun (text ++ more)), false) ∷ (Sync, true) ∷ (Append more, true) ∷ steps) text false
  not_synced : (steps : List Step) (text more : List ℕ) → HasKept begun steps text true → HasKept begun ((Sync, false) ∷ (Append more, true) ∷ steps) text false
  not_written : (steps : List Step) (text more : List ℕ) → HasKept begun steps text true → HasKept begun ((Append more, false) ∷ steps) text false

-- the text of these records from a version on, one version after the other, and the version behind the last of them
pub record IsRun (first : ℕ) (drafts : List (List ℕ)) (text : List ℕ) (next : ℕ) : Type 0 where
  pub text_is : text ≡ texts_from first drafts
  pub next_is : next ≡ first + length drafts

-- the file of a journal: what it is of; the mark of the whole records that it was opened with, and of those that it has; the version of its first record behind the former, and of the one that comes next; and whether it has no other bytes
pub record JournalFile (F : Type 0) : Type 0 where
  pub file : F
  pub begun : Mark
  pub has : Mark
  pub first : ℕ
  pub next : ℕ
  pub clean : Bool

-- versions of records: the first, and the one behind the last
pub record Versions : Type 0 where
  pub first : ℕ
  pub next : ℕ

-- versions of records in the same way, of which the last, from one on, are these
pub record Batch : Type 0 where
  pub first : ℕ
  pub next : ℕ
  pub from : ℕ
  pub drafts : List (List ℕ)

module _ {F : Type 0} (has_done : F → List Step → Type 0) where
  -- the file takes these steps and no others, the newest first
  abbrev pub TakesSteps : F → List Step → F → Type 0
  TakesSteps old steps new = (before : List Step) → has_done old before → has_done new (steps ++ before)

  -- the file takes one step
  abbrev pub TakesStep : F → Step → F → Type 0
  TakesStep old step new = TakesSteps old (step ∷ []) new

  -- the file takes some steps and no others
  pub record TakesSome (old new : F) : Type 0 where
    pub steps : List Step
    pub taken : TakesSteps old steps new

  -- the last that the file is asked is to cut off what stands behind so many bytes, and this is whether it does
  pub record CutsLast (kept : ℕ) (done : Bool) (old new : F) : Type 0 where
    pub steps : List Step
    pub taken : TakesSteps old ((CutTo kept, done) ∷ steps) new

  -- bytes are written and kept, and a mark is noted or is not; or they are not kept; or they are not written
  pub data WritesAndNotes (bytes : List ℕ) (mark : Mark) (done : Bool) (old new : F) : Type 0 where
    told_to_note : TakesSteps old ((Note mark, done) ∷ (Sync, true) ∷ (Append bytes, true) ∷ []) new → WritesAndNotes bytes mark done old new
    sync_failed : done ≡ false → TakesSteps old ((Sync, false) ∷ (Append bytes, true) ∷ []) new → WritesAndNotes bytes mark done old new
    append_failed : done ≡ false → TakesSteps old ((Append bytes, false) ∷ []) new → WritesAndNotes bytes mark done old new

  -- by its steps since it was opened, a file has kept the records of these versions, all of them and in their order
  pub record HasRecords (journal : JournalFile F) : Type 0 where
    pub opened : F
    pub steps : List Step
    pub drafts : List (List ℕ)
    pub text : List ℕ
    pub taken : TakesSteps opened steps journal.file
    pub kept : HasKept journal.begun steps text journal.clean
    pub run : IsRun journal.first drafts text journal.next
    pub has_is : journal.has ≡ mark_behind journal.begun text

  -- what a text leaves that is not kept: the last that the file is asked cuts off what stands behind the whole records, which are as before, and it is known whether nothing does
  pub record IsCutBack (old new : JournalFile F) : Type 0 where
    pub same : new ≡ record old { file = new.file; clean = new.clean }
    pub cut : CutsLast old.has.length new.clean old.file new.file

  -- what records leave that are not kept: nothing is asked of the file, where it is not their turn; or what was written of them is cut off
  pub data IsLeft (first : ℕ) (old new : JournalFile F) : Type 0 where
    out_of_turn : first ≢ old.next → new ≡ old → IsLeft first old new
    cut_off : IsCutBack old new → IsLeft first old new

  -- the file of a journal has kept the records from one version on, up to another
  pub record AreKept (first next : ℕ) : Type 0 where
    pub journal : JournalFile F
    pub records : HasRecords journal
    pub first_is : journal.first ≡ first
    pub next_is : journal.next ≡ next

  -- the file of a journal has kept the records from one version on, up to another, of which the last, from a version on, are these
  pub record AreKeptAs (first next from : ℕ) (drafts : List (List ℕ)) : Type 0 where
    pub journal : JournalFile F
    pub records : HasRecords journal
    pub before : List (List ℕ)
    pub drafts_are : records.drafts ≡ before ++ drafts
    pub first_is : journal.first ≡ first
    pub next_is : journal.next ≡ next
    pub from_is : from ≡ first + length before

  -- the record of a version is kept, and has this text behind its version, with all before it, back to the first since the file was opened
  pub record IsKeptAs (version : ℕ) (draft : List ℕ) : Type 0 where
    pub journal : JournalFile F
    pub records : HasRecords journal
    pub before : List (List ℕ)
    pub behind : List (List ℕ)
    pub drafts_are : records.drafts ≡ before ++ draft ∷ behind
    pub version_is : version ≡ journal.first + length before

  -- some record of a version is kept, with all before it
  pub record IsKept (version : ℕ) : Type 0 where
    pub first : ℕ
    pub next : ℕ
    pub records : AreKept first next
    pub from : first ≤ version
    pub below : version < next
