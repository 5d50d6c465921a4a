-- Steps of a folder: they go on from each other, and change no other paths together than each.
use Rattle.std.proofs.{Common.{ℕ, zero, suc, ◌≡◌, inl, inr, List, [], ◌∷◌, ◌++◌, Option, Result, Ok, Err, IfErr, OnOk, IsOk, refl, sym, subst, append_assoc}, KnownBytes.Consumes-nil}
use Rattle.definitions.specs.Cards.{Card}
use Rattle.deck_files.specs.{declared.load_fault.LoadFault.LoadFault, declared.load_fault.LoadFault.TheVariants.OutOfMemory, declared.deck_shelf.ShelfLoadFault.ShelfLoadFault, declared.deck_shelf.ShelfSaveFault.ShelfSaveFault, declared.file_sums.FileSum.FileSum, Loads.LoadsFault, Folders.{Place, deck_path}, Steps.{Asked, Answered, Step, Refused, Done, Found, Gave, Holds, changed_by, AreAmong, ChangesAmong, ChangeAmong, TakesSteps, ChangesOnly}, FolderLoads.{IsUnopened, DoesNotOpen, HasFault, LoadsFile, LoadFails, read, not_opened, opened_steps}, FolderSaves.{IsFaultOfFolder, IsFaultOfNew, refused_links, refused_tries}}

-- what each fault says it says of a weaker relation too
pub err-map : {T E : Type 0} {P Q : E → Type 0} (result : Result T E) → ((error : E) → P error → Q error) → IfErr result P → IfErr result Q
err-map (Ok value) weaker holds = tt
err-map (Err error) weaker holds = weaker error holds

-- what is left where nothing went wrong says of a weaker relation too
pub ok-map : {T E P Q : Type 0} (result : Result T E) → (P → Q) → OnOk result P → OnOk result Q
ok-map (Ok value) weaker holds = weaker holds
ok-map (Err error) weaker holds = tt

-- a folder's fault is one of a new file
pub fault-of-new : (text : List ℕ) (fault : ShelfSaveFault) → IsFaultOfFolder fault → IsFaultOfNew text fault
fault-of-new text fault (inl is) = subst (IsFaultOfNew text) (sym is) tt
fault-of-new text fault (inr is) = subst (IsFaultOfNew text) (sym is) tt

-- no memory was left when some of a file was read, or all of it
pub no_room-loads : (bytes : Option (List ℕ)) → LoadsFault OutOfMemory bytes bytes
no_room-loads bytes = ([], Consumes-nil bytes, refl)

-- ---- paths

AreAmong-more : {A B : List ℕ → Type 0} → ((path : List ℕ) → A path → B path) → (paths : List (List ℕ)) → AreAmong A paths → AreAmong B paths
AreAmong-more more [] holds = tt
AreAmong-more more (path ∷ paths) holds = (more path holds.0, AreAmong-more more paths holds.1)

-- what was asked, whatever the answer is
pub ChangesAmong-asked : (A : List ℕ → Type 0) (asked : Asked) (answer : Answered) → AreAmong A (changed_by asked) → ChangesAmong A asked answer
ChangesAmong-asked A asked Refused among = tt
ChangesAmong-asked A asked Done among = among
ChangesAmong-asked A asked (Found standing) among = among
ChangesAmong-asked A asked (Gave bytes) among = among
ChangesAmong-asked A asked (Holds entries) among = among

ChangesAmong-more : {A B : List ℕ → Type 0} → ((path : List ℕ) → A path → B path) → (asked : Asked) (answer : Answered) → ChangesAmong A asked answer → ChangesAmong B asked answer
ChangesAmong-more more asked Refused holds = tt
ChangesAmong-more more asked Done holds = AreAmong-more more (changed_by asked) holds
ChangesAmong-more more asked (Found standing) holds = AreAmong-more more (changed_by asked) holds
ChangesAmong-more more asked (Gave bytes) holds = AreAmong-more more (changed_by asked) holds
ChangesAmong-more more asked (Holds entries) holds = AreAmong-more more (changed_by asked) holds

ChangeAmong-more : {A B : List ℕ → Type 0} → ((path : List ℕ) → A path → B path) → (steps : List Step) → ChangeAmong A steps → ChangeAmong B steps
ChangeAmong-more more [] holds = tt
ChangeAmong-more more (step ∷ steps) holds = (ChangesAmong-more more step.0 step.1 holds.0, ChangeAmong-more more steps holds.1)

pub ChangeAmong-append : (A : List ℕ → Type 0) (first second : List Step) → ChangeAmong A first → ChangeAmong A second → ChangeAmong A (first ++ second)
ChangeAmong-append A [] second holds too = too
ChangeAmong-append A (step ∷ steps) second holds too = (holds.0, ChangeAmong-append A steps second holds.1 too)

-- names that something has change nothing
pub ChangeAmong-tries : (A : List ℕ → Type 0) (at : Place) (tries : ℕ) → ChangeAmong A (refused_tries at tries)
ChangeAmong-tries A at zero = tt
ChangeAmong-tries A at (suc tries) = (tt, ChangeAmong-tries A at tries)

pub ChangeAmong-links : (A : List ℕ → Type 0) (at : Place) (deck : List ℕ) (tries : ℕ) → ChangeAmong A (refused_links at deck tries)
ChangeAmong-links A at deck zero = tt
ChangeAmong-links A at deck (suc tries) = (tt, ChangeAmong-links A at deck tries)

module _ {F : Type 0} (has_done : F → List Step → Type 0) where
  pub takes-none : (old new : F) → new ≡ old → TakesSteps has_done old [] new
  takes-none old new same before holds = subst (λ (f : F). has_done f before) (sym same) holds

  pub takes-join : (old middle new : F) (first second : List Step) → TakesSteps has_done old first middle → TakesSteps has_done middle second new → TakesSteps has_done old (second ++ first) new
  takes-join old middle new first second one two before holds =
      subst (λ (steps : List Step). has_done new steps) (sym (append_assoc second first before)) (two (first ++ before) (one before holds))

  pub only-none : (A : List ℕ → Type 0) (old new : F) → new ≡ old → ChangesOnly has_done A old new
  only-none A old new same = ([], tt, takes-none old new same)

  pub only-join : (A : List ℕ → Type 0) (old middle new : F) → ChangesOnly has_done A old middle → ChangesOnly has_done A middle new → ChangesOnly has_done A old new
  only-join A old middle new one two = (two.0 ++ one.0, ChangeAmong-append A two.0 one.0 two.1 one.1, takes-join old middle new one.0 two.0 one.2 two.2)

  pub only-more : (A B : List ℕ → Type 0) (old new : F) → ((path : List ℕ) → A path → B path) → ChangesOnly has_done A old new → ChangesOnly has_done B old new
  only-more A B old new more only = (only.0, ChangeAmong-more more only.0 only.1, only.2)

  -- ---- loads

  -- the file that was not opened is the deck's
  pub fails-unopened : (at : Place) (path : List ℕ) (fault : ShelfLoadFault) (old new : F) → path ≡ deck_path at → IsUnopened fault → DoesNotOpen has_done path old new → LoadFails has_done at fault old new
  fails-unopened at path fault old new is (inl told) unopened =
      subst (λ (f : ShelfLoadFault). LoadFails has_done at f old new) (sym told) (inr (subst (λ (p : List ℕ). DoesNotOpen has_done p old new) is unopened))
  fails-unopened at path fault old new is (inr told) unopened =
      subst (λ (f : ShelfLoadFault). LoadFails has_done at f old new) (sym told) (not_opened refl (subst (λ (p : List ℕ). DoesNotOpen has_done p old new) is unopened))

  -- the file whose fault it is, is the deck's
  pub fails-read : (at : Place) (path : List ℕ) (fault : LoadFault) (bytes rest : Option (List ℕ)) (old new : F) → path ≡ deck_path at →
      TakesSteps has_done old (opened_steps path bytes) new → LoadsFault fault bytes rest → HasFault has_done (deck_path at) fault old new
  fails-read at path fault bytes rest old new is steps loads =
      read bytes rest (subst (λ (p : List ℕ). TakesSteps has_done old (opened_steps p bytes) new) is steps) loads

  -- no memory was left to note that the file is known
  pub fails-noting : (path : List ℕ) (cards : List Card) (sum : FileSum) (old new : F) → LoadsFile has_done path cards sum old new → HasFault has_done path OutOfMemory old new
  fails-noting path cards sum old new loaded =
      read loaded.bytes loaded.rest loaded.steps (loaded.read.0, loaded.read.1, subst (λ (r : Result (List Card) LoadFault). IsOk r) (sym loaded.read.3) refl)
