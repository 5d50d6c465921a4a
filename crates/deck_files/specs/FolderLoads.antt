-- LOAD from a folder (ours): the deck's file is looked at, opened where it is a plain file, and read. No link is followed.
use Rattle.std.specs.Prelude.{ℕ, ◌≡◌, ◌⊎◌, List, [], ◌∷◌, Option, IsUtf8}
use Rattle.definitions.specs.Cards.{Card}
use Rattle.deck_files.specs.{declared.load_fault.LoadFault.LoadFault, declared.load_fault.LoadFault.TheVariants.OutOfMemory, declared.deck_shelf.ShelfLoadFault.ShelfLoadFault, declared.deck_shelf.ShelfLoadFault.TheVariants.{CannotOpen, BadFile}, declared.folders.Standing.TheVariants.{Nothing, PlainFile, Other}, declared.file_sums.FileSum.FileSum, Loads.{LoadsFault, LoadsSummed}, Folders.{Place, deck_path}, Steps.{Step, Look, Open, Refused, Found, Gave, TakesStep, TakesSteps}}

-- a plain file was opened, whose reader has these bytes left
abbrev pub opened_steps : List ℕ → Option (List ℕ) → List Step
opened_steps path bytes = (Open path, Gave bytes) ∷ (Look path, Found PlainFile) ∷ []

-- no file is open: the cards of none were read
abbrev pub IsUnopened : ShelfLoadFault → Type 0
IsUnopened fault = (fault ≡ CannotOpen) ⊎ (fault ≡ BadFile OutOfMemory)

module _ {F : Type 0} (has_done : F → List Step → Type 0) where
  -- these are the cards of the file at the path, as the folder gave it, and this is its sum
  pub record LoadsFile (path : List ℕ) (cards : List Card) (sum : FileSum) (old new : F) : Type 0 where
    pub bytes : Option (List ℕ)
    pub rest : Option (List ℕ)
    pub steps : TakesSteps has_done old (opened_steps path bytes) new
    pub read : LoadsSummed bytes rest cards sum

  -- the file at the path was not opened: the folder refused to look, no plain file stands there, or it refused to open it
  pub data DoesNotOpen (path : List ℕ) (old new : F) : Type 0 where
    unseen : TakesStep has_done old (Look path, Refused) new → DoesNotOpen path old new
    nothing : TakesStep has_done old (Look path, Found Nothing) new → DoesNotOpen path old new
    not_plain : TakesStep has_done old (Look path, Found Other) new → DoesNotOpen path old new
    shut : TakesSteps has_done old ((Open path, Refused) ∷ (Look path, Found PlainFile) ∷ []) new → DoesNotOpen path old new

  -- the fault is that of the file at the path, as the folder gave it; or no memory was left for its path, or for the folder to open it
  pub data HasFault (path : List ℕ) (fault : LoadFault) (old new : F) : Type 0 where
    read : (bytes rest : Option (List ℕ)) → TakesSteps has_done old (opened_steps path bytes) new → LoadsFault fault bytes rest → HasFault path fault old new
    not_opened : fault ≡ OutOfMemory → DoesNotOpen path old new → HasFault path fault old new
    not_named : fault ≡ OutOfMemory → new ≡ old → HasFault path fault old new

  -- a load of the deck ends so; a name is letters and digits, and so a text
  abbrev pub LoadFails : Place → ShelfLoadFault → F → F → Type 0
  LoadFails at CannotOpen old new = (¬ IsUtf8 at.name × (new ≡ old)) ⊎ DoesNotOpen (deck_path at) old new
  LoadFails at (BadFile fault) old new = HasFault (deck_path at) fault old new
