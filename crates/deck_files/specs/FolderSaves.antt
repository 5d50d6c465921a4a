-- SAVE in a folder (ours): what stands at the deck's path is looked at, and read where it is to be what is known; the text goes to a new file with owner and mode of the old one, and is kept there; where any file may be written over, what stands there gets a second name; the new file gets the deck's path; what stood there is renamed to NAME.OLD; and the folder is kept.
use Rattle.std.specs.{Prelude.{ℕ, zero, suc, ◌≡◌, ◌<◌, ⊤, ◌⊎◌, List, [], ◌∷◌, ◌++◌, Bool, true, false, Option, Some, None, IfSome, IsTrue, length, is_some, string_bytes}, Option.option_map, Io.KnownBytes.Appends}
use Rattle.deck_files.specs.{declared.deck_shelf.SaveOver.SaveOver, declared.deck_shelf.SaveOver.TheVariants.{Known, Any}, declared.deck_shelf.ShelfSaveFault.ShelfSaveFault, declared.deck_shelf.ShelfSaveFault.TheVariants.{CannotOpen, FileExists, WriteFault, OutOfMemory}, declared.second_names.Aside.Aside, declared.folders.Standing.Standing, declared.folders.Standing.TheVariants.{Nothing, PlainFile, Other}, declared.file_sums.FileSum.FileSum, FileSums.has_just, Folders.{Place, deck_path, old_path, new_path, folder_path}, Steps.{Step, Answered, Look, Open, Make, Keep, TakeAfter, Put, Rename, Link, KeepFolder, Refused, Done, Found, Gave, TakesStep, TakesSteps, ChangesOnly}}

-- whether another file may have the name NAME.OLD: where nothing has it, or a plain file
abbrev pub may_be_old : Standing → Bool
may_be_old Nothing = true
may_be_old Other = false
may_be_old PlainFile = true

abbrev pub looked : Place → Standing → List Step
looked at standing = (Look (deck_path at), Found standing) ∷ []

-- so many names were tried that something has
abbrev pub refused_tries : Place → ℕ → List Step
refused_tries at zero = []
refused_tries at (suc tries) = (Make (new_path at tries), Refused) ∷ refused_tries at tries

-- the new file takes after the one at the deck's path, and is kept with what was written into it
abbrev pub filled : Option (List ℕ) → Option (List ℕ) → List ℕ → List Step
filled made kept deck = (Keep kept, Done) ∷ (TakeAfter made deck, Done) ∷ []

-- so many names were tried for the file at the deck's path that something has
abbrev pub refused_links : Place → List ℕ → ℕ → List Step
refused_links at deck zero = []
refused_links at deck (suc tries) = (Link deck (new_path at tries), Refused) ∷ refused_links at deck tries

-- it has a second name, which nothing had
abbrev pub linked : Place → List ℕ → ℕ → List Step
linked at deck tries = (Link deck (new_path at tries), Done) ∷ refused_links at deck tries

-- it has, where it keeps a name
abbrev pub set_aside : Place → List ℕ → Option ℕ → List Step
set_aside at deck None = []
set_aside at deck (Some second) = linked at deck second

-- the new file is put in the place of that one, which has a second name before where it keeps one
abbrev pub put_in_place : Place → List ℕ → Option (List ℕ) → List ℕ → Option ℕ → List Step
put_in_place at new kept deck second = (Put kept new deck, Done) ∷ set_aside at deck second

-- a new file is made, filled, and put in place
abbrev pub new_steps : Place → ℕ → Option (List ℕ) → Option (List ℕ) → Option ℕ → List Step
new_steps at tries made kept second = (put_in_place at (new_path at tries) kept (deck_path at) second ++ filled made kept (deck_path at)) ++ ((Make (new_path at tries), Gave made) ∷ refused_tries at tries)

-- what stood there has the name NAME.OLD, in place of what had it, where it keeps one; and the folder was asked to keep which files it has
abbrev pub settled : Place → Option ℕ → Answered → List Step
settled at None answer = (KeepFolder (folder_path at.folder), answer) ∷ []
settled at (Some second) answer = (KeepFolder (folder_path at.folder), answer) ∷ (Rename (new_path at second) (old_path at), Done) ∷ []

-- the second name of what stood in a deck's place, and the one that it is to have, are these of the place
abbrev pub IsAside : Place → Aside → Type 0
IsAside at aside = (string_bytes aside.path ≡ new_path at aside.tries) × (string_bytes aside.old ≡ old_path at)

abbrev pub IsAsideIf : Place → Option Aside → Type 0
IsAsideIf at None = ⊤
IsAsideIf at (Some aside) = IsAside at aside

-- the try at which a second name was found
abbrev pub second_of : Option Aside → Option ℕ
second_of aside = option_map (λ found. found.tries) aside

-- a path of a new file of this place
abbrev pub IsNew : Place → List ℕ → Type 0
IsNew at path = (tries : ℕ) × (path ≡ new_path at tries)

-- the folder refused a step, or no memory was left
abbrev pub IsFaultOfFolder : ShelfSaveFault → Type 0
IsFaultOfFolder fault = (fault ≡ CannotOpen) ⊎ (fault ≡ OutOfMemory)

-- the same, or the writer of a new file failed before the last byte of the text
abbrev pub IsFaultOfNew : List ℕ → ShelfSaveFault → Type 0
IsFaultOfNew text CannotOpen = ⊤
IsFaultOfNew text FileExists = ⊥
IsFaultOfNew text (WriteFault sent) = sent < length text
IsFaultOfNew text OutOfMemory = ⊤

module _ {F : Type 0} (has_done : F → List Step → Type 0) where
  -- the file at the deck's path was opened and read, and shows whether it has just this sum, by what the folder gave of it
  abbrev pub Compares : Place → FileSum → Bool → F → F → Type 0
  Compares at sum just old new = (bytes : Option (List ℕ)) × IfSome bytes (λ file. just ≡ has_just sum file) × TakesStep has_done old (Open (deck_path at), Gave bytes) new

  -- the plain file there may be written over: it has just what is known; or any may be, and it is to have the name NAME.OLD then, which may be given
  pub data GivesWay (at : Place) (over : SaveOver) (known : Option FileSum) (keeps : Bool) (old new : F) : Type 0 where
    is_known : (sum : FileSum) → keeps ≡ false → over ≡ Known → known ≡ Some sum → Compares at sum true old new → GivesWay at over known keeps old new
    is_any : (aside : Standing) → keeps ≡ true → over ≡ Any → IsTrue (may_be_old aside) → TakesStep has_done old (Look (old_path at), Found aside) new → GivesWay at over known keeps old new

  -- it may not: it is not known, or has something else than is known
  pub data BarsWay (at : Place) (over : SaveOver) (known : Option FileSum) (fault : ShelfSaveFault) (old new : F) : Type 0 where
    is_unknown : fault ≡ FileExists → over ≡ Known → known ≡ None → new ≡ old → BarsWay at over known fault old new
    is_changed : (sum : FileSum) → fault ≡ FileExists → over ≡ Known → known ≡ Some sum → Compares at sum false old new → BarsWay at over known fault old new

  -- nothing stands at the deck's path, or a plain file that may be written over
  pub data MakesWay (at : Place) (over : SaveOver) (known : Option FileSum) (keeps : Bool) (old new : F) : Type 0 where
    is_free : keeps ≡ false → TakesSteps has_done old (looked at Nothing) new → MakesWay at over known keeps old new
    is_given : (middle : F) → TakesSteps has_done old (looked at PlainFile) middle → GivesWay at over known keeps middle new → MakesWay at over known keeps old new

  -- the whole text went into a new file, which has the deck's path; and what stood there has a second name, where it keeps one
  pub record MakesAnew (at : Place) (text : List ℕ) (keeps : Bool) (second : Option ℕ) (old new : F) : Type 0 where
    pub tries : ℕ
    pub made : Option (List ℕ)
    pub kept : Option (List ℕ)
    pub whole : Appends made kept text
    pub same : is_some second ≡ keeps
    pub steps : TakesSteps has_done old (new_steps at tries made kept second) new

  -- the deck's file is the new one, with the whole text
  pub record PutsInPlace (at : Place) (over : SaveOver) (known : Option FileSum) (text : List ℕ) (second : Option ℕ) (old new : F) : Type 0 where
    pub keeps : Bool
    pub middle : F
    pub way : MakesWay at over known keeps old middle
    pub anew : MakesAnew at text keeps second middle new

  -- and then what stood there got the name NAME.OLD, where it keeps one, and the folder was asked to keep which files it has
  pub record SavesSo (answer : Answered) (at : Place) (over : SaveOver) (known : Option FileSum) (text : List ℕ) (old new : F) : Type 0 where
    pub second : Option ℕ
    pub middle : F
    pub placed : PutsInPlace at over known text second old middle
    pub after : TakesSteps has_done middle (settled at second answer) new

  -- the deck's path and NAME.OLD are as they were: no step changes them; or a plain file stands there that may not be written over
  pub data LeavesInPlace (at : Place) (over : SaveOver) (known : Option FileSum) (text : List ℕ) (fault : ShelfSaveFault) (old new : F) : Type 0 where
    untouched : IsFaultOfNew text fault → ChangesOnly has_done (IsNew at) old new → LeavesInPlace at over known text fault old new
    barred : (middle : F) → TakesSteps has_done old (looked at PlainFile) middle → BarsWay at over known fault middle new → LeavesInPlace at over known text fault old new

  -- what stood there has its second name alone: the folder refused to give it NAME.OLD, which is as it was
  abbrev pub IsNotOld : Place → Option ℕ → F → F → Type 0
  IsNotOld at None old new = ⊥
  IsNotOld at (Some second) old new = TakesStep has_done old (Rename (new_path at second) (old_path at), Refused) new

  -- the deck's file is the new one, with the whole text, but the folder refused a step behind that
  pub record IsUnsettled (at : Place) (over : SaveOver) (known : Option FileSum) (text : List ℕ) (old new : F) : Type 0 where
    pub second : Option ℕ
    pub middle : F
    pub placed : PutsInPlace at over known text second old middle
    pub after : TakesSteps has_done middle (settled at second Refused) new ⊎ IsNotOld at second middle new

  abbrev pub IsUnkept : Place → SaveOver → Option FileSum → List ℕ → ShelfSaveFault → F → F → Type 0
  IsUnkept at over known text fault old new = IsFaultOfFolder fault × IsUnsettled at over known text old new

  -- a save of the deck fails so
  abbrev pub SaveFails : Place → SaveOver → Option FileSum → List ℕ → ShelfSaveFault → F → F → Type 0
  SaveFails at over known text fault old new = LeavesInPlace at over known text fault old new ⊎ IsUnkept at over known text fault old new
