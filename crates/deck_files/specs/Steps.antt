-- What a shelf asks of a folder, step by step, and what the folder answers (ours).
use Rattle.std.specs.{Prelude.{ℕ, ⊤, List, [], ◌∷◌, ◌++◌, Option, Result, Ok, Err}, Global.Vec}
use Rattle.deck_files.specs.declared.{folders.Standing.Standing, file_rows.DeckEntry.DeckEntry}

-- what is asked, each with its paths: what stands there, to open a file, to make one, to keep what a new file's writer has, to give the new file owner and mode of another or the path of another, a file a new path, a second one, to take it away, to keep which files the folder has, and which decks have files in it
pub data Asked : Type 0 where
  Look : List ℕ → Asked
  Open : List ℕ → Asked
  Make : List ℕ → Asked
  Keep : Option (List ℕ) → Asked
  TakeAfter : Option (List ℕ) → List ℕ → Asked
  Put : Option (List ℕ) → List ℕ → List ℕ → Asked
  Rename : List ℕ → List ℕ → Asked
  Link : List ℕ → List ℕ → Asked
  Remove : List ℕ → Asked
  KeepFolder : List ℕ → Asked
  Decks : List ℕ → Asked

-- the answer: refused, and nothing is changed; done; what stands there; a file, with the bytes that its reader has left or its writer has, where these are known; the decks that have files
pub data Answered : Type 0 where
  Refused : Answered
  Done : Answered
  Found : Standing → Answered
  Gave : Option (List ℕ) → Answered
  Holds : List DeckEntry → Answered

abbrev pub Step : Type 0
Step = Asked × Answered

abbrev pub done_if : {T E : Type 0} → Result T E → Answered
done_if (Ok value) = Done
done_if (Err error) = Refused

abbrev pub found_if : {E : Type 0} → Result Standing E → Answered
found_if (Ok standing) = Found standing
found_if (Err error) = Refused

abbrev pub gave_if : {T E : Type 0} → (T → Option (List ℕ)) → Result T E → Answered
gave_if bytes (Ok file) = Gave (bytes file)
gave_if bytes (Err error) = Refused

abbrev pub holds_if : {E : Type 0} → Result (Vec DeckEntry) E → Answered
holds_if (Ok entries) = Holds entries.items
holds_if (Err error) = Refused

-- the paths at which something else may stand once this was done
abbrev pub changed_by : Asked → List (List ℕ)
changed_by (Look path) = []
changed_by (Open path) = []
changed_by (Make path) = path ∷ []
changed_by (Keep written) = []
changed_by (TakeAfter written path) = []
changed_by (Put written new path) = new ∷ path ∷ []
changed_by (Rename from to) = from ∷ to ∷ []
changed_by (Link path other) = other ∷ []
changed_by (Remove path) = path ∷ []
changed_by (KeepFolder folder) = []
changed_by (Decks folder) = []

-- each of the paths is one of these
abbrev pub AreAmong : (List ℕ → Type 0) → List (List ℕ) → Type 0
AreAmong Among [] = ⊤
AreAmong Among (path ∷ paths) = Among path × AreAmong Among paths

-- what was asked changes no other path than these
abbrev pub ChangesAmong : (List ℕ → Type 0) → Asked → Answered → Type 0
ChangesAmong Among asked Refused = ⊤
ChangesAmong Among asked Done = AreAmong Among (changed_by asked)
ChangesAmong Among asked (Found standing) = AreAmong Among (changed_by asked)
ChangesAmong Among asked (Gave bytes) = AreAmong Among (changed_by asked)
ChangesAmong Among asked (Holds entries) = AreAmong Among (changed_by asked)

-- no step changes another path than these
abbrev pub ChangeAmong : (List ℕ → Type 0) → List Step → Type 0
ChangeAmong Among [] = ⊤
ChangeAmong Among (step ∷ steps) = ChangesAmong Among step.0 step.1 × ChangeAmong Among steps

module _ {F : Type 0} (has_done : F → List Step → Type 0) where
  -- the folder takes these steps and no others, the newest first
  abbrev pub TakesSteps : F → List Step → F → Type 0
  TakesSteps old steps new = (before : List Step) → has_done old before → has_done new (steps ++ before)

  -- the folder takes one step
  abbrev pub TakesStep : F → Step → F → Type 0
  TakesStep old step new = TakesSteps old (step ∷ []) new

  -- the folder takes steps that change no other path than these
  abbrev pub ChangesOnly : (List ℕ → Type 0) → F → F → Type 0
  ChangesOnly Among old new = (steps : List Step) × ChangeAmong Among steps × TakesSteps old steps new
