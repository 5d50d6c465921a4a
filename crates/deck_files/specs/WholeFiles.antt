-- A file that is written whole (ours): another one is written first, and kept; then it gets the path of the old one, in whose place it stands; and the folder is kept.
use Rattle.std.specs.{Prelude.{ℕ, List, [], ◌∷◌, ◌++◌, Option}, Io.KnownBytes.Appends}
use Rattle.deck_files.specs.Steps.{Step, Answered, Make, Keep, Put, Remove, KeepFolder, Done, Gave, TakesSteps}

-- the new file is kept with what its writer has, and has the path
abbrev pub placed : Option (List ℕ) → List ℕ → List ℕ → List Step
placed kept new path = (Put kept new path, Done) ∷ (Keep kept, Done) ∷ []

-- and the folder was asked to keep which files it has
abbrev pub kept_in_place : Option (List ℕ) → List ℕ → List ℕ → List ℕ → Answered → List Step
kept_in_place kept new path folder answer = (KeepFolder folder, answer) ∷ placed kept new path

-- what stood at the new file's path is away, and the new file is made there
abbrev pub made_anew : List ℕ → Option (List ℕ) → List Step
made_anew new made = (Make new, Gave made) ∷ (Remove new, Done) ∷ []

module _ {F : Type 0} (has_done : F → List Step → Type 0) where
  -- all of the text went into a new file, which was kept before it got the path
  pub record Replaces (new path text : List ℕ) (old last : F) : Type 0 where
    pub made : Option (List ℕ)
    pub kept : Option (List ℕ)
    pub whole : Appends made kept text
    pub steps : TakesSteps has_done old (placed kept new path ++ made_anew new made) last
