-- The steps of a file that is written whole: where one fails, the new file's path alone was changed.
use Rattle.std.{proofs.Common.{ℕ, ◌≡◌, List, [], ◌∷◌, Option, refl}, specs.Io.KnownBytes.Appends}
use Rattle.deck_files.{specs.Steps.{Step, Answered, Keep, Make, Put, Remove, Done, Gave, Refused, TakesStep, TakesSteps, ChangesOnly}, specs.WholeFiles.{Replaces, made_anew, placed}, proofs.FolderSteps.{ChangesAmong-asked, only-join, takes-join}}

-- a new file's path
abbrev pub IsAt : List ℕ → List ℕ → Type 0
IsAt new path = path ≡ new

module _ {F : Type 0} (has_done : F → List Step → Type 0) where
  -- the new file was not kept
  pub unkept : (new : List ℕ) (kept : Option (List ℕ)) (old last : F) → TakesStep has_done old (Keep kept, Refused) last → ChangesOnly has_done (IsAt new) old last
  unkept new kept old last step = ((Keep kept, Refused) ∷ [], (tt, tt), step)

  -- it was kept, and did not get the path
  pub unput : (new path : List ℕ) (kept : Option (List ℕ)) (old middle last : F) → TakesStep has_done old (Keep kept, Done) middle → TakesStep has_done middle (Put kept new path, Refused) last →
      ChangesOnly has_done (IsAt new) old last
  unput new path kept old middle last first second =
      ((Put kept new path, Refused) ∷ (Keep kept, Done) ∷ [], (tt, (tt, tt)), takes-join has_done old middle last ((Keep kept, Done) ∷ []) ((Put kept new path, Refused) ∷ []) first second)

  -- it was to be taken away
  pub removed : (new : List ℕ) (answer : Answered) (old middle last : F) → ChangesOnly has_done (IsAt new) old middle → TakesStep has_done middle (Remove new, answer) last → ChangesOnly has_done (IsAt new) old last
  removed new answer old middle last only step =
      only-join has_done (IsAt new) old middle last only ((Remove new, answer) ∷ [], (ChangesAmong-asked (IsAt new) (Remove new) answer (refl, tt), tt), step)

  -- it was to be taken away, and nothing was done before
  pub removed-alone : (new : List ℕ) (answer : Answered) (old last : F) → TakesStep has_done old (Remove new, answer) last → ChangesOnly has_done (IsAt new) old last
  removed-alone new answer old last step = ((Remove new, answer) ∷ [], (ChangesAmong-asked (IsAt new) (Remove new) answer (refl, tt), tt), step)

  -- what stood there is away, and no new file was made
  pub unmade : (new : List ℕ) (old middle last : F) → TakesStep has_done old (Remove new, Done) middle → TakesStep has_done middle (Make new, Refused) last → ChangesOnly has_done (IsAt new) old last
  unmade new old middle last first second =
      ((Make new, Refused) ∷ (Remove new, Done) ∷ [], (tt, ((refl, tt), tt)), takes-join has_done old middle last ((Remove new, Done) ∷ []) ((Make new, Refused) ∷ []) first second)

  -- a new file was made in its place, and did not get the path
  pub unplaced : (new : List ℕ) (made : Option (List ℕ)) (old middle third last : F) → TakesStep has_done old (Remove new, Done) middle → TakesStep has_done middle (Make new, Gave made) third →
      ChangesOnly has_done (IsAt new) third last → ChangesOnly has_done (IsAt new) old last
  unplaced new made old middle third last first second only =
      only-join has_done (IsAt new) old third last
      (made_anew new made, ((refl, tt), ((refl, tt), tt)), takes-join has_done old middle third ((Remove new, Done) ∷ []) ((Make new, Gave made) ∷ []) first second)
      only

  -- it got the path
  pub replaces : (new path text : List ℕ) (made : Option (List ℕ)) (old middle third last : F) → TakesStep has_done old (Remove new, Done) middle → TakesStep has_done middle (Make new, Gave made) third →
      ((kept : Option (List ℕ)) × Appends made kept text × TakesSteps has_done third (placed kept new path) last) → Replaces has_done new path text old last
  replaces new path text made old middle third last first second filled = record {
    made = made;
    kept = filled.0;
    whole = filled.1;
    steps = takes-join has_done old third last (made_anew new made) (placed filled.0 new path)
        (takes-join has_done old middle third ((Remove new, Done) ∷ []) ((Make new, Gave made) ∷ []) first second) filled.2;
  }
