-- What a save that failed left of the deck's file.
use Rattle.std.{proofs.Common.{ℕ, ◌≡◌, ◌⊎◌, inl, inr, List, [], ◌∷◌, ◌++◌, Bool, true, false, Option, Some, refl, subst, is_some}, specs.Io.KnownBytes.Appends}
use Rattle.deck_files.{specs.declared.deck_shelf.SaveOver.SaveOver, specs.declared.deck_shelf.SaveOver.TheVariants.Known, specs.declared.deck_shelf.ShelfSaveFault.TheVariants.FileExists, specs.declared.deck_shelf.ShelfSaveFault.ShelfSaveFault, specs.declared.folders.Standing.Standing, specs.declared.folders.Standing.TheVariants.{Nothing, PlainFile}, specs.declared.file_sums.FileSum.FileSum, specs.Folders.{Place, deck_path, new_path, old_path}, specs.Steps.{Step, Answered, Look, Open, Make, Put, Remove, Found, Gave, Refused, TakesStep, TakesSteps, ChangesOnly}, specs.FolderSaves.{BarsWay, Compares, GivesWay, IsFaultOfFolder, IsFaultOfNew, IsNew, LeavesInPlace, MakesAnew, MakesWay, barred, filled, is_any, is_changed, is_free, is_given, is_known, linked, looked, put_in_place, refused_tries, untouched}, proofs.FolderSteps.{ChangeAmong-links, ChangeAmong-tries, ChangesAmong-asked, fault-of-new, only-join, only-more, takes-join}}

module _ {F : Type 0} (has_done : F → List Step → Type 0) where
  -- what was found stands at the deck's path
  looked-as : (at : Place) (deck : List ℕ) (standing found : Standing) (old middle : F) → deck ≡ deck_path at → standing ≡ found → TakesStep has_done old (Look deck, Found standing) middle →
      TakesSteps has_done old (looked at found) middle
  looked-as at deck standing found old middle is plain look =
      subst (λ (s : Standing). TakesSteps has_done old (looked at s) middle) plain
      (subst (λ (path : List ℕ). TakesSteps has_done old ((Look path, Found standing) ∷ []) middle) is look)

  -- nothing stands there
  pub gives-free : (at : Place) (over : SaveOver) (known : Option FileSum) (deck : List ℕ) (standing : Standing) (old middle : F) → deck ≡ deck_path at → standing ≡ Nothing →
      TakesStep has_done old (Look deck, Found standing) middle → MakesWay has_done at over known false old middle
  gives-free at over known deck standing old middle is nothing look = is_free refl (looked-as at deck standing Nothing old middle is nothing look)

  -- the file was compared, and has just what is known
  pub known-gives : (at : Place) (known : Option FileSum) (sum : FileSum) (just : Bool) (old new : F) → known ≡ Some sum → just ≡ true → Compares has_done at sum just old new →
      GivesWay has_done at Known known false old new
  known-gives at known sum just old new is told compares = is_known sum refl refl is (subst (λ (j : Bool). Compares has_done at sum j old new) told compares)

  -- it has something else
  pub known-bars : (at : Place) (known : Option FileSum) (sum : FileSum) (just : Bool) (old new : F) → known ≡ Some sum → just ≡ false → Compares has_done at sum just old new →
      BarsWay has_done at Known known FileExists old new
  known-bars at known sum just old new is told compares = is_changed sum refl refl is (subst (λ (j : Bool). Compares has_done at sum j old new) told compares)

  -- it may be written over
  pub gives-over : (at : Place) (over : SaveOver) (known : Option FileSum) (keeps : Bool) (deck : List ℕ) (standing : Standing) (old middle new : F) → deck ≡ deck_path at → standing ≡ PlainFile →
      TakesStep has_done old (Look deck, Found standing) middle → GivesWay has_done at over known keeps middle new → MakesWay has_done at over known keeps old new
  gives-over at over known keeps deck standing old middle new is plain look gives = is_given middle (looked-as at deck standing PlainFile old middle is plain look) gives

  -- making way changes nothing
  way-only : (A : List ℕ → Type 0) (at : Place) (over : SaveOver) (known : Option FileSum) (keeps : Bool) (old new : F) → MakesWay has_done at over known keeps old new → ChangesOnly has_done A old new
  way-only A at over known keeps old new (is_free same steps) = (looked at Nothing, (tt, tt), steps)
  way-only A at over known keeps old new (is_given middle look (is_known sum same is none compares)) =
      only-join has_done A old middle new (looked at PlainFile, (tt, tt), look) ((Open (deck_path at), Gave compares.0) ∷ [], (tt, tt), compares.2)
  way-only A at over known keeps old new (is_given middle look (is_any aside same is may steps)) =
      only-join has_done A old middle new (looked at PlainFile, (tt, tt), look) ((Look (old_path at), Found aside) ∷ [], (tt, tt), steps)

  -- a plain file was not written over
  pub stays-over : (at : Place) (over : SaveOver) (known : Option FileSum) (text deck : List ℕ) (fault : ShelfSaveFault) (standing : Standing) (old middle new : F) → deck ≡ deck_path at →
      standing ≡ PlainFile → TakesStep has_done old (Look deck, Found standing) middle →
      BarsWay has_done at over known fault middle new ⊎ (IsFaultOfFolder fault × ChangesOnly has_done (λ path. ⊥) middle new) → LeavesInPlace has_done at over known text fault old new
  stays-over at over known text deck fault standing old middle new is plain look (inl bars) = barred middle (looked-as at deck standing PlainFile old middle is plain look) bars
  stays-over at over known text deck fault standing old middle new is plain look (inr told) =
      untouched (fault-of-new text fault told.0)
      (only-join has_done (IsNew at) old middle new ((Look deck, Found standing) ∷ [], (tt, tt), look)
      (only-more has_done (λ path. ⊥) (IsNew at) middle new (λ path none. absurd none) told.1))

  -- the whole text went into a file that has the deck's path
  pub makes-anew : (at : Place) (tries : ℕ) (new deck text : List ℕ) (keeps : Bool) (second : Option ℕ) (made : Option (List ℕ)) (old middle last : F) → new ≡ new_path at tries → deck ≡ deck_path at →
      TakesSteps has_done old ((Make (new_path at tries), Gave made) ∷ refused_tries at tries) middle → is_some second ≡ keeps →
      ((kept : Option (List ℕ)) × Appends made kept text × TakesSteps has_done middle (put_in_place at new kept deck second ++ filled made kept deck) last) →
      MakesAnew has_done at text keeps second old last
  makes-anew at tries new deck text keeps second made old middle last is_new is_deck first same filled_so = record {
    tries = tries;
    made = made;
    kept = filled_so.0;
    whole = filled_so.1;
    same = same;
    steps = takes-join has_done old middle last ((Make (new_path at tries), Gave made) ∷ refused_tries at tries)
        (put_in_place at (new_path at tries) filled_so.0 (deck_path at) second ++ filled made filled_so.0 (deck_path at)) first
        (subst (λ (path : List ℕ). TakesSteps has_done middle (put_in_place at (new_path at tries) filled_so.0 path second ++ filled made filled_so.0 path) last) is_deck
        (subst (λ (path : List ℕ). TakesSteps has_done middle (put_in_place at path filled_so.0 deck second ++ filled made filled_so.0 deck) last) is_new filled_so.2));
  }

  -- it did not, and the new file was to be taken away
  pub takes-away : (at : Place) (tries : ℕ) (again : List ℕ) (made : Option (List ℕ)) (answer : Answered) (old middle third last : F) → again ≡ new_path at tries →
      TakesSteps has_done old ((Make (new_path at tries), Gave made) ∷ refused_tries at tries) middle → ChangesOnly has_done (IsNew at) middle third →
      TakesStep has_done third (Remove again, answer) last → ChangesOnly has_done (IsNew at) old last
  takes-away at tries again made answer old middle third last is_again first second removed =
      only-join has_done (IsNew at) old third last
      (only-join has_done (IsNew at) old middle third
      ((Make (new_path at tries), Gave made) ∷ refused_tries at tries, (((tries, refl), tt), ChangeAmong-tries (IsNew at) at tries), first)
      second)
      ((Remove again, answer) ∷ [], (ChangesAmong-asked (IsNew at) (Remove again) answer ((tries, is_again), tt), tt), removed)

  -- what stood there had a second name, which was to be taken away
  pub takes-back : (at : Place) (tries : ℕ) (new deck again : List ℕ) (kept : Option (List ℕ)) (answer : Answered) (old middle third last : F) → again ≡ new_path at tries →
      TakesSteps has_done old (linked at deck tries) middle → TakesStep has_done middle (Put kept new deck, Refused) third → TakesStep has_done third (Remove again, answer) last →
      ChangesOnly has_done (IsNew at) old last
  takes-back at tries new deck again kept answer old middle third last is_again first second removed =
      only-join has_done (IsNew at) old third last
      (only-join has_done (IsNew at) old middle third
      (linked at deck tries, (((tries, refl), tt), ChangeAmong-links (IsNew at) at deck tries), first)
      ((Put kept new deck, Refused) ∷ [], (tt, tt), second))
      ((Remove again, answer) ∷ [], (ChangesAmong-asked (IsNew at) (Remove again) answer ((tries, is_again), tt), tt), removed)

  -- the way was made, and no new file
  pub stays-unmade : (at : Place) (over : SaveOver) (known : Option FileSum) (keeps : Bool) (text : List ℕ) (fault : ShelfSaveFault) (old middle new : F) → MakesWay has_done at over known keeps old middle →
      IsFaultOfNew text fault → ChangesOnly has_done (IsNew at) middle new → LeavesInPlace has_done at over known text fault old new
  stays-unmade at over known keeps text fault old middle new way told only =
      untouched told
      (only-join has_done (IsNew at) old middle new (way-only (IsNew at) at over known keeps old middle way) only)
