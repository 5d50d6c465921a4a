-- A place makes nothing known; what is noted is known.
use Rattle.std.{proofs.Common.{ℕ, ◌≡◌, List, [], ◌∷◌, Bool, true, false, cond, Option, Some, None, refl, ap, is_some, true≢false}, specs.Option.option_flatten}
use Rattle.definitions.{specs.Characters.same_text, proofs.TextLaws.same_text-refl}
use Rattle.deck_files.specs.{declared.file_sums.FileSum.FileSum, declared.known_rows.Known.Known, Files.{Named, named, with_named}, KnownFiles.{IsSaved, after_place, file_known, version_at}}

known-none : (t : Bool) → option_flatten {T = Known} (cond t (Some None) None) ≡ None
known-none true = refl
known-none false = refl

known-pick : (t : Bool) (known : Option Known) (first second : Option (Option Known)) → option_flatten first ≡ option_flatten second → option_flatten (cond t (Some known) first) ≡ option_flatten (cond t (Some known) second)
known-pick true known first second same = refl
known-pick false known first second same = same

place-step : (t : Bool) (other : List ℕ) (first : List ℕ × Option Known) (others placed : Named (Option Known)) (found : Option (Option Known)) → is_some (cond t (Some first.1) found) ≡ false →
    (is_some found ≡ false → file_known other placed ≡ file_known other others) → file_known other (cond t ((first.0, None) ∷ others) (first ∷ placed)) ≡ file_known other (first ∷ others)
place-step true other first others placed found lacks same = absurd (true≢false lacks)
place-step false other first others placed found lacks same = known-pick (same_text other first.0) first.1 (named other placed) (named other others) (same lacks)

-- a place for a name that had none
place-new : (name other : List ℕ) (files : Named (Option Known)) → is_some (named name files) ≡ false → file_known other (with_named name None files) ≡ file_known other files
place-new name other [] lacks = known-none (same_text other name)
place-new name other (first ∷ others) lacks =
    place-step (same_text name first.0) other first others (with_named name None others) (named name others) lacks (place-new name other others)

place-choose : (t : Bool) (other : List ℕ) (files placed : Named (Option Known)) → (t ≡ false → file_known other placed ≡ file_known other files) →
    file_known other (cond t files placed) ≡ file_known other files
place-choose true other files placed same = refl
place-choose false other files placed same = same refl

pub place-known : (name other : List ℕ) (files : Named (Option Known)) → file_known other (after_place name files) ≡ file_known other files
place-known name other files = place-choose (is_some (named name files)) other files (with_named name None files) (place-new name other files)

-- a version that is noted
pub noted-saved : (name : List ℕ) (sum : FileSum) (version : ℕ) → IsSaved name version
noted-saved name sum version =
    let known : Known = record { sum = sum; version = Some version } in
    ((name, Some known) ∷ [], ap (λ (t : Bool). version_at (option_flatten (cond t (Some (Some known)) None))) (same_text-refl name))
