-- Causes in the order in which they count (ours).
use Rattle.std.specs.Prelude.{Bool, true, false, List, [], ◌∷◌, Option, Some, None}

-- the cause, where it is present
abbrev pub when : {A : Type 0} → Bool → A → Option A
when true cause = Some cause
when false cause = None

-- the first that is present
abbrev pub first_cause : {A : Type 0} → List (Option A) → Option A
first_cause [] = None
first_cause (Some cause ∷ causes) = Some cause
first_cause (None ∷ causes) = first_cause causes
