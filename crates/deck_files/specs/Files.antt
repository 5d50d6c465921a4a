-- What stands under the names of decks (ours).
use Rattle.std.specs.Prelude.{ℕ, List, [], ◌∷◌, Option, Some, None, if◌then◌else◌}
use Rattle.definitions.specs.Characters.{same_text}

-- things under the names of decks, no name twice
abbrev pub Named : Type 0 → Type 0
Named X = List (List ℕ × X)

-- what stands under this name, if anything does
abbrev pub named : {X : Type 0} → List ℕ → Named X → Option X
named name [] = None
named name (first ∷ others) = if same_text name first.0 then Some first.1 else named name others

-- the things with one under this name, in place of what stood there
abbrev pub with_named : {X : Type 0} → List ℕ → X → Named X → Named X
with_named name thing [] = (name, thing) ∷ []
with_named name thing (first ∷ others) = if same_text name first.0 then (first.0, thing) ∷ others else first ∷ with_named name thing others
