-- What makes the names of an EXT faulty, whatever their order.
use Rattle.std.specs.Prelude.{ℕ, List, [], ◌∷◌, Option, Some, None, Bool, true, false, ◌||◌, is_some}
use Rattle.definitions.specs.{Characters.same_text, Settling.View}

-- whether one of these is no lawful name
abbrev pub has_unlawful : List (Option (List ℕ)) → Bool
has_unlawful [] = false
has_unlawful (None ∷ names) = true
has_unlawful (Some name ∷ names) = has_unlawful names

-- whether this name is one of these
abbrev pub is_listed : List ℕ → List (Option (List ℕ)) → Bool
is_listed name [] = false
is_listed name (None ∷ names) = is_listed name names
is_listed name (Some other ∷ names) = same_text other name || is_listed name names

-- whether one of these names is defined before, or stands here again
abbrev pub has_known : View → List (Option (List ℕ)) → Bool
has_known symbol [] = false
has_known symbol (None ∷ names) = has_known symbol names
has_known symbol (Some name ∷ names) = is_some (symbol name) || is_listed name names || has_known symbol names
