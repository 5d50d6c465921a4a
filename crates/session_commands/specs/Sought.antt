-- Texts that are looked for in a line or a card (ours).
use Rattle.std.specs.Prelude.{ℕ, Bool, false, ◌&&◌, ◌||◌, List, [], ◌∷◌, length, take, nat_le}
use Rattle.definitions.specs.Characters.{same_text}

-- whether a text that is looked for may have so many columns
abbrev pub is_sought_size : ℕ → Bool
is_sought_size columns = nat_le 1 columns && nat_le columns 72

-- whether columns begin with a text
abbrev pub begins_with : List ℕ → List ℕ → Bool
begins_with text columns = nat_le (length text) (length columns) && same_text (take (length text) columns) text

-- whether a text stands somewhere in columns
abbrev pub has_text : List ℕ → List ℕ → Bool
has_text text [] = false
has_text text (c ∷ cs) = begins_with text (c ∷ cs) || has_text text cs
