-- A letter or none, as a list.
use Rattle.std.specs.Prelude.{List, [], ◌∷◌, Option, Some, None}
use Rattle.definitions.specs.declared.letter.Letter.{Letter}

-- the letter, if there is one
abbrev pub letters_as : Option Letter → List Letter
letters_as None = []
letters_as (Some letter) = letter ∷ []
