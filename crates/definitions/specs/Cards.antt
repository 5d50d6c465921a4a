-- Cards: 0 to 80 columns, each a character with a display code, without trailing blanks (COMPASS 60492600, statement format).
use Rattle.std.specs.Prelude.{ℕ, ◌==◌, ◌+◌, List, [], ◌∷◌, ◌++◌, Option, Some, None, Bool, false, length, take, replicate, position, nat_lt, is_none, if◌then◌else◌}
use Rattle.definitions.specs.Characters.{blank, display_code_of, comma, star}

-- the columns of a card
abbrev pub Card : Type 0
Card = List ℕ

-- what a line shows: a card, more than 80 columns, or a column whose character has no display code
pub data CardRead : Type 0 where
  IsCard : Card → CardRead
  TooWide : CardRead
  BadCharacter : ℕ → CardRead

-- in front of columns that are left: a blank goes where none is left
abbrev pub onto_columns : ℕ → List ℕ → List ℕ
onto_columns c [] = if c == blank then [] else c ∷ []
onto_columns c (d ∷ ds) = c ∷ d ∷ ds

-- without trailing blanks
abbrev pub trimmed : List ℕ → List ℕ
trimmed [] = []
trimmed (c ∷ cs) = onto_columns c (trimmed cs)

-- a card, or the column, from 1, of the first character without a display code
abbrev pub checked : Card → Option ℕ → CardRead
checked card None = IsCard card
checked card (Some place) = BadCharacter (1 + place)

-- the card that a line shows
abbrev pub card_of : List ℕ → CardRead
card_of line = if nat_lt 80 (length (trimmed line)) then TooWide else checked (trimmed line) (position (λ c. is_none (display_code_of c)) (trimmed line))

-- whether column 1 has this character
abbrev pub begins_with : ℕ → Card → Bool
begins_with c [] = false
begins_with c (d ∷ ds) = d == c

-- a comma in column 1
abbrev pub is_comma_card : Card → Bool
is_comma_card card = begins_with comma card

-- a star in column 1
abbrev pub is_comment : Card → Bool
is_comment card = begins_with star card

-- as many columns as are read, the missing ones blank
abbrev pub padded : ℕ → List ℕ → List ℕ
padded width columns = take width (columns ++ replicate width blank)
