-- The fields of a statement (COMPASS 60492600, statement format).
use Rattle.std.specs.Prelude.{ℕ, ◌-◌, ◌==◌, List, [], ◌∷◌, not, nat_lt, length, drop, codes, take_while, if◌then◌else◌}
use Rattle.definitions.specs.{Characters.{blank, same_text}, Cards.Card, Statements.{text_of, is_unread}, Pieces.{AtStart, field_at}}

-- location field, operation and variable field
pub record Fields : Type 0 where
  pub location : List ℕ
  pub operation : List ℕ
  pub variable : List ℕ

-- the run without blanks that begins a text
abbrev pub unbroken_front : List ℕ → List ℕ
unbroken_front text = take_while (λ c. not (c == blank)) text

-- a text from its first character that is no blank
abbrev pub without_blanks : List ℕ → List ℕ
without_blanks [] = []
without_blanks (c ∷ cs) = if c == blank then without_blanks cs else c ∷ cs

-- a location field may begin in column 1 or 2
abbrev pub from_location : List ℕ → List ℕ
from_location [] = []
from_location (c ∷ cs) = if c == blank then cs else c ∷ cs

-- a field begins in one of the columns before column 30
abbrev pub columns_before_comments : ℕ
columns_before_comments = 29

-- what follows a word and its blanks, where it begins before column 30 of the text
abbrev pub next_field : List ℕ → List ℕ → List ℕ
next_field text from =
    let rest = without_blanks (drop (length (unbroken_front from)) from) in
    if nat_lt (length text - length rest) columns_before_comments then rest else []

-- DIS takes the rest of the text
abbrev pub variable_of : List ℕ → List ℕ → List ℕ
variable_of operation rest = if same_text operation (codes "DIS") then rest else field_at AtStart 0 rest

-- the fields that a statement's text is cut into
abbrev pub fields_of_text : List ℕ → Fields
fields_of_text text =
    let first = from_location text in
    let second = next_field text first in
    record { location = unbroken_front first; operation = unbroken_front second; variable = variable_of (unbroken_front second) (next_field text second) }

-- all three fields empty
abbrev pub no_fields : Fields
no_fields = record { location = []; operation = []; variable = [] }

-- the fields of a statement's cards
abbrev pub fields_of : List Card → Fields
fields_of cards = if is_unread cards then no_fields else fields_of_text (text_of cards)
