-- Moments of time as text (ISO 8601): year, month, day, hour, minute and second in UTC.
use Rattle.std.specs.{Prelude.{ℕ, ◌==◌, ◌&&◌, List, length, Option, Some, None, Bool, codes, if◌then◌else◌}, List.{list_all, zip}}
use Rattle.definitions.specs.Characters.{is_digit, zero_digit}

-- the form of a moment: a digit stands for any digit
abbrev pub moment_form : List ℕ
moment_form = codes "0000-00-00T00:00:00Z"

-- whether a character may stand where the form has this one
abbrev pub fits_one : ℕ → ℕ → Bool
fits_one form c = if form == zero_digit then is_digit c else c == form

-- whether each character may stand where a form has the one at its place
abbrev pub fits : List ℕ → List ℕ → Bool
fits forms text = list_all (λ (at : ℕ × ℕ). fits_one at.0 at.1) (zip forms text)

-- whether a text is a moment: 20 characters that fit
abbrev pub is_moment : List ℕ → Bool
is_moment text = (length text == 20) && fits moment_form text

-- the moment that a text is
abbrev pub moment_of : List ℕ → Option (List ℕ)
moment_of text = if is_moment text then Some text else None
