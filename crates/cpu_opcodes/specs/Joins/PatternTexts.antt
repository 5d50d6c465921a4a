-- Patterns that are compared with the text of a subfield itself, without its pieces (ours).
use Rattle.std.specs.{Prelude.{ℕ, zero, suc, ◌+◌, ◌==◌, List, [], ◌∷◌, Bool, true, not, ◌&&◌, if◌then◌else◌}, List.list_all}
use Rattle.definitions.specs.{Characters.{blank, equals, zero_digit}, Matching.{is_ijk, plain_text}, Pieces.pieces_of}

-- whether a test holds with each of so many digits
abbrev pub all_digits : (ℕ → Bool) → ℕ → Bool
all_digits test zero = true
all_digits test (suc n) = test (zero_digit + n) && all_digits test n

-- whether a test holds of each text that a pattern fits
abbrev pub holds : (List ℕ → Bool) → List ℕ → Bool
holds test [] = test []
holds test (p ∷ ps) = if is_ijk p then all_digits (λ d. holds (λ text. test (d ∷ text)) ps) 8 else holds (λ text. test (p ∷ text)) ps

-- no blank, which an item shows, and no equals sign
abbrev pub shows_all : List ℕ → Bool
shows_all text = list_all (λ c. not (c == blank) && not (c == equals)) text

-- a pattern that fits no text in which a piece begins with an equals sign or is an item
abbrev pub is_text_pattern : List ℕ → Bool
is_text_pattern pattern = holds shows_all pattern && holds (λ text. shows_all (plain_text (pieces_of text))) pattern
