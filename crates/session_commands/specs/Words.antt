-- Words of a session's line, between single blanks, and the numbers that they spell (ours). The rest of a line is nothing, or begins with the blank behind a word.
use Rattle.std.specs.{Prelude.{ℕ, ◌-◌, List, [], ◌∷◌, Option, Some, None, Bool, ◌&&◌, codes, nat_le, length, take, drop, option_and_then, option_map, if◌then◌else◌}, List.list_all}
use Rattle.definitions.specs.{Characters.{is_digit, same_text}, Fields.unbroken_front, Numerals.number_of}
use Rattle.session_commands.specs.declared.words.Seen.{Seen, TheVariants.{Exactly, Since}}

-- a text from its first blank on
abbrev pub from_blank : List ℕ → List ℕ
from_blank text = drop (length (unbroken_front text)) text

-- a word has characters
abbrev pub some_word : List ℕ → Option (List ℕ)
some_word [] = None
some_word (c ∷ cs) = Some (c ∷ cs)

-- the word behind the blank that begins a rest
abbrev pub first_word : List ℕ → Option (List ℕ)
first_word rest = some_word (unbroken_front (drop 1 rest))

-- the rest behind that word
abbrev pub behind_word : List ℕ → List ℕ
behind_word rest = from_blank (drop 1 rest)

-- the greatest number in a line
abbrev pub greatest_number : ℕ
greatest_number = 4611686018427387904

-- whether a word is 1 to 19 decimal digits whose number is not too great
abbrev pub is_number : List ℕ → Bool
is_number word = nat_le 1 (length word) && nat_le (length word) 19 && list_all is_digit word && nat_le (number_of 10 word) greatest_number

-- the number that a word spells
abbrev pub number_in : List ℕ → Option ℕ
number_in word = if is_number word then Some (number_of 10 word) else None

-- the version that a word shows: that one and no other, or with a plus behind it that one or any later one
abbrev pub seen_in : List ℕ → Option Seen
seen_in word =
    let last = length word - 1 in
    if same_text (drop last word) (codes "+") then option_map Since (number_in (take last word)) else option_map Exactly (number_in word)

-- the version behind the blank that begins a rest
abbrev pub first_seen : List ℕ → Option Seen
first_seen rest = option_and_then seen_in (first_word rest)

-- the number behind the blank that begins a rest
abbrev pub first_number : List ℕ → Option ℕ
first_number rest = option_and_then number_in (first_word rest)
