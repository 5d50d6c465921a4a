-- Characters: the 64 of the set with their display codes, and the classes that the language distinguishes
-- (COMPASS 60492600, character set; the marks of symbols are ours).
use Rattle.std.specs.{Prelude.{ℕ, ◌+◌, List, [], ◌∷◌, Option, Bool, true, false, ◌==◌, ◌&&◌, ◌||◌, nat_le, codes, position, slice_index}, List.list_any}

-- the characters in the order of their display codes, 00 to 77 octal
abbrev pub characters : List ℕ
characters = codes ":ABCDEFGHIJKLMNOPQRSTUVWXYZ0123456789+-*/()$= ,.#[]%\"_!&'?<>@\\^;"

-- the display code of a character, if it has one
abbrev pub display_code_of : ℕ → Option ℕ
display_code_of character = position (λ c. c == character) characters

-- the character that a display code below 64 stands for
abbrev pub character_of : ℕ → ℕ
character_of code = slice_index characters code

-- the blank
abbrev pub blank : ℕ
blank = 32

-- the comma, between subfields and in front of a card that continues
abbrev pub comma : ℕ
comma = 44

-- the plus sign
abbrev pub plus : ℕ
plus = 43

-- the minus sign
abbrev pub minus : ℕ
minus = 45

-- the asterisk: a product, a counter, and in front of a comment
abbrev pub star : ℕ
star = 42

-- the slash: a quotient, and round the name of a common block
abbrev pub slash : ℕ
slash = 47

-- the equals sign of a literal
abbrev pub equals : ℕ
equals = 61

-- the digit 0; the others follow in order
abbrev pub zero_digit : ℕ
zero_digit = 48

-- the letter A; the others follow in order
abbrev pub first_letter : ℕ
first_letter = 65

-- what ends a line
abbrev pub line_feed : ℕ
line_feed = 10

-- what may stand in front of it
abbrev pub carriage_return : ℕ
carriage_return = 13

-- whether a character is one of these
abbrev pub is_among : ℕ → List ℕ → Bool
is_among character set = list_any (λ c. c == character) set

-- 0 to 9
abbrev pub is_digit : ℕ → Bool
is_digit c = nat_le zero_digit c && nat_le c (zero_digit + 9)

-- the letters A to Z
abbrev pub is_letter : ℕ → Bool
is_letter c = nat_le first_letter c && nat_le c (first_letter + 25)

-- letters, digits and the marks of symbols
abbrev pub is_symbol_character : ℕ → Bool
is_symbol_character c = is_letter c || is_digit c || is_among c (codes ".$=#[]%\"_!&'?<>@\\")

-- whether two texts are the same
abbrev pub same_text : List ℕ → List ℕ → Bool
same_text [] [] = true
same_text (a ∷ as') (b ∷ bs) = (a == b) && same_text as' bs
same_text _ _ = false
