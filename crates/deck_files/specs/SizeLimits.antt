-- The limit of the size of files in the system's table of limits: its third line, whose number stands behind 26 columns (Linux).
use Rattle.std.specs.{Prelude.{ℕ, ◌+◌, ◌==◌, ◌^◌, List, [], Option, Some, None, codes, length, min, take, drop, position, nat_lt, if◌then◌else◌}, List.prefix_len}
use Rattle.definitions.specs.{Characters.{is_digit, same_text}, Numerals.number_of}

-- the number that a text begins with, or 2^60 where it is greater
abbrev pub number_at : List ℕ → Option ℕ
number_at text = if prefix_len is_digit text == 0 then None else Some (min (number_of 10 (take (prefix_len is_digit text) text)) (2 ^ 60))

abbrev pub behind_end : Option ℕ → List ℕ → List ℕ
behind_end (Some end) text = drop (end + 1) text
behind_end None text = []

-- what stands behind the first line
abbrev pub behind_line : List ℕ → List ℕ
behind_line text = behind_end (position (λ byte. byte == 10) text) text

abbrev pub size_name : List ℕ
size_name = codes "Max file size             "

-- the number in a line of the size of files
abbrev pub size_in : List ℕ → Option ℕ
size_in line = if nat_lt (length line) 26 then None else (if same_text (take 26 line) size_name then number_at (drop 26 line) else None)

-- the number in the third line of the table
abbrev pub limit_in : List ℕ → Option ℕ
limit_in text = size_in (behind_line (behind_line text))
