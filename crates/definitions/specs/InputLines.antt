-- Lines of input (ours): at most 256 bytes before a line feed, without one carriage return directly before it.
use Rattle.std.specs.{Prelude.{ℕ, ◌==◌, ◌-◌, List, [], ◌∷◌, length, take, slice_index, nat_lt, if◌then◌else◌}, List.slice_split}
use Rattle.definitions.specs.Characters.{line_feed, carriage_return}

-- a line as it comes in: its bytes, or more than 256 of them, or bytes that no line feed ends
pub data InputLine : Type 0 where
  Line : List ℕ → InputLine
  TooLong : InputLine
  Cut : InputLine

-- the bytes without one carriage return at their end
abbrev pub without_cr : List ℕ → List ℕ
without_cr bytes = if slice_index bytes (length bytes - 1) == carriage_return then take (length bytes - 1) bytes else bytes

-- what stands in front of a line feed, as a line
abbrev pub line_of : List ℕ → InputLine
line_of bytes = if nat_lt 256 (length bytes) then TooLong else Line (without_cr bytes)

-- what stands behind the last line feed: nothing, or a line that may be cut
abbrev pub last_of : List ℕ → List InputLine
last_of [] = []
last_of (b ∷ bs) = (if nat_lt 256 (length (b ∷ bs)) then TooLong else Cut) ∷ []

-- the lines of what stands between line feeds; behind the last one a line may be cut
abbrev pub lines_of_pieces : List (List ℕ) → List InputLine
lines_of_pieces [] = []
lines_of_pieces (last ∷ []) = last_of last
lines_of_pieces (bytes ∷ next ∷ pieces) = line_of bytes ∷ lines_of_pieces (next ∷ pieces)

-- the lines of a stream
abbrev pub lines_of : List ℕ → List InputLine
lines_of bytes = lines_of_pieces (slice_split (λ b. b == line_feed) bytes)
