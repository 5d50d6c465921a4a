-- The answer of `compass asm` to the bytes of its standard input: output, message and exit status (ours).
use Rattle.std.specs.Prelude.{ℕ, ◌+◌, ◌==◌, List, [], ◌++◌, codes, reverse, if◌then◌else◌}
use Rattle.definitions.specs.{Numerals.decimal_of, InputLines.lines_of, DeckInput.{Input, Decks, Faulty, InputFault, BadLineTooWide, BadLineBadCharacter, LastLineCut, BadName, NameTaken, TooManyDecks, DeckFull, input_of, in_input_order}, Listing.line, Build.{Build, build_of}}

-- what a run of `compass asm` leaves: the bytes of its output, its message, and its exit status
pub record Answer : Type 0 where
  pub output : List ℕ
  pub message : List ℕ
  pub status : ℕ

-- the name of a fault, then its numbers
abbrev pub fault_text : InputFault → List ℕ
fault_text (BadLineTooWide number) = codes "BadLine " ++ (decimal_of number ++ codes " TooWide")
fault_text (BadLineBadCharacter number column) = codes "BadLine " ++ (decimal_of number ++ (codes " BadCharacter " ++ decimal_of column))
fault_text LastLineCut = codes "LastLineCut"
fault_text (BadName number) = codes "BadName " ++ decimal_of number
fault_text NameTaken = codes "NameTaken"
fault_text TooManyDecks = codes "TooManyDecks"
fault_text DeckFull = codes "DeckFull"

-- the answer to a build: its text, and status 0 where nothing is flagged and no LINK line is written, else 1
abbrev pub built : Build → Answer
built build = record { output = build.text; message = []; status = if build.errors + build.links == 0 then 0 else 1 }

-- decks are built; a fault of the input gives no output, its message, and status 3
abbrev pub answer_to : Input → Answer
answer_to (Decks decks) = built (build_of (in_input_order decks))
answer_to (Faulty fault) = record { output = []; message = line (codes "compass: " ++ fault_text fault); status = 3 }

-- the answer to the bytes of a standard input
abbrev pub answer_of : List ℕ → Answer
answer_of bytes = answer_to (input_of (reverse (lines_of bytes)))
