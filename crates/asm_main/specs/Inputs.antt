-- What a run makes of its input, in the words of the definitions (ours).
use Rattle.std.specs.{Prelude.{ℕ, ◌≡◌, ◌<◌, ◌≤◌, ◌^◌, ⊤, List, ◌++◌, Option, Some, None, length, reverse, IfSome, MatchOption}, Io.KnownBytes.Consumes}
use Rattle.definitions.specs.{InputLines.lines_of, DeckInput.{Deck, Input, Decks, Faulty, InputFault, input_of, in_input_order}}
use Rattle.definitions.specs.DeckInput as input
use Rattle.cards.specs.declared.card.CardFault.{CardFault}
use Rattle.cards.specs.declared.card.CardFault.TheVariants as card
use Rattle.deck_cuts.specs.{Cuts.IsSound, declared.cut_fault.CutFault.CutFault}
use Rattle.deck_cuts.specs.declared.cut_fault.CutFault.TheVariants as cut
use Rattle.asm_main.specs.declared.asm_fault.AsmFault.{AsmFault, TheVariants.{OutOfMemory, DeckFull, NameTaken, TooManyDecks, ReadFault, BadLine, LastLineCut, WriteFault, BadName}}

-- the input that these bytes are
abbrev pub input_in : List ℕ → Input
input_in bytes = input_of (reverse (lines_of bytes))

-- the input is these decks, in order
abbrev pub AreDecksOf : Input → List Deck → Type 0
AreDecksOf (Decks found) decks = decks ≡ in_input_order found
AreDecksOf (Faulty fault) decks = ⊥

-- the fault of a line that is no card
abbrev pub bad_line : ℕ → CardFault → InputFault
bad_line number card.TooWide = input.BadLineTooWide number
bad_line number (card.BadCharacter column) = input.BadLineBadCharacter number column

-- the fault of the input that a fault shows, if it is one
abbrev pub input_fault : AsmFault → Option InputFault
input_fault OutOfMemory = None
input_fault DeckFull = Some input.DeckFull
input_fault NameTaken = Some input.NameTaken
input_fault TooManyDecks = Some input.TooManyDecks
input_fault ReadFault = None
input_fault (BadLine number fault) = Some (bad_line number fault)
input_fault LastLineCut = Some input.LastLineCut
input_fault (WriteFault sent) = None
input_fault (BadName number) = Some (input.BadName number)

-- a fault of the cut into decks, as one of a run
abbrev pub cut_fault : CutFault → AsmFault
cut_fault cut.OutOfMemory = OutOfMemory
cut_fault cut.DeckFull = DeckFull
cut_fault cut.NameTaken = NameTaken
cut_fault cut.TooManyDecks = TooManyDecks
cut_fault (cut.BadName number) = BadName number

-- the input has this very fault, or it has none and no memory was left
abbrev pub IsFaultOf : Input → AsmFault → Type 0
IsFaultOf found fault = MatchOption (input_fault fault) ((fault ≡ OutOfMemory) × IsSound found) (λ told. found ≡ Faulty told)

-- a fault that shows one of the input shows the one that it has
abbrev pub TellsFaultOf : Input → AsmFault → Type 0
TellsFaultOf found fault = IfSome (input_fault fault) (λ told. found ≡ Faulty told)

-- where the bytes of the input are known, it shows the one that they have
abbrev pub TellsFaultIn : Option (List ℕ) → AsmFault → Type 0
TellsFaultIn bytes fault = IfSome bytes (λ all. TellsFaultOf (input_in all) fault)

-- the reader lost lines that show no fault, and then no more than one line
pub record ReadsToFault (old new : Option (List ℕ)) : Type 0 where
  pub front : List ℕ
  pub line : List ℕ
  pub consumed : Consumes old new (front ++ line)
  pub sound : IsSound (input_in front)
  pub one : length (lines_of line) ≤ 1

-- the reader lost lines that show no fault, and no more
pub record ReadsSound (old new : Option (List ℕ)) : Type 0 where
  pub taken : List ℕ
  pub consumed : Consumes old new taken
  pub sound : IsSound (input_in taken)

-- before a want of memory, what was read shows no fault
abbrev pub IsSoundBefore : AsmFault → Option (List ℕ) → Option (List ℕ) → Type 0
IsSoundBefore OutOfMemory old new = ReadsSound old new
IsSoundBefore fault old new = ⊤

-- the numbers that a fault of a card shows can be written
abbrev pub IsSmallColumn : CardFault → Type 0
IsSmallColumn card.TooWide = ⊤
IsSmallColumn (card.BadCharacter column) = column < 2 ^ 64

-- the numbers that a fault shows can be written
abbrev pub AreSmall : AsmFault → Type 0
AreSmall (BadLine number fault) = (number < 2 ^ 64) × IsSmallColumn fault
AreSmall (BadName number) = number < 2 ^ 64
AreSmall fault = ⊤
