-- The faults of the input in words, and the line and the column that each is about (ours).
use Rattle.std.specs.Prelude.{ℕ, ◌+◌, ◌-◌, ◌^◌, ◌==◌, ◌&&◌, List, [], ◌∷◌, Option, None, Some, codes, drop, if◌then◌else◌, length, min, nat_le}
use Rattle.cards.specs.declared.card.CardFault.{CardFault}
use Rattle.cards.specs.declared.card.CardFault.TheVariants as card
use Rattle.asm_main.specs.declared.asm_fault.AsmFault.{AsmFault, TheVariants.{OutOfMemory, DeckFull, NameTaken, TooManyDecks, ReadFault, BadLine, LastLineCut, WriteFault, BadName}}

-- what a character is that no card has, with which the rest of a line begins
abbrev pub character_words : List ℕ → List ℕ
character_words [] = codes "a character that no card has; a card has the 64 characters of LANGUAGE.md"
character_words (c ∷ rest) =
    if nat_le 97 c && nat_le c 122 then codes "a small letter; --fold-case takes small letters as capitals"
    else if c == 9 then codes "a tab; --tabs takes tabs as blanks up to column 11, 18, 30 and so on"
    else if c == 13 then codes "a carriage return within a line; a card has the 64 characters of LANGUAGE.md"
    else codes "a character that no card has; a card has the 64 characters of LANGUAGE.md"

-- why a line is no card
abbrev pub card_words : CardFault → List ℕ → List ℕ
card_words card.TooWide line = codes "the line is longer than a card, which has 80 columns; cut -c1-80 keeps those"
card_words (card.BadCharacter column) line = character_words (drop (min (column - 1) (length line)) line)

-- what a fault of the input means; of a line that is no card, this is the line
abbrev pub fault_words : AsmFault → List ℕ → Option (List ℕ)
fault_words OutOfMemory line = None
fault_words DeckFull line = Some (codes "the deck has too many cards; it has at most 20,000")
fault_words NameTaken line = Some (codes "an earlier deck has this name")
fault_words TooManyDecks line = Some (codes "a deck too many; one run takes 64")
fault_words ReadFault line = None
fault_words (BadLine number fault) line = Some (card_words fault line)
fault_words LastLineCut line = Some (codes "no line feed ends the last line, so it may be cut; --last-line takes it as it is")
fault_words (WriteFault sent) line = None
fault_words (BadName number) line = Some (codes "no name for a deck; the first card is an IDENT card, and a name has 1 to 7 letters and digits")

-- the line that a fault is about, behind so many that were read whole
abbrev pub fault_line : AsmFault → ℕ → ℕ
fault_line OutOfMemory read = read
fault_line DeckFull read = read
fault_line NameTaken read = read
fault_line TooManyDecks read = read
fault_line ReadFault read = read
fault_line (BadLine number fault) read = number
fault_line LastLineCut read = min (read + 1) (2 ^ 64 - 1)
fault_line (WriteFault sent) read = read
fault_line (BadName number) read = number

-- the column that a fault is about, where one is known
abbrev pub fault_column : AsmFault → Option ℕ
fault_column (BadLine number card.TooWide) = Some 81
fault_column (BadLine number (card.BadCharacter column)) = Some column
fault_column fault = None
