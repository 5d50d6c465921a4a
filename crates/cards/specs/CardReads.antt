-- What `Card::read` answers, in the words of the definitions.
use Rattle.std.specs.Prelude.{ℕ, List, ◌++◌, Result, Ok, Err, codes, decimal}
use Rattle.definitions.specs.Cards.{CardRead, IsCard, TooWide, BadCharacter}
use Rattle.cards.specs.declared.card.CardFault.{CardFault}
use Rattle.cards.specs.declared.card.CardFault.TheVariants as fault

abbrev pub read_as : Result (List ℕ) CardFault → CardRead
read_as (Ok card) = IsCard card
read_as (Err fault.TooWide) = TooWide
read_as (Err (fault.BadCharacter column)) = BadCharacter column

-- the text of a fault: its name, and the column in decimal (ours)
abbrev pub card_fault_text : CardFault → List ℕ
card_fault_text fault.TooWide = codes "TooWide"
card_fault_text (fault.BadCharacter column) = codes "BadCharacter " ++ decimal column
