-- Files of cards (ours): a line for each card, at most 20,000; the first fault in line order counts.
use Rattle.std.specs.Prelude.{ℕ, ◌+◌, List, [], ◌∷◌, ◌++◌, Result, Ok, Err, nat_le, flat_map, if◌then◌else◌}
use Rattle.definitions.specs.{Cards.{Card, CardRead, IsCard, TooWide, BadCharacter, card_of}, InputLines.{InputLine, Line, TooLong, Cut, lines_of}, DeckInput.most_cards}
use Rattle.cards.specs.declared.card.CardFault.TheVariants as card
use Rattle.deck_files.specs.declared.load_fault.LoadFault.{LoadFault, TheVariants.{BadLine, LastLineCut, DeckFull}}

-- the card of a line with this number, or its fault; one card too many is one
abbrev pub card_at : ℕ → CardRead → Result Card LoadFault
card_at number (IsCard columns) = if nat_le number most_cards then Ok columns else Err DeckFull
card_at number TooWide = Err (BadLine number card.TooWide)
card_at number (BadCharacter column) = Err (BadLine number (card.BadCharacter column))

-- the card that a line with this number shows, or its fault
abbrev pub card_in : ℕ → InputLine → Result Card LoadFault
card_in number (Line bytes) = card_at number (card_of bytes)
card_in number TooLong = Err (BadLine number card.TooWide)
card_in number Cut = Err LastLineCut

-- cards in front of others, unless there is a fault behind them
abbrev pub in_front : List Card → Result (List Card) LoadFault → Result (List Card) LoadFault
in_front cards (Ok others) = Ok (cards ++ others)
in_front cards (Err fault) = Err fault

-- a card in front of others, or the fault in its place
abbrev pub with_first : Result Card LoadFault → Result (List Card) LoadFault → Result (List Card) LoadFault
with_first (Ok columns) others = in_front (columns ∷ []) others
with_first (Err fault) others = Err fault

-- the cards of lines that stand behind so many others, or the first fault
abbrev pub cards_behind : ℕ → List InputLine → Result (List Card) LoadFault
cards_behind before [] = Ok []
cards_behind before (line ∷ lines) = with_first (card_in (before + 1) line) (cards_behind (before + 1) lines)

-- the cards of a file, or its first fault
abbrev pub cards_of_file : List ℕ → Result (List Card) LoadFault
cards_of_file bytes = cards_behind 0 (lines_of bytes)

-- the columns of a card and a line feed
abbrev pub line_of_card : Card → List ℕ
line_of_card columns = columns ++ 10 ∷ []

-- the file of these cards
abbrev pub file_of : List Card → List ℕ
file_of cards = flat_map line_of_card cards
