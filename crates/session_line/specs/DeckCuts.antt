-- The decks of a file's cards (ours): they are cut as those of an input are.
use Rattle.std.specs.Prelude.{List, Result, Ok, Err, reverse}
use Rattle.definitions.specs.{Cards.Card, DeckInput.{Deck, Input, Decks, Faulty, InputFault, BadLineTooWide, BadLineBadCharacter, LastLineCut, BadName, NameTaken, TooManyDecks, DeckFull, in_input_order}}
use Rattle.cards.specs.declared.card.CardFault.TheVariants as card
use Rattle.deck_cuts.specs.Cuts.{input_of_cards}
use Rattle.session_commands.specs.declared.refusals.Refusal.{Refusal}
use Rattle.session_commands.specs.declared.refusals.Refusal.TheVariants as refusal

-- the refusal of what is no input
abbrev pub input_reason : InputFault → Refusal
input_reason (BadLineTooWide line) = refusal.BadLine line card.TooWide
input_reason (BadLineBadCharacter line column) = refusal.BadLine line (card.BadCharacter column)
input_reason LastLineCut = refusal.LastLineCut
input_reason (BadName line) = refusal.BadName
input_reason NameTaken = refusal.NameTaken
input_reason TooManyDecks = refusal.TooManyDecks
input_reason DeckFull = refusal.DeckFull

-- the decks of an input in order, or why there are none
abbrev pub decks_or_reason : Input → Result (List Deck) Refusal
decks_or_reason (Decks decks) = Ok (in_input_order decks)
decks_or_reason (Faulty fault) = Err (input_reason fault)

-- the decks of a file's cards
abbrev pub decks_in : List Card → Result (List Deck) Refusal
decks_in cards = decks_or_reason (input_of_cards (reverse cards))
