-- Decks of cards, in order and as the definitions collect them, and why cards are none (ours).
use Rattle.std.specs.Prelude.{ℕ, ◌≡◌, ◌+◌, ⊤, Bool, List, [], ◌∷◌, Option, Some, None, codes, length, map, reverse, IfSome, MatchOption}
use Rattle.definitions.specs.{Cards.Card, Characters.same_text, Fields.fields_of, DeckInput.{Deck, Input, Decks, Faulty, InputFault, in_card_order, with_card}}
use Rattle.definitions.specs.DeckInput as input
use Rattle.deck_cuts.specs.declared.cut_fault.CutFault.{CutFault, TheVariants.{OutOfMemory, DeckFull, NameTaken, TooManyDecks, BadName}}

-- decks as the definitions collect them: newest first, each with its cards newest first
abbrev pub newest_first : List Deck → List Deck
newest_first decks = reverse (map in_card_order decks)

-- whether a card begins a deck, which is known by that card alone
abbrev pub begins_deck : Card → Bool
begins_deck card = same_text (fields_of (card ∷ [])).operation (codes "IDENT")

-- an input with the card of one line more; a fault that is there stays
abbrev pub input_with : ℕ → Card → Input → Input
input_with number card (Faulty fault) = Faulty fault
input_with number card (Decks decks) = with_card number card decks

-- the input of cards that are read newest first, each on a line of its own
abbrev pub input_of_cards : List Card → Input
input_of_cards [] = Decks []
input_of_cards (card ∷ earlier) = input_with (length earlier + 1) card (input_of_cards earlier)

-- no line of the input is a fault
abbrev pub IsSound : Input → Type 0
IsSound (Decks found) = ⊤
IsSound (Faulty fault) = ⊥

-- the fault of the input that a fault shows, if it is one
abbrev pub input_fault : CutFault → Option InputFault
input_fault OutOfMemory = None
input_fault DeckFull = Some input.DeckFull
input_fault NameTaken = Some input.NameTaken
input_fault TooManyDecks = Some input.TooManyDecks
input_fault (BadName number) = Some (input.BadName number)

-- the input has this very fault, or it has none and no memory was left
abbrev pub IsFaultOf : Input → CutFault → Type 0
IsFaultOf found fault = MatchOption (input_fault fault) (IsSound found) (λ told. found ≡ Faulty told)

-- a fault that shows one of the input shows the one that it has
abbrev pub TellsFaultOf : Input → CutFault → Type 0
TellsFaultOf found fault = IfSome (input_fault fault) (λ told. found ≡ Faulty told)
