-- Calls that read a desk: Cards, Show, Status (ours).
use Rattle.std.specs.Prelude.{ℕ, List, map, length, is_some, Option, Some, None, option_map, if◌then◌else◌}
use Rattle.deck_listing.specs.DecksBehind.{decks_behind}
use Rattle.desk_core.specs.{Desks.{Desk, DeskDeck, Publication, deck_named, deck_of}, Joins.Calls.{Reply, CardsAre, Shown, StatusIs, Refused, NoDeck, NoPublication, Row, State, Out, Behind, Ready}, Answers.{Answer, answers}}

-- version and cards of a deck
abbrev pub cards_reply : Option DeskDeck → Reply
cards_reply None = Refused NoDeck
cards_reply (Some deck) = CardsAre deck.version deck.cards

-- Cards
abbrev pub cards : List ℕ → Desk → Answer
cards name desk = answers (cards_reply (deck_named name desk)) desk

-- the publication
abbrev pub show_reply : Option Publication → Reply
show_reply None = Refused NoPublication
show_reply (Some publication) = Shown publication

-- Show
abbrev pub show : Desk → Answer
show desk = answers (show_reply desk.publication) desk

-- the state of a deck
abbrev pub state_of : DeskDeck → State
state_of deck = if is_some deck.lease then Out else if deck.built then Ready else Behind

-- how many decks begin behind the END of a deck, where it has an object
abbrev pub decks_behind_of : DeskDeck → ℕ
decks_behind_of deck = if deck.built then decks_behind (deck_of deck) else 0

-- a deck's row
abbrev pub row_of : DeskDeck → Row
row_of deck = record { name = deck.name; version = deck.version; cards = length deck.cards; state = state_of deck; decks_behind = decks_behind_of deck }

-- the version of the publication
abbrev pub published_version : Desk → Option ℕ
published_version desk = option_map (λ (publication : Publication). publication.version) desk.publication

-- Status
abbrev pub status : Desk → Answer
status desk = answers (StatusIs desk.version (published_version desk) (map row_of desk.decks)) desk
