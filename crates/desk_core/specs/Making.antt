-- What a deck job makes (ours).
use Rattle.std.specs.Prelude.{ℕ, List, Some}
use Rattle.desk_core.specs.Joins.{Language.{Card, Deck}, Edits.{Edit, edited_by}, Calls.{Done, Start, FromRecord, FromCards, DeckWork}}

-- the deck of a job's start: that of the record, or the cards under the name that the job has
abbrev pub start_deck : List ℕ → Start → Deck
start_deck name (FromRecord kept) = kept.deck
start_deck name (FromCards cards) = record { name = name; cards = cards }

-- the cards of a job's start
abbrev pub start_cards : Start → List Card
start_cards (FromRecord kept) = kept.deck.cards
start_cards (FromCards cards) = cards

-- the deck that a job begins with
abbrev pub begun_deck : DeckWork → Deck
begun_deck work = start_deck work.name work.start

-- the deck of a job with this name, this start and these edits, which are made in order
abbrev pub deck_edited : List ℕ → Start → List Edit → Deck
deck_edited name start edits = record { name = (start_deck name start).name; cards = edited_by edits (start_deck name start).cards }

-- the deck that a job is to assemble
abbrev pub made_deck : DeckWork → Deck
made_deck work = deck_edited work.name work.start work.edits

-- the result of a deck job: record and object are of the deck that it assembled
abbrev pub done_of : DeckWork → Done
done_of work = record { lease = work.lease; deck = work.deck; version = work.version; kept = Some (record { deck = made_deck work }); object = made_deck work }
