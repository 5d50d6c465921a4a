-- A result for the deck at a place, whose lease was out (ours).
use Rattle.std.specs.Prelude.{ℕ, ◌==◌, not, ◌&&◌, Option, Some, None, if◌then◌else◌}
use Rattle.desk_core.specs.{Joins.Language.Deck, Desks.{Desk, DeskDeck, Kept, deck_of}, Joins.Calls.{Done, Stored, Refused, Stale, Foreign}, Answers.{Answer, answers}, Delivering.{same_deck, lost, given_back, stored, is_for}, Joins.OwnNames.changed_at}

-- a result that is not the deck's
abbrev pub foreign_at : ℕ → Desk → Answer
foreign_at place desk = answers (Refused Foreign) (changed_at place lost desk)

-- a record and an object that come back at this version
abbrev pub record_at : ℕ → ℕ → Kept → Deck → Desk → DeskDeck → Answer
record_at place version kept object desk deck =
    if not (version == deck.version) then answers (Refused (Stale deck.version)) (changed_at place (given_back (Some kept)) desk)
    else if not (same_deck kept.deck (deck_of deck) && same_deck object (deck_of deck)) then foreign_at place desk
    else answers Stored (changed_at place (stored (Some kept)) desk)

-- a record, if it is not spent
abbrev pub kept_at : ℕ → ℕ → Option Kept → Deck → Desk → DeskDeck → Answer
kept_at place version None object desk deck = foreign_at place desk
kept_at place version (Some kept) object desk deck = record_at place version kept object desk deck

-- a result
abbrev pub result_at : ℕ → Done → Desk → DeskDeck → Answer
result_at place done desk deck = if not (is_for done deck) then foreign_at place desk else kept_at place done.version done.kept done.object desk deck
