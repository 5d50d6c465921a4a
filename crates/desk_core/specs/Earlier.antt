-- Calls that read what is kept of a deck's changes: Changes, CardsAt (ours).
use Rattle.std.specs.Prelude.{ℕ, nat_lt, List, [], ◌∷◌, Option, Some, None}
use Rattle.desk_core.specs.{Joins.Causes.{when, first_cause}, Past.{KeptEdit, behind, backs_of}, Desks.{Desk, DeskDeck, deck_named}, Joins.Calls.{ChangesAre, CardsBefore, Refused, Refusal, NoDeck, OldVersion, Forgotten}, Answers.{Answer, answers, unless}}

-- what speaks against what is asked of a deck from a version on: it did not come to that version yet, or not all of its changes behind it are kept
abbrev pub against_since : ℕ → DeskDeck → Option Refusal
against_since version deck = first_cause (when (nat_lt deck.version version) (OldVersion deck.version) ∷ when (nat_lt version deck.past.since) (Forgotten deck.past.since) ∷ [])

-- the edits of a deck behind a version
abbrev pub edits_behind : ℕ → DeskDeck → List KeptEdit
edits_behind version deck = behind version deck.past.edits

-- the changes of a deck, if it is there
abbrev pub changes_of : ℕ → Desk → Option DeskDeck → Answer
changes_of since desk None = answers (Refused NoDeck) desk
changes_of since desk (Some deck) = unless (against_since since deck) desk (answers (ChangesAre deck.version (edits_behind since deck)) desk)

-- Changes
abbrev pub changes : List ℕ → ℕ → Desk → Answer
changes name since desk = changes_of since desk (deck_named name desk)

-- the cards of a deck at a version, if it is there: those of now, and the edits that take back all that came behind
abbrev pub cards_at_of : ℕ → Desk → Option DeskDeck → Answer
cards_at_of version desk None = answers (Refused NoDeck) desk
cards_at_of version desk (Some deck) = unless (against_since version deck) desk (answers (CardsBefore version deck.cards (backs_of (edits_behind version deck))) desk)

-- CardsAt
abbrev pub cards_at : List ℕ → ℕ → Desk → Answer
cards_at name version desk = cards_at_of version desk (deck_named name desk)
