-- Edits that find their card, and all edits of a deck by what who makes them has seen: EditDeck (ours).
use Rattle.std.specs.Prelude.{ℕ, ◌+◌, Bool, true, false, not, List, [], ◌∷◌, Option, Some, None, Result, Ok, Err, option_map}
use Rattle.cards.specs.{declared.carrying.MadeEdit.MadeEdit, declared.carrying.Touched.Touched, Carrying.{seen_before, carried}}
use Rattle.desk_core.specs.{Joins.Language.Card, Joins.Causes.{when, first_cause}, Joins.Edits.{Edit, edited_by, first_fault}, Past.{KeptEdit, backs_of}, Desks.{Desk, DeskDeck, deck_named}, Joins.Calls.{Seen, Exactly, Since, Edits, One, Batch, Carried, Refused, Refusal, NoDeck, BatchSize, TouchedCard}, Answers.{Answer, answers, unless, against_next}, Changing.{is_batch, bad_edit, shown, edited, edit_deck}, Earlier.{against_since, edits_behind}}

-- kept edits, as those that were made
abbrev pub made_in : List KeptEdit → List MadeEdit
made_in [] = []
made_in (one ∷ later) = record { version = one.version; edit = one.edit } ∷ made_in later

-- the cards of a deck at a version
abbrev pub cards_of : ℕ → DeskDeck → List Card
cards_of version deck = edited_by (backs_of (edits_behind version deck)) deck.cards

-- edits by who has seen a version, as they are made now: carried over those that were made behind it
abbrev pub carried_since : ℕ → List Edit → DeskDeck → Result (List Edit) Touched
carried_since seen edits deck = carried (seen_before (made_in (edits_behind seen deck))) edits

-- what speaks against edits as they are made now: a card that one of them is of was changed, or one does not apply
abbrev pub against_carried : Result (List Edit) Touched → List Card → Option Refusal
against_carried (Ok edits) cards = option_map bad_edit (first_fault edits cards)
against_carried (Err touched) cards = Some (TouchedCard touched.card touched.version)

-- what speaks against edits by who has seen a version: they have to apply to the cards that he saw, and then to those of now
abbrev pub against_carry : ℕ → List Edit → Desk → DeskDeck → Option Refusal
against_carry seen edits desk deck = first_cause (
    against_since seen deck
    ∷ when (not (is_batch edits)) BatchSize
    ∷ option_map bad_edit (first_fault edits (cards_of seen deck))
    ∷ against_carried (carried_since seen edits deck) deck.cards
    ∷ against_next desk.version
    ∷ [])

-- a change by edits that were carried: the new version, the deck's version before, and the edits as they were made
abbrev pub accept_carried : List ℕ → List ℕ → Desk → DeskDeck → Result (List Edit) Touched → Answer
accept_carried name by desk deck (Ok edits) = answers (Carried (desk.version + 1) deck.version edits) (edited name by edits desk)
accept_carried name by desk deck (Err touched) = answers (Refused (TouchedCard touched.card touched.version)) desk

-- one edit or several by who has seen a version, by the deck of the name
abbrev pub edit_since_of : Bool → List ℕ → ℕ → List Edit → List ℕ → Desk → Option DeskDeck → Answer
edit_since_of single name seen edits by desk None = answers (Refused NoDeck) desk
edit_since_of single name seen edits by desk (Some deck) = unless (option_map (shown single) (against_carry seen edits desk deck)) desk (accept_carried name by desk deck (carried_since seen edits deck))

-- EditDeck by who has seen this version, while the deck may have changed since
abbrev pub edit_since : Bool → List ℕ → ℕ → List Edit → List ℕ → Desk → Answer
edit_since single name seen edits by desk = edit_since_of single name seen edits by desk (deck_named name desk)

-- whether it is one edit alone
abbrev pub is_alone : Edits → Bool
is_alone (One edit) = true
is_alone (Batch edits) = false

-- the edits in their order
abbrev pub edits_of : Edits → List Edit
edits_of (One edit) = edit ∷ []
edits_of (Batch edits) = edits

-- edits by who has seen this
abbrev pub edit_by : Bool → List ℕ → Seen → List Edit → List ℕ → Desk → Answer
edit_by single name (Exactly version) edits by desk = edit_deck single name version edits by desk
edit_by single name (Since version) edits by desk = edit_since single name version edits by desk

-- EditDeck
abbrev pub edit_seen : List ℕ → Seen → Edits → List ℕ → Desk → Answer
edit_seen name seen edits by desk = edit_by (is_alone edits) name seen (edits_of edits) by desk
