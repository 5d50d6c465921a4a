-- A change that takes another back: Undo (ours).
use Rattle.std.specs.Prelude.{ℕ, false, not, nat_le, nat_lt, List, [], ◌∷◌, Option, Some, None}
use Rattle.desk_core.specs.{Joins.Causes.{when, first_cause}, Joins.Edits.Edit, Past.{change_at, backs_of}, Desks.{Desk, DeskDeck, deck_named}, Joins.Calls.{Refused, Refusal, NoDeck, OldVersion, Forgotten, NoChange}, Answers.{Answer, answers, unless}, Changing.is_batch, Carrying.edit_since_of}

-- the edits that take back a deck's change of a version, the last of them first
abbrev pub backs_at : ℕ → DeskDeck → List Edit
backs_at version deck = backs_of (change_at version deck.past.edits)

-- what speaks against what is asked of the change of a version: the deck did not come to that version yet, that change is not kept, or no edits of the deck made it
abbrev pub against_change : ℕ → DeskDeck → Option Refusal
against_change version deck = first_cause (
    when (nat_lt deck.version version) (OldVersion deck.version)
    ∷ when (nat_le version deck.past.since) (Forgotten deck.past.since)
    ∷ when (not (is_batch (backs_at version deck))) NoChange
    ∷ [])

-- Undo, by the deck of its name: what takes the change back is a batch of edits by who has seen that version
abbrev pub undo_where : List ℕ → ℕ → List ℕ → Desk → Option DeskDeck → Answer
undo_where name version by desk None = answers (Refused NoDeck) desk
undo_where name version by desk (Some deck) = unless (against_change version deck) desk (edit_since_of false name version (backs_at version deck) by desk (Some deck))

-- Undo
abbrev pub undo : List ℕ → ℕ → List ℕ → Desk → Answer
undo name version by desk = undo_where name version by desk (deck_named name desk)
