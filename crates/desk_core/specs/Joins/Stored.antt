-- How the code keeps a deck (ours).
use Rattle.std.specs.{Prelude.{◌≡◌, ◌≤◌, ℕ, List, [], ◌∷◌, ◌++◌, length, map, is_some, Option}, Option.ForSome}
use Rattle.cards.specs.declared.carrying.MadeEdit.{MadeEdit}
use Rattle.desk_core.specs.{Joins.Language.{Card, Deck}, Joins.Edits.{Edit, most_cards, edited}, Past.{Past, KeptEdit, undo_of}, declared.past.Back.Back, Led.IsPastOf, Desks.{DeskDeck, Kept, Lease}}

-- a deck with its object, if it has one of its version
abbrev pub stored_deck : List ℕ → List Card → ℕ → ℕ → Option Deck → Option Kept → List Edit → Option Lease → Past → DeskDeck
stored_deck name cards identity version object kept waiting lease past =
    record { name = name; cards = cards; identity = identity; version = version; built = is_some object; kept = kept; waiting = waiting; lease = lease; past = past }

-- an object that a deck has is the deck's
abbrev pub IsItsObject : List ℕ → List Card → Option Deck → Type 0
IsItsObject name cards object = ForSome object (λ of_deck. of_deck ≡ record { name = name; cards = cards })

-- a deck that is kept: it has no more cards than a deck may have, its object, and a past that led to its cards
pub record IsStored (name : List ℕ) (cards : List Card) (object : Option Deck) (past : Past) : Type 0 where
  pub few : length cards ≤ most_cards
  pub its_object : IsItsObject name cards object
  pub led : IsPastOf past.edits cards

-- edits that were made, each with what takes it back
abbrev pub kept_both : List MadeEdit → List Back → List KeptEdit
kept_both [] backs = []
kept_both (one ∷ made) [] = []
kept_both (one ∷ made) (back ∷ backs) = record { version = one.version; edit = one.edit; back = back.edit; by = back.by } ∷ kept_both made backs

-- a past, by the version behind which it is kept
abbrev pub past_of : ℕ → List MadeEdit → List Back → Past
past_of since made backs = record { since = since; edits = kept_both made backs }

-- edits as those that were made at this version
abbrev pub made_edits : ℕ → List Edit → List MadeEdit
made_edits version edits = map (λ (edit : Edit). record { version = version; edit = edit }) edits

-- what takes edits of these cards back
abbrev pub backs_made : List ℕ → List Edit → List Card → List Back
backs_made by [] cards = []
backs_made by (edit ∷ edits) cards = record { edit = undo_of edit cards; by = by } ∷ backs_made by edits (edited cards edit)

-- the edits that take back, the last first
abbrev pub backs_from : List Back → List Edit
backs_from [] = []
backs_from (back ∷ later) = backs_from later ++ back.edit ∷ []
