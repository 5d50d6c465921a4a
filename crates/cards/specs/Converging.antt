-- What is promised of edits that are carried (ours): the cards are those that come where the sender's edits are made first, on what he saw, and then those of others, each at its place there.
use Rattle.std.specs.Prelude.{ℕ, ◌≡◌, ◌≤◌, ◌+◌, ⊤, List, [], ◌∷◌, ◌++◌, length, map, None, Ok}
use Rattle.definitions.specs.Cards.{Card}
use Rattle.cards.specs.{declared.edits.Edit.Edit, declared.edits.Edit.TheVariants.{Insert, Replace, Remove}, declared.carrying.MadeEdit.MadeEdit, declared.carrying.Touched.Touched, Edits.{edited, edited_by}, Carrying.{moved, place_after, placed}}

-- the edits that were made
abbrev pub edits_in : List MadeEdit → List Edit
edits_in [] = []
edits_in (made ∷ later) = made.edit ∷ edits_in later

-- an edit names a place of these cards
abbrev pub HasPlace : Edit → List Card → Type 0
HasPlace (Insert place card) cards = (1 ≤ place) × (place ≤ length cards + 1)
HasPlace (Replace place card) cards = (1 ≤ place) × (place ≤ length cards)
HasPlace (Remove place) cards = (1 ≤ place) × (place ≤ length cards)

-- each edit names a place of what the ones before it leave
abbrev pub HavePlaces : List Edit → List Card → Type 0
HavePlaces [] cards = ⊤
HavePlaces (edit ∷ edits) cards = HasPlace edit cards × HavePlaces edits (edited cards edit)

-- edits but for the places that they name: which cards they put, and which of them take cards away
abbrev pub without_places : List Edit → List Edit
without_places edits = map (placed 0) edits

-- edits of a sender who saw these cards, carried over those that others made since, converge with them: carried edits are those of the sender, at places of the cards of now;
-- and there are places for all edits of others in what the sender's edits leave of the cards that he saw, where they come to the same cards
pub record Converge (seen : List Card) (made edits carried : List Edit) : Type 0 where
  pub own : without_places carried ≡ without_places edits
  pub own_places : HavePlaces carried (edited_by made seen)
  pub others : List Edit
  pub of_others : without_places others ≡ without_places made
  pub others_places : HavePlaces others (edited_by edits seen)
  pub same : edited_by carried (edited_by made seen) ≡ edited_by others (edited_by edits seen)

-- a card that the sender saw was changed first in this version: the edits that others made before leave it as it was, and one of that version is of it
pub record WasChanged (made : List MadeEdit) (touched : Touched) : Type 0 where
  pub before : List MadeEdit
  pub one : MadeEdit
  pub later : List MadeEdit
  pub in_order : made ≡ before ++ one ∷ later
  pub place : ℕ
  pub stood : place_after touched.card touched.card before ≡ Ok place
  pub changed : moved one.edit place ≡ None
  pub version : one.version ≡ touched.version
