-- Runs of a desk: legal histories from a new one, the changes that they accepted, and what is promised of them (ours).
use Rattle.std.specs.Prelude.{◌≡◌, ℕ, ◌+◌, ◌-◌, ◌≤◌, Bool, true, false, List, [], ◌∷◌, take, length, filter_map, Option, Some, None, option_map, if◌then◌else◌}
use Rattle.cards.specs.Converging.{edits_in, Converge}
use Rattle.turn_office.specs.{declared.history.Entry.Entry, Histories.Leads}
use Rattle.desk_core.specs.{Joins.Language.{Card, Deck, same_text, listing_of, image_of}, Joins.Edits.Edit, Changes.decks_after, Past.KeptEdit, Led.HaveLed, Desks.{Desk, DeskDeck, Publication, new_desk_at, decks_of, deck_named}, Joins.Calls.{Exactly, Since, Change, AddDeck, PutDeck, DropDeck, EditDeck, Undo, Call, Make, Reply, Changed, Carried}, Earlier.edits_behind, Carrying.{made_in, cards_of, edits_of}, Steps.Steps}
use Rattle.desk_core.specs.Changes as changes

-- calls with their replies, oldest first
abbrev pub History : Type 0
History = List (Entry Call Reply)

-- the desk steps through the history, from a new desk that goes on behind a version, 0 if it goes on behind none, to this one
abbrev pub Runs : ℕ → History → Desk → Type 0
Runs begun history desk = Leads Steps (new_desk_at begun) history desk

-- the edits as they were carried, where a reply shows them
abbrev pub carried_in : Reply → Option (List Edit)
carried_in (Carried version seen edits) = Some edits
carried_in _ = None

-- the change of decks that is asked for; where its edits are carried, with those that the reply shows
abbrev pub change_made : Change → Reply → Option changes.Change
change_made (AddDeck deck) reply = Some (changes.Added deck)
change_made (PutDeck deck seen) reply = Some (changes.Put deck)
change_made (DropDeck name seen) reply = Some (changes.Dropped name)
change_made (EditDeck name (Exactly seen) edits) reply = Some (changes.Edited name (edits_of edits))
change_made (EditDeck name (Since seen) edits) reply = option_map (changes.Edited name) (carried_in reply)
change_made (Undo name version) reply = option_map (changes.Edited name) (carried_in reply)

-- the change that a call asks for, if it asks for one
abbrev pub change_asked : Call → Reply → Option changes.Change
change_asked (Make by change) reply = change_made change reply
change_asked _ reply = None

-- whether a reply accepts a change
abbrev pub accepts : Reply → Bool
accepts (Changed version) = true
accepts (Carried version seen edits) = true
accepts _ = false

-- the change that an entry made
abbrev pub change_in : Entry Call Reply → Option changes.Change
change_in entry = if accepts entry.reply then change_asked entry.call entry.reply else None

-- the accepted changes, in order
abbrev pub changes_in : History → List changes.Change
changes_in history = filter_map change_in history

-- the decks at a version: after as many accepted changes as it took to come there
abbrev pub decks_at : ℕ → ℕ → History → List Deck
decks_at begun version history = decks_after (take (version - begun) (changes_in history))

-- the cards of the deck of a name among decks, if it is there
abbrev pub cards_named : List ℕ → List Deck → Option (List Card)
cards_named name [] = None
cards_named name (deck ∷ decks) = if same_text name deck.name then Some deck.cards else cards_named name decks

-- a publication at its version: listing and image are the build of the decks after the accepted changes up to it, the first so many where the desk went on behind no version
pub record IsBuildOf (begun : ℕ) (history : History) (desk : Desk) (publication : Publication) : Type 0 where
  pub reached : publication.version ≤ desk.version
  pub not_before : begun ≤ publication.version
  pub decks : publication.decks ≡ decks_at begun publication.version history
  pub listing : listing_of publication.decks ≡ listing_of (decks_at begun publication.version history)
  pub image : image_of publication.decks ≡ image_of (decks_at begun publication.version history)

-- version, cards and publication are the same
pub record IsUnchanged (desk next : Desk) : Type 0 where
  pub version : next.version ≡ desk.version
  pub decks : decks_of next ≡ decks_of desk
  pub publication : next.publication ≡ desk.publication

-- the desk's version counts its accepted changes, and its cards are what they leave
pub record IsOfItsChanges (begun : ℕ) (history : History) (desk : Desk) : Type 0 where
  pub version : desk.version ≡ begun + length (changes_in history)
  pub decks : decks_of desk ≡ decks_after (changes_in history)

-- the publication is of this version
pub record IsPublishedAt (version : ℕ) (desk : Desk) : Type 0 where
  pub publication : Publication
  pub shown : desk.publication ≡ Some publication
  pub version_is : publication.version ≡ version

-- what is published is of this version or a later one
pub record IsPublishedFrom (version : ℕ) (desk : Desk) : Type 0 where
  pub publication : Publication
  pub shown : desk.publication ≡ Some publication
  pub not_before : version ≤ publication.version

-- in each run from a new desk to a desk
abbrev pub InEachRun : (ℕ → History → Desk → Type 0) → Type 0
InEachRun Holds = (begun : ℕ) (history : History) (desk : Desk) → Runs begun history desk → Holds begun history desk

-- a deck had these cards at a version
abbrev pub HadCards : ℕ → History → List ℕ → ℕ → List Card → Type 0
HadCards begun history name version cards = cards_named name (decks_at begun version history) ≡ Some cards

-- edits led from the cards of a version to those of now
abbrev pub LedSince : ℕ → History → List ℕ → ℕ → List KeptEdit → Desk → Type 0
LedSince begun history name version edits desk =
    (was : List Card) × (now : List Card) × (cards_named name (decks_at begun version history) ≡ Some was) × (cards_named name (decks_of desk) ≡ Some now) × HaveLed was edits now

-- what was made of these edits converges with what others did to the deck behind a version
abbrev pub LosesNothing : ℕ → DeskDeck → List Edit → List Edit → Type 0
LosesNothing seen deck edits moved = Converge (cards_of seen deck) (edits_in (made_in (edits_behind seen deck))) edits moved

-- the deck of a name has these cards
abbrev pub HasCards : List ℕ → List Card → Desk → Type 0
HasCards name cards desk = (deck : DeskDeck) × (deck_named name desk ≡ Some deck) × (deck.cards ≡ cards)
