-- What contracts see of a desk (ours).
use Rattle.std.specs.Prelude.{ℕ, ◌==◌, Bool, false, List, [], map, find, Option, Some, None, if◌then◌else◌}
use Rattle.desk_core.specs.{Joins.Language.{Card, Deck, same_text}, Joins.Edits.Edit, Past.Past}
pub use Rattle.desk_core.specs.declared.leases.Lease.{Lease}

-- a record that an assembler keeps from edit to edit: the deck that it is of
pub record Kept : Type 0 where
  pub deck : Deck

-- a publication: its version and its decks
pub record Publication : Type 0 where
  pub version : ℕ
  pub decks : List Deck

-- a deck on the desk: its identity is the version that its addition made, or that of the last deck put in its place, its version that of the last change of it; whether it has an object of that version;
-- its record, where the desk has one; the edits that the record lacks; the lease, where one is out; and what is kept of its changes
pub record DeskDeck : Type 0 where
  pub name : List ℕ
  pub cards : List Card
  pub identity : ℕ
  pub version : ℕ
  pub built : Bool
  pub kept : Option Kept
  pub waiting : List Edit
  pub lease : Option Lease
  pub past : Past

-- a desk: how many changes it accepted, how many leases it gave, its decks in order of addition, the lease of a link, and the last publication
pub record Desk : Type 0 where
  pub version : ℕ
  pub leases : ℕ
  pub decks : List DeskDeck
  pub link : Option Lease
  pub publication : Option Publication

-- whether a lease is out under this number
abbrev pub is_leased : ℕ → Option Lease → Bool
is_leased number None = false
is_leased number (Some lease) = lease.number == number

-- whether a lease is out that was given at this version
abbrev pub is_leased_at : ℕ → Option Lease → Bool
is_leased_at version None = false
is_leased_at version (Some lease) = lease.version == version

-- a new desk, which goes on behind this version: its first change makes the next one
abbrev pub new_desk_at : ℕ → Desk
new_desk_at begun = record { version = begun; leases = 0; decks = []; link = None; publication = None }

-- a new desk
abbrev pub new_desk : Desk
new_desk = new_desk_at 0

-- how many decks a desk may have
abbrev pub most_decks : ℕ
most_decks = 64

-- the greatest version, and the greatest number of a lease
abbrev pub greatest_number : ℕ
greatest_number = 4611686018427387904

-- name and cards of a deck
abbrev pub deck_of : DeskDeck → Deck
deck_of deck = record { name = deck.name; cards = deck.cards }

-- names and cards of a desk's decks
abbrev pub decks_of : Desk → List Deck
decks_of desk = map deck_of desk.decks

-- whether a deck has this name
abbrev pub is_named : List ℕ → DeskDeck → Bool
is_named name deck = same_text name deck.name

-- the deck of a name
abbrev pub deck_named : List ℕ → Desk → Option DeskDeck
deck_named name desk = find (is_named name) desk.decks

-- a deck, in another form where it has this name
abbrev pub put_if_named : List ℕ → (DeskDeck → DeskDeck) → DeskDeck → DeskDeck
put_if_named name form deck = if is_named name deck then form deck else deck

-- the desk with the deck of a name in another form
abbrev pub with_deck : List ℕ → (DeskDeck → DeskDeck) → Desk → Desk
with_deck name form desk = record desk { decks = map (put_if_named name form) desk.decks }
