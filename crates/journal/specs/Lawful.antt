-- Records whose text reads back (ours): a name, numbers that can be written, cards, and where it is a batch or a put as many edits or cards as it may have. Edits that were carried have the record of the batch that was made, and an undo too: what asked for them is no record.
use Rattle.std.specs.Prelude.{◌≡◌, ◌≤◌, ⊤, IsTrue, length, All}
use Rattle.definitions.specs.{Cards.{Card, IsCard, card_of}, DeckInput.{Deck, is_deck_name}}
use Rattle.session_commands.specs.{declared.words.Seen.TheVariants.{Exactly, Since}, Words.greatest_number, Commands.{is_batch_size, is_put_size}, Lines.IsLawfulEdit}
use Rattle.desk_core.specs.declared.calls.{Change.Change, Change.TheVariants.{AddDeck, PutDeck, DropDeck, EditDeck, Undo}, Edits.Edits, Edits.TheVariants.{One, Batch}}
use Rattle.journal.specs.declared.{records.Entry.Entry, records.Record.Record}
use Rattle.journal.specs.declared.records.Entry.TheVariants as entry
use Rattle.moments.specs.Moments.{is_moment}

-- a deck with a lawful name and cards
abbrev pub IsLawfulDeck : Deck → Type 0
IsLawfulDeck deck = IsTrue (is_deck_name deck.name) × All (λ (card : Card). card_of card ≡ IsCard card) deck.cards

-- one edit, or as many as a batch may have
abbrev pub AreLawful : Edits → Type 0
AreLawful (One edit) = IsLawfulEdit edit
AreLawful (Batch edits) = IsTrue (is_batch_size (length edits)) × All IsLawfulEdit edits

-- a change of a lawful name, with a version that can be written, and lawful edits by who has seen that version and no other
abbrev pub IsLawfulChange : Change → Type 0
IsLawfulChange (AddDeck deck) = IsLawfulDeck deck
IsLawfulChange (PutDeck deck seen) = IsLawfulDeck deck × (seen ≤ greatest_number) × IsTrue (is_put_size (length deck.cards))
IsLawfulChange (DropDeck name seen) = IsTrue (is_deck_name name) × (seen ≤ greatest_number)
IsLawfulChange (EditDeck name (Exactly seen) edits) = IsTrue (is_deck_name name) × (seen ≤ greatest_number) × AreLawful edits
IsLawfulChange (EditDeck name (Since seen) edits) = ⊥
IsLawfulChange (Undo name version) = ⊥

abbrev pub IsLawfulEntry : Entry → Type 0
IsLawfulEntry entry.Begun = ⊤
IsLawfulEntry (entry.Made change) = IsLawfulChange change

-- a record with a moment, a name, and numbers that can be written
pub record IsLawful (r : Record) : Type 0 where
  pub version : r.version ≤ greatest_number
  pub moment : IsTrue (is_moment r.moment)
  pub by : IsTrue (is_deck_name r.by)
  pub entry : IsLawfulEntry r.entry
