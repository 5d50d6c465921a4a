-- A journal that begins with decks, in place of the changes that led to them (ours).
use Rattle.std.specs.Prelude.{ℕ, ◌+◌, List, [], ◌∷◌}
use Rattle.definitions.specs.DeckInput.{Deck}
use Rattle.desk_core.specs.declared.calls.Change.TheVariants.{AddDeck}
use Rattle.journal.specs.{declared.records.Entry.TheVariants.{Begun, Made}, declared.records.Record.Record, Names.session_name}

-- the record of a deck that is added
abbrev pub added_record : List ℕ → ℕ → Deck → Record
added_record moment version deck = record { version = version; moment = moment; by = session_name 0; entry = Made (AddDeck deck) }

-- the records of decks that are added one after the other, behind a version
abbrev pub added_records : List ℕ → ℕ → List Deck → List Record
added_records moment version [] = []
added_records moment version (deck ∷ decks) = added_record moment (version + 1) deck ∷ added_records moment (version + 1) decks

-- the record that begins a journal behind a version
abbrev pub begun_record : List ℕ → ℕ → Record
begun_record moment version = record { version = version; moment = moment; by = session_name 0; entry = Begun }

-- the records of a journal that begins behind a version with decks
abbrev pub compacted : List ℕ → ℕ → List Deck → List Record
compacted moment version decks = begun_record moment version ∷ added_records moment version decks
