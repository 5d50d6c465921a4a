-- Files in memory, under the names of decks (ours).
use Rattle.std.specs.{Prelude.{ℕ, ◌≡◌, List, Option, Some, None, Ok}, Option.option_map}
use Rattle.definitions.specs.Cards.{Card}
use Rattle.deck_files.specs.{Files.{Named, named, with_named}, declared.deck_shelf.ShelfLoadFault.ShelfLoadFault, declared.deck_shelf.ShelfLoadFault.TheVariants.{CannotOpen, BadFile}, DeckFiles.cards_of_file, Loads.FaultsSo}

-- a file, and the version of the deck whose cards it has, 0 where none is known
pub record KeptFile : Type 0 where
  pub bytes : List ℕ
  pub version : ℕ

abbrev pub kept_file : List ℕ → ℕ → KeptFile
kept_file bytes version = record { bytes = bytes; version = version }

-- the names with their files
abbrev pub Files : Type 0
Files = Named KeptFile

-- the bytes of a file, where there is one
abbrev pub bytes_of : Option KeptFile → Option (List ℕ)
bytes_of file = option_map (λ kept. kept.bytes) file

-- the version whose cards a file has, where there is one
abbrev pub version_of : Option KeptFile → Option ℕ
version_of file = option_map (λ kept. kept.version) file

-- the files where the one under this name has the cards of this version, if it is there
abbrev pub noted : List ℕ → ℕ → Option KeptFile → Files → Files
noted name version None files = files
noted name version (Some kept) files = with_named name (kept_file kept.bytes version) files

abbrev pub after_note : List ℕ → ℕ → Files → Files
after_note name version files = noted name version (named name files) files

-- the file is there and has these cards
abbrev pub LoadsFrom : Option (List ℕ) → List Card → Type 0
LoadsFrom None cards = ⊥
LoadsFrom (Some file) cards = cards_of_file file ≡ Ok cards

-- the file is not there, or is not read as cards
abbrev pub LoadsNotFrom : Option (List ℕ) → ShelfLoadFault → Type 0
LoadsNotFrom file CannotOpen = file ≡ None
LoadsNotFrom file (BadFile fault) = (bytes : List ℕ) × (file ≡ Some bytes) × FaultsSo fault bytes
