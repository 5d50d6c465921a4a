-- A version of a deck that was saved, or that the desk gave to what was loaded (ours).
use Rattle.std.specs.Prelude.{ℕ, List}

-- the name of the deck, and the version
pub record SavedVersion : Type 0 where
  pub name : List ℕ
  pub version : ℕ

abbrev pub saved_version : List ℕ → ℕ → SavedVersion
saved_version name version = record { name = name; version = version }
