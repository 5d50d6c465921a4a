-- What a shelf is asked to save (ours).
use Rattle.std.specs.Prelude.{ℕ, List}
use Rattle.definitions.specs.Cards.{Card}
use Rattle.deck_files.specs.declared.deck_shelf.SaveOver.{SaveOver}

-- the deck of this name, with the cards that it had at this version, and what may be written over
pub record Saving : Type 0 where
  pub name : List ℕ
  pub over : SaveOver
  pub version : ℕ
  pub cards : List Card

abbrev pub saving : List ℕ → SaveOver → ℕ → List Card → Saving
saving name over version cards = record { name = name; over = over; version = version; cards = cards }
