-- Lines of messages put behind a text (ours).
use Rattle.std.specs.Prelude.{ℕ, ◌≡◌, ◌+◌, List, [], ◌∷◌, ◌++◌}
use Rattle.definitions.specs.Cards.{Card}
use Rattle.session_line.specs.Messages.{AreMessages, Lettered, lettered}

-- the letters of a statement that has these cards, of which so many stand before, where it has one
abbrev pub told_letters : ℕ → List Card → List ℕ → List Lettered
told_letters before [] letters = []
told_letters before (card ∷ cards) letters = lettered (before + 1) letters

-- lines of messages of these letters are put behind a text
pub record AddsMessages (name : List ℕ) (letters : List Lettered) (old new : List ℕ) : Type 0 where
  pub lines : List ℕ
  pub are : AreMessages name letters lines
  pub is : new ≡ old ++ lines
