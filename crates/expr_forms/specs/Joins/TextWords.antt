-- The text of a DIS: its characters, in so many words.
use Rattle.std.specs.Prelude.{ℕ, List, ◌++◌, take, replicate}
use Rattle.definitions.specs.Characters.{blank}

-- how many words, and their characters
pub record TextWords : Type 0 where
  pub words : ℕ
  pub characters : List ℕ

-- a text in so many places, with blanks where it ends
abbrev pub filled_text : ℕ → List ℕ → List ℕ
filled_text places text = take places (text ++ replicate places blank)
