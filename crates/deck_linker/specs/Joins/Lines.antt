-- Texts with lines that are counted.
use Rattle.std.specs.Prelude.{ℕ, ◌+◌, List, [], ◌∷◌, ◌++◌}

-- a text, and how many LINK lines it has
pub record Written : Type 0 where
  pub text : List ℕ
  pub lines : ℕ

-- a text with a line more
abbrev pub with_line : Written → List ℕ → Written
with_line written line = record { text = written.text ++ line; lines = written.lines + 1 }

-- a text with these lines behind it
abbrev pub with_lines : Written → List (List ℕ) → Written
with_lines written [] = written
with_lines written (line ∷ lines) = with_lines (with_line written line) lines
