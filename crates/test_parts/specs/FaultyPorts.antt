-- Ports over memory that fail in one of their calls (ours).
use Rattle.std.specs.Prelude.{ℕ, ◌-◌, List, ◌++◌, take, drop, Result, Ok, Err}

-- the bytes that a reader has left or that a writer took, how many of them one call passes at most, and the number
-- of the call that fails, from 1 for the next one; 0 is none
pub record FaultyPort : Type 0 where
  pub bytes : List ℕ
  pub piece : ℕ
  pub fails_in : ℕ

-- the port after one call that left these bytes
abbrev pub after_call : FaultyPort → List ℕ → FaultyPort
after_call port bytes = record port { bytes = bytes; fails_in = port.fails_in - 1 }

-- what a reader has left after one call
abbrev pub left_after : {E : Type 0} → Result ℕ E → List ℕ → List ℕ
left_after (Ok count) bytes = drop count bytes
left_after (Err e) bytes = bytes

-- what a writer has taken after one call that was offered these bytes
abbrev pub taken_after : {E : Type 0} → Result ℕ E → List ℕ → List ℕ → List ℕ
taken_after (Ok count) bytes offered = bytes ++ take count offered
taken_after (Err e) bytes offered = bytes
