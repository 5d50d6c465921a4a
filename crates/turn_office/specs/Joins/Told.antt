-- What a step is given for the proof alone (ours).
use Rattle.std.specs.Prelude.{ℕ, Option, Some, None}

-- how many seats the office has, the state that it was opened with, and the turn's call with its reply, if there is one
pub record Told (T C R : Type 0) : Type 0 where
  pub seats : ℕ
  pub first : T
  pub made : Option (C × R)

module _ {T C R : Type 0} where
  -- what a step outside of the turns is given
  abbrev pub opened : ℕ → T → Told T C R
  opened seats first = record { seats = seats; first = first; made = None }

  -- what the end of a turn is given
  abbrev pub ended : ℕ → T → C → R → Told T C R
  ended seats first call reply = record { seats = seats; first = first; made = Some (call, reply) }
