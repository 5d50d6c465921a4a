use Rattle.std.proofs.Common.{◌≡◌, ◌≤◌, ◌+◌, ◌-◌, length, drop}
use Rattle.definitions.specs.Pieces.{AtStart, Inside, field_at}
use Rattle.cards.proofs.variable_fields.variable_len.Given as goal

-- the characters so far, and those behind them that belong to the field, are the field
abbrev pub invariant-loop-len : goal.invariant-loop-len
invariant-loop-len l = record {
  within : l.len ≤ length l.text;
  field : l.len + length (field_at Inside 0 (drop l.len l.text)) ≡ length (field_at AtStart 0 l.text);
}

abbrev pub decreases-loop-len : goal.decreases-loop-len
decreases-loop-len l = length l.text - l.len
