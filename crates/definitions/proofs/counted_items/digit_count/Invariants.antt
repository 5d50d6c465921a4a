use Rattle.std.{proofs.Common.{◌≡◌, ◌+◌, drop}, specs.List.prefix_len}
use Rattle.definitions.specs.Characters.{is_digit}
use Rattle.definitions.proofs.counted_items.digit_count.Given as goal

-- the characters so far, and those behind them that pass, are all that pass
abbrev pub invariant-loop-i : goal.invariant-loop-i
invariant-loop-i l = l.i + prefix_len is_digit (drop l.i l.text) ≡ prefix_len is_digit l.text
