use Rattle.std.{proofs.Common.{◌≡◌, ◌+◌, ◌==◌, drop}, specs.List.prefix_len}
use Rattle.definitions.specs.Characters.{blank}
use Rattle.cards.proofs.field_parts.blanks_len.Given as goal

-- the characters so far, and those behind them that pass, are all that pass
abbrev pub invariant-loop-i : goal.invariant-loop-i
invariant-loop-i l = l.i + prefix_len (λ c. c == blank) (drop l.i l.text) ≡ prefix_len (λ c. c == blank) l.text
