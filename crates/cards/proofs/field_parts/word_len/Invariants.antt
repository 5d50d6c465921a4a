use Rattle.std.{proofs.Common.{◌≡◌, ◌+◌, ◌==◌, not, drop}, specs.List.prefix_len}
use Rattle.definitions.specs.Characters.{blank}
use Rattle.cards.proofs.field_parts.word_len.Given as goal

-- the characters so far, and those behind them that pass, are all that pass
abbrev pub invariant-loop-i : goal.invariant-loop-i
invariant-loop-i l = l.i + prefix_len (λ c. not (c == blank)) (drop l.i l.text) ≡ prefix_len (λ c. not (c == blank)) l.text
