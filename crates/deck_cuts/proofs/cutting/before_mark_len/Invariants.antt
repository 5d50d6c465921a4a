use Rattle.std.{proofs.Common.{◌≡◌, ◌+◌, ◌==◌, ◌&&◌, not, drop}, specs.List.prefix_len}
use Rattle.definitions.specs.Characters.{blank, comma}
use Rattle.deck_cuts.proofs.cutting.before_mark_len.Given as goal

-- the characters so far, and those behind them that pass, are all that pass
abbrev pub invariant-loop-k : goal.invariant-loop-k
invariant-loop-k l = l.k + prefix_len (λ c. not (c == comma) && not (c == blank)) (drop l.k l.text) ≡ prefix_len (λ c. not (c == comma) && not (c == blank)) l.text
