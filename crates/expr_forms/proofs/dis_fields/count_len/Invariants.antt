use Rattle.std.{proofs.Common.{◌≡◌, ◌==◌, ◌+◌, not, drop}, specs.List.prefix_len}
use Rattle.definitions.specs.Characters.{comma}
use Rattle.expr_forms.proofs.dis_fields.count_len.Given as goal

-- the characters so far, and those behind them that are no commas, are all of them
abbrev pub invariant-loop-k : goal.invariant-loop-k
invariant-loop-k l = l.k + prefix_len (λ c. not (c == comma)) (drop l.k l.text) ≡ prefix_len (λ c. not (c == comma)) l.text
