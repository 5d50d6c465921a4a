use Rattle.std.{proofs.Common.{◌≡◌, ◌+◌, drop}, specs.Prelude.is_none, specs.List.prefix_len}
use Rattle.definitions.specs.Pieces.{mark_of}
use Rattle.expr_forms.proofs.pieces.run_len.Given as goal

-- the characters so far, and those behind them that pass, are all that pass
abbrev pub invariant-loop-i : goal.invariant-loop-i
invariant-loop-i l = l.i + prefix_len (λ c. is_none (mark_of c)) (drop l.i l.text) ≡ prefix_len (λ c. is_none (mark_of c)) l.text
