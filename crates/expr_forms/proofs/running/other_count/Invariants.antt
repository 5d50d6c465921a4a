use Rattle.std.{proofs.Common.{◌≡◌, ◌+◌, drop}, specs.List.prefix_len}
use Rattle.expr_forms.specs.Joins.{FormsAs.relocation_as, Running.is_other}
use Rattle.expr_forms.proofs.running.other_count.Given as goal

-- the bases so far, and those behind them that are others, are all that are others
abbrev pub invariant-loop-i : goal.invariant-loop-i
invariant-loop-i l = l.i + prefix_len (is_other (relocation_as l.relocation)) (drop l.i l.bases) ≡ prefix_len (is_other (relocation_as l.relocation)) l.bases
