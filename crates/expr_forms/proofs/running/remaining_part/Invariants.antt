use Rattle.std.{proofs.Common.{◌≡◌, ◌++◌, drop}, specs.Prelude.map}
use Rattle.definitions.specs.Forms.{remaining}
use Rattle.expr_forms.specs.Joins.Running.{base_as, left_list}
use Rattle.expr_forms.proofs.running.remaining_part.Given as goal

-- what is left so far, and of the bases behind
abbrev pub invariant-loop-base : goal.invariant-loop-base
invariant-loop-base l = remaining (map base_as l.bases) ≡ left_list l.left ++ remaining (map base_as (drop l.base-index l.bases))
