use Rattle.std.proofs.Common.{◌≡◌, length}
use Rattle.expr_forms.specs.Joins.LoneRegisters.{without_lone}
use Rattle.expr_forms.proofs.links.next_other.Given as goal

-- what was taken are terms of one register
abbrev pub invariant-links : goal.invariant-links
invariant-links l = without_lone l.all ≡ without_lone l.initial.all

abbrev pub decreases-links : goal.decreases-links
decreases-links l = length l.all
