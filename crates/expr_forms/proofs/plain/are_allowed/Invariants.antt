use Rattle.std.{proofs.Common.{◌≡◌, length}, specs.List.list_all}
use Rattle.definitions.specs.Expressions.{is_allowed}
use Rattle.expr_forms.specs.Joins.ElementLists.{elements_in}
use Rattle.expr_forms.proofs.plain.are_allowed.Given as goal

-- all are allowed where those that are left are
abbrev pub invariant-links : goal.invariant-links
invariant-links l = list_all (is_allowed l.fn.literals) (elements_in l.links) ≡ list_all (is_allowed l.fn.literals) (elements_in l.fn.behind)

abbrev pub decreases-links : goal.decreases-links
decreases-links l = length l.links
