use Rattle.std.proofs.Common.{◌≡◌, length}
use Rattle.statement_coder.specs.Joins.Externals.{has_unlawful}
use Rattle.statement_coder.proofs.externals.has_unlawful.Given as goal

-- no name before those that are left is unlawful
abbrev pub invariant-names : goal.invariant-names
invariant-names l = has_unlawful l.rest ≡ has_unlawful l.fn.names

abbrev pub decreases-names : goal.decreases-names
decreases-names l = length l.rest
