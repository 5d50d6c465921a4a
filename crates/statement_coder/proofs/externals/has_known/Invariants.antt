use Rattle.std.proofs.Common.{◌≡◌, ◌||◌, length}
use Rattle.statement_coder.{specs.Joins.Externals.has_known, proofs.SeenLaws.any_seen}
use Rattle.statement_coder.proofs.externals.has_known.Given as goal

-- each name before those that are left is new, and stands once
abbrev pub invariant-names : goal.invariant-names
invariant-names g l = (has_known (g.S.EarlySymbols.view l.symbols) l.rest || any_seen l.seen.keys l.rest) ≡ has_known (g.S.EarlySymbols.view l.symbols) l.fn.names

abbrev pub decreases-names : goal.decreases-names
decreases-names g l = length l.rest
