-- None of the rows so far has the name.
use Rattle.std.proofs.Common.{◌≡◌}
use Rattle.definitions.specs.Lengths.{base_in}
use Rattle.use_blocks.proofs.bases.front_base.Given as goal

abbrev pub invariant-loop : goal.invariant-loop
invariant-loop l = base_in l.name l.rest ≡ base_in l.name l.rows
