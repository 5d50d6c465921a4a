use Rattle.std.proofs.Common.{◌≡◌}
use Rattle.operations.specs.Joins.KindsFound.{kind_found}
use Rattle.deck_assembler.specs.Joins.FirstStatements.{first_statements, fields_in}
use Rattle.deck_assembler.proofs.up_to_end.kind_of.Given as goal

-- the kind that the statements so far make
abbrev pub invariant-loop-span : goal.invariant-loop-span
invariant-loop-span l = l.search ≡ kind_found (fields_in (first_statements l.cards l.spans l.span-index))
