-- The lines of the statements that are left complete those of all.
use Rattle.std.proofs.Common.{◌≡◌, drop}
use Rattle.deck_linker.specs.Joins.{Lines.with_lines, UnfitLines.{AllAreKept, unfit_lines}}
use Rattle.deck_linker.proofs.unfit_fields.push_unfit_lines.Given as goal

abbrev pub invariant-loop-line : goal.invariant-loop-line
invariant-loop-line l = record {
  lines : with_lines l.out (unfit_lines l.layout l.based l.parts.bases l.parts.fields (drop l.line-index l.lines)) ≡ with_lines l.fn.out (unfit_lines l.layout l.based l.parts.bases l.parts.fields l.lines);
  kept : AllAreKept l.based.object.kind l.parts.fields (drop l.line-index l.lines);
}
