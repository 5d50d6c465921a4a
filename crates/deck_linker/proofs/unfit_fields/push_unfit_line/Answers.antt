use Rattle.std.proofs.Common.{ap, sym}
use Rattle.deck_linker.{specs.Joins.Lines.with_lines, proofs.UnfitLaws.unlisted}
use Rattle.deck_linker.proofs.unfit_fields.push_unfit_line.Goals as goal

pub returns-in_default : goal.returns-in_default
returns-in_default c = sym (ap (with_lines c.args.out.now) (unlisted c.args.layout.now c.args.based.now c.args.parts.now.fields c.args.line.now _ c.in_default.not-Listed))
