use Rattle.std.proofs.Common.{refl}
use Rattle.deck_linker.{specs.Joins.UnfitLines.{unfit_of, unfit_lines}, proofs.LineLaws.lines-step, proofs.UnfitLaws.kept-step}
use Rattle.deck_objects.specs.declared.lines.Line.{Line}
use Rattle.deck_linker.proofs.unfit_fields.push_unfit_lines.Goals as goal

pub loop-line-preserved : goal.loop-line-preserved
loop-line-preserved c =
    let layout = c.args.layout.now in
    let based = c.args.based.now in
    let rows = c.args.parts.now.bases in
    let lists = c.args.parts.now.fields in
    record {
      lines = lines-step (unfit_lines layout based rows lists) (λ (line : Line). unfit_of layout based rows lists line.coded) (λ line behind. refl)
          c.args.lines.now c.loop-line.line-index c.line-item.result c.loop-line-test.true c.line-item.is
          c.loop-line.out c.push_unfit_of.new.out _ c.loop-line.invariant.lines c.in_ok-push_unfit_of.ensures;
      kept = kept-step _ lists c.args.lines.now c.loop-line.line-index c.line-item.result c.loop-line-test.true c.loop-line.invariant.kept;
    }
