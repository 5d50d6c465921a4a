use Rattle.std.proofs.Common.{Bool, cond, arith, refl, ap, ◌∙◌}
use Rattle.session_line.{specs.Joins.FlagWalks.line_len, proofs.LinkSteps.{behind-shorter, count-line, lines-next, some-left}}
use Rattle.session_line.proofs.errors.link_count.Goals as goal

pub loop-rest-preserved : goal.loop-rest-preserved
loop-rest-preserved c =
    let rest = c.loop-rest.rest.now in
    let line = c.split_line.result.0.now in
    let behind = c.split_line.result.1.now in
    let some = some-left rest c.is_empty.result c.is_empty.ensures c.loop-rest-test.true in
    let lines = lines-next rest (line_len rest) line behind some refl c.split_line.ensures.line c.split_line.ensures.behind in
    let one = c.one_where-count.ensures.size ∙ ap (λ (h : Bool). cond h 1 0) c.shows_line.ensures in
    let step = count-line c.args.view.now rest line behind lines in
    let fewer = behind-shorter rest behind c.split_line.ensures.behind some in
    record {
      counted = omega (arith, step, one, c.loop-rest.invariant.counted);
      few = omega (arith, c.one_where-count.ensures.few, fewer, c.loop-rest.invariant.few);
    }
