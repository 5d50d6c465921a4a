use Rattle.std.proofs.Common.{arith, refl, ◌∙◌}
use Rattle.session_line.{specs.Joins.FlagWalks.{line_len, shown_text}, proofs.LinkSteps.{both-lengths, lines-next, some-left, text-line}, proofs.SentSoFar.{upto-next, upto-part}}
use Rattle.session_line.proofs.error_writing.write_links.Goals as goal

pub returns-in-Err-clause-sends : goal.returns-in-Err-clause-sends
returns-in-Err-clause-sends g c =
    let rest = c.loop-rest.rest.now in
    let line = c.split_line.result.0.now in
    let behind = c.split_line.result.1.now in
    let some = some-left rest c.is_empty.result c.is_empty.ensures c.loop-rest-test.true in
    let lines = lines-next rest (line_len rest) line behind some refl c.split_line.ensures.line c.split_line.ensures.behind in
    upto-part _ _ _ c.loop-rest.sent c.in-Err.broken.sent (shown_text c.args.view.now line) _ _ _ c.loop-rest.invariant.gone (text-line c.args.view.now rest line behind lines) c.in-Err.ensures.sends

pub loop-rest-preserved : goal.loop-rest-preserved
loop-rest-preserved g c =
    let rest = c.loop-rest.rest.now in
    let line = c.split_line.result.0.now in
    let behind = c.split_line.result.1.now in
    let some = some-left rest c.is_empty.result c.is_empty.ensures c.loop-rest-test.true in
    let lines = lines-next rest (line_len rest) line behind some refl c.split_line.ensures.line c.split_line.ensures.behind in
    let few = c.loop-rest.invariant.few some in
    record {
      gone =
          upto-next _ _ _ c.loop-rest.sent c.in-Ok.size (shown_text c.args.view.now line) _ _ _ c.loop-rest.invariant.gone (text-line c.args.view.now rest line behind lines) c.in-Ok.ensures.sends
          c.in-Ok.ensures.size;
      least = omega (arith, few, c.in-Ok.ensures.some, c.split_line.ensures.within);
      few = λ more. (let both = both-lengths rest line behind c.split_line.ensures.line c.split_line.ensures.behind more in omega (arith, few, both, c.in-Ok.ensures.some));
      sound = c.in-Ok.ensures.count ∙ c.loop-rest.invariant.sound;
    }
