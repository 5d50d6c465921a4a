use Rattle.std.proofs.Common.{arith, ◌∙◌}
use Rattle.session_line.{specs.Joins.ChangeWalks.lines_of_one, specs.Replies.text_of_lines, proofs.ChangeSteps.text-first, proofs.SentSoFar.{upto-next, upto-part}}
use Rattle.session_line.proofs.change_writing.write_changes.Goals as goal

pub returns-in-Err-clause-sends : goal.returns-in-Err-clause-sends
returns-in-Err-clause-sends g c =
    let rest = c.loop-rest.rest.now in
    let own = c.split_change.result.0.now in
    let behind = c.split_change.result.1.now in
    upto-part _ _ _ c.loop-rest.sent c.in-Err.broken.sent (text_of_lines (lines_of_one own)) _ _ _ c.loop-rest.invariant.gone
    (text-first rest own behind c.split_change.ensures.first c.split_change.ensures.behind) c.in-Err.ensures.sends

pub loop-rest-preserved : goal.loop-rest-preserved
loop-rest-preserved g c =
    let rest = c.loop-rest.rest.now in
    let own = c.split_change.result.0.now in
    let behind = c.split_change.result.1.now in
    record {
      gone =
          upto-next _ _ _ c.loop-rest.sent c.in-Ok.size (text_of_lines (lines_of_one own)) _ _ _ c.loop-rest.invariant.gone
          (text-first rest own behind c.split_change.ensures.first c.split_change.ensures.behind) c.in-Ok.ensures.sends c.in-Ok.ensures.size;
      few = omega (arith, c.in-Ok.ensures.some, c.split_change.ensures.all, c.loop-rest.invariant.few);
      sound = c.in-Ok.ensures.count ∙ c.loop-rest.invariant.sound;
    }
