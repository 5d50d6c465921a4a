use Rattle.std.proofs.Common.{arith, length, refl, ap, ◌∙◌}
use Rattle.session_line.proofs.{FlagSteps.{texts-end, texts-step}, SentSoFar.{upto-start, upto-more, upto-part, upto-end, upto-length}}
use Rattle.session_line.proofs.error_writing.write_flags.Goals as goal

pub loop-shown-init : goal.loop-shown-init
loop-shown-init g c = record { gone = upto-start _ _; cards = omega arith; few = omega arith; sound = refl }

pub loop-shown-preserved : goal.loop-shown-preserved
loop-shown-preserved g c =
    let bytes = c.as_slice-bytes.ensures.value ∙ c.flag_line-line.ensures.line in
    let step =
    texts-step c.args.name.now c.loop-shown.before c.loop-shown.ahead.now c.split_cards.result.0.now c.split_cards.result.1.now c.args.lines.now c.loop-shown.shown-index c.shown-item.result c.as_slice-bytes.result.now
    c.loop-shown-test.true c.shown-item.is c.split_cards.ensures.first c.split_cards.ensures.behind bytes in
    record {
      gone = upto-more _ _ _ c.loop-shown.sent c.as_slice-bytes.result.now _ _ _ c.loop-shown.invariant.gone step c.in_default.ensures.all;
      cards = omega (arith, c.split_cards.ensures.all, c.loop-shown.invariant.cards);
      few = omega (arith, c.flag_line-line.ensures.short, ap length c.as_slice-bytes.ensures.value, c.loop-shown.invariant.few);
      sound = c.in_default.ensures.no_fault ∙ c.loop-shown.invariant.sound;
    }

pub returns-in-Err-clause-sends : goal.returns-in-Err-clause-sends
returns-in-Err-clause-sends g c =
    let bytes = c.as_slice-bytes.ensures.value ∙ c.flag_line-line.ensures.line in
    let step =
    texts-step c.args.name.now c.loop-shown.before c.loop-shown.ahead.now c.split_cards.result.0.now c.split_cards.result.1.now c.args.lines.now c.loop-shown.shown-index c.shown-item.result c.as_slice-bytes.result.now
    c.loop-shown-test.true c.shown-item.is c.split_cards.ensures.first c.split_cards.ensures.behind bytes in
    upto-part _ _ _ c.loop-shown.sent c.in-Err.broken.sent c.as_slice-bytes.result.now _ _ _ c.loop-shown.invariant.gone step c.in-Err.ensures.prefix

pub returns-clause-sends : goal.returns-clause-sends
returns-clause-sends g c =
    upto-end _ _ _ _ _ c.loop-shown.invariant.gone (texts-end c.args.name.now c.loop-shown.before c.loop-shown.ahead.now c.args.lines.now c.loop-shown.shown-index c.loop-shown-test.false)

pub returns-clause-size : goal.returns-clause-size
returns-clause-size g c =
    upto-length _ _ _ _ _ c.loop-shown.invariant.gone (texts-end c.args.name.now c.loop-shown.before c.loop-shown.ahead.now c.args.lines.now c.loop-shown.shown-index c.loop-shown-test.false)
