use Rattle.std.{proofs.Common.{◌+◌, List, length, drop, arith, ap, ◌∙◌}, specs.Prelude.is_none}
use Rattle.definitions.specs.Cards.{Card}
use Rattle.session_line.{specs.Errors.flag_of, specs.Joins.FlagWalks.flags_in, proofs.FlagSteps.count-next}
use Rattle.session_line.proofs.errors.flag_count.Goals as goal

pub loop-shown-preserved : goal.loop-shown-preserved
loop-shown-preserved c =
    let step = count-next c.loop-shown.ahead.now c.args.lines.now c.loop-shown.shown-index c.shown-item.result c.loop-shown-test.true c.shown-item.is in
    let size = c.flag_size-count.ensures.size ∙ ap (λ (own : List Card). length (flag_of 0 own c.shown-item.result.letters (is_none c.shown-item.result.coded))) c.split_cards.ensures.first in
    let rest = ap (λ (cards : List Card). length (flags_in 0 cards (drop (c.loop-shown.shown-index + 1) c.args.lines.now))) c.split_cards.ensures.behind in
    record {
      counted = omega (arith, step, size, rest, c.loop-shown.invariant.counted);
      few = omega (arith, c.flag_size-count.ensures.few, c.split_cards.ensures.all, c.loop-shown.invariant.few);
    }
