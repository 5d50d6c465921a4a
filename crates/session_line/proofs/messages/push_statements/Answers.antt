use Rattle.std.{proofs.Common.{◌+◌, List, drop, length, subst, arith, ◌∙◌}, specs.Prelude.flat_map}
use Rattle.session_line.{specs.Joins.FlagWalks.flags_in, specs.Joins.MessageWalks.told_letters, specs.Messages.{Lettered, letters_of}, proofs.MessageSteps.{IsSoFar, far-end, far-more, statements-end, statements-next}}
use Rattle.session_line.proofs.messages.push_statements.Goals as goal

pub loop-shown-preserved : goal.loop-shown-preserved
loop-shown-preserved c =
    let name = c.args.name.now in
    let lines = c.args.lines.now in
    let stand = c.loop-shown.stand.cards in
    let i = c.loop-shown.shown-index in
    let own = c.split_cards.result.0.now in
    let behind = c.split_cards.result.1.now in
    let letters = c.as_slice.result.now in
    let all = flat_map letters_of (flags_in 0 c.args.cards.now lines) in
    let left = flat_map letters_of (flags_in (stand + length own) behind (drop (i + 1) lines)) in
    let next =
    statements-next stand c.loop-shown.ahead.now own behind lines i c.shown-item.result letters c.loop-shown-test.true c.shown-item.is c.split_cards.ensures.first c.split_cards.ensures.behind
    (c.as_slice.ensures.text ∙ c.text-letters.ensures) in
    record {
      far =
          far-more name all (told_letters stand own letters) left c.args.text.now c.loop-shown.text c.push_statement.new.text
          (subst (λ (l : List Lettered). IsSoFar name all l c.args.text.now c.loop-shown.text) next c.loop-shown.invariant.far) c.in_ok-push_statement.ensures;
      cards = omega (arith, c.split_cards.ensures.all, c.loop-shown.invariant.cards);
    }

pub returns : goal.returns
returns c =
    let lines = c.args.lines.now in
    far-end c.args.name.now (flat_map letters_of (flags_in 0 c.args.cards.now lines)) (flat_map letters_of (flags_in c.loop-shown.stand.cards c.loop-shown.ahead.now (drop c.loop-shown.shown-index lines))) c.args.text.now
    c.loop-shown.text c.loop-shown.invariant.far (statements-end c.loop-shown.stand.cards c.loop-shown.ahead.now lines c.loop-shown.shown-index c.loop-shown-test.false)
