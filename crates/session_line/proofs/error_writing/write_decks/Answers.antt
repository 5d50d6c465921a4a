use Rattle.std.{proofs.Common.{ℕ, List, ◌+◌, ap, subst, arith, length, ◌∙◌}, specs.Io.KnownBytes.Appends}
use Rattle.definitions.specs.DeckInput.{Deck}
use Rattle.text_ports.proofs.SendSteps.{Appends-text, IsPart, part-text}
use Rattle.session_line.{specs.Errors.errors_where, specs.Replies.text_of_lines, proofs.FlagSteps.{bytes-more, texts-all, texts-of}}
use Rattle.session_line.proofs.error_writing.write_decks.Goals as goal

pub returns-in-Err-clause-sends : goal.returns-in-Err-clause-sends
returns-in-Err-clause-sends g c =
    let f = λ (deck : Deck). text_of_lines (errors_where c.args.view.now deck) in
    subst (λ (text : List ℕ). IsPart (g.W.Write.contents c.args.output.now.0) (g.W.Write.contents c.write_deck.new.output.0) text (c.loop-shared.sent + c.in-Err.broken.sent))
    (texts-of (errors_where c.args.view.now) c.args.objects.now)
    (part-text f _ _ _ c.args.objects.now c.loop-shared.shared-index c.loop-shared.sent c.in-Err.broken.sent c.shared-item.result (f c.object.result.now) c.loop-shared-test.true c.shared-item.is
    (ap f c.object.ensures) c.loop-shared.invariant.count c.loop-shared.invariant.lines c.in-Err.ensures.sends)

pub loop-shared-preserved : goal.loop-shared-preserved
loop-shared-preserved g c =
    let f = λ (deck : Deck). text_of_lines (errors_where c.args.view.now deck) in
    record {
      lines =
          Appends-text f _ _ _ c.args.objects.now c.loop-shared.shared-index c.shared-item.result (f c.object.result.now) c.loop-shared-test.true c.shared-item.is (ap f c.object.ensures)
          c.loop-shared.invariant.lines c.in-Ok.ensures.sends;
      count =
          bytes-more f c.args.objects.now c.loop-shared.shared-index c.shared-item.result (f c.object.result.now) c.loop-shared.sent c.in-Ok.size c.loop-shared-test.true c.shared-item.is (ap f c.object.ensures)
          c.in-Ok.ensures.size c.loop-shared.invariant.count;
      few = omega (arith, c.in-Ok.ensures.some, c.loop-shared.invariant.few);
      sound = c.in-Ok.ensures.count ∙ c.loop-shared.invariant.sound;
    }

pub returns-clause-sends : goal.returns-clause-sends
returns-clause-sends g c =
    subst (λ (text : List ℕ). Appends (g.W.Write.contents c.args.output.now.0) (g.W.Write.contents c.loop-shared.output.0) text)
    (texts-all c.args.view.now c.args.objects.now c.loop-shared.shared-index c.loop-shared-test.false) c.loop-shared.invariant.lines

pub returns-clause-size : goal.returns-clause-size
returns-clause-size g c = c.loop-shared.invariant.count ∙ ap length (texts-all c.args.view.now c.args.objects.now c.loop-shared.shared-index c.loop-shared-test.false)
