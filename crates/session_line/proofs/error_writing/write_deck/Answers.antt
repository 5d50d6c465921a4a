use Rattle.std.{proofs.Common.{ℕ, List, ◌≡◌, ◌≤◌, length, subst, sym}, specs.Prelude.{All, IfOk}}
use Rattle.deck_objects.specs.declared.lines.Line.{Line}
use Rattle.text_ports.specs.Joins.Sending.{Sends}
use Rattle.session_line.proofs.FlagSteps.{deck-letters, deck-text}
use Rattle.session_line.proofs.error_writing.write_deck.Goals as goal

pub write_flags-requires-clause-letters : goal.write_flags-requires-clause-letters
write_flags-requires-clause-letters g c =
    subst (λ (lines : List Line). All (λ (shown : Line). length shown.letters ≤ 9) lines) (sym c.as_slice.ensures.value) (deck-letters c.args.object.now c.parts.result.now c.parts.ensures)

pub returns-clause-sends : goal.returns-clause-sends
returns-clause-sends g c =
    subst (λ (text : List ℕ). Sends (g.W.Write.contents c.args.output.now.0) (g.W.Write.contents c.write_flags.new.output.0) text c.write_flags.result)
    (deck-text c.args.view.now c.args.object.now c.parts.result.now c.name.result.now c.name-2.result.now c.cards.result.now c.as_slice.result.now c.shows_deck.result
    c.parts.ensures c.shows_deck.ensures c.name.ensures c.if-not-shows_deck.false c.name-2.ensures c.cards.ensures c.as_slice.ensures.value)
    c.write_flags.ensures.sends

pub returns-clause-size : goal.returns-clause-size
returns-clause-size g c =
    subst (λ (text : List ℕ). IfOk c.write_flags.result (λ (size : ℕ). size ≡ length text))
    (deck-text c.args.view.now c.args.object.now c.parts.result.now c.name.result.now c.name-2.result.now c.cards.result.now c.as_slice.result.now c.shows_deck.result
    c.parts.ensures c.shows_deck.ensures c.name.ensures c.if-not-shows_deck.false c.name-2.ensures c.cards.ensures c.as_slice.ensures.value)
    c.write_flags.ensures.size
