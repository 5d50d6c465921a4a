use Rattle.std.proofs.{Common.{List, length, ap, sym, ◌∙◌}, lemmas.List.length-map}
use Rattle.definitions.specs.Cards.{Card}
use Rattle.deck_objects.specs.declared.lines.Line.{Line}
use Rattle.session_line.{specs.Errors.{flag_text, flags_of}, specs.Joins.FlagWalks.flags_in, proofs.FlagSteps.{deck-flags, shown-deck}}
use Rattle.session_line.proofs.errors.deck_count.Goals as goal

pub returns-clause-count : goal.returns-clause-count
returns-clause-count c =
    let deck = c.args.object.now in
    c.flag_count.ensures.count
    ∙ ap (λ (cards : List Card). length (flags_in 0 cards c.as_slice.result.now)) c.cards.ensures
    ∙ ap (λ (lines : List Line). length (flags_in 0 deck.cards lines)) c.as_slice.ensures.value
    ∙ ap length (deck-flags deck c.parts.result.now c.parts.ensures)
    ∙ sym (length-map (flags_of deck) (flag_text deck.name))
    ∙ sym (ap length (shown-deck c.args.view.now deck c.name.result.now c.shows_deck.result c.shows_deck.ensures c.name.ensures c.if-not-shows_deck.false))
