use Rattle.std.proofs.{Common.{◌∙◌, [], ap}, lemmas.List.get_or_read}
use Rattle.deck_files.{specs.DeckFiles.line_of_card, proofs.SaveSteps.Appends-part}
use Rattle.deck_files.proofs.saving.save.Goals as goal

pub returns-in-Err-clause-prefix : goal.returns-in-Err-clause-prefix
returns-in-Err-clause-prefix g c =
    Appends-part _ _ _ c.args.cards.now c.loop-card.card-index c.loop-card.sent c.in-Err.broken.sent c.as_slice-bytes.result.now c.loop-card-test.true
    (c.as_slice-bytes.ensures.text ∙ c.card_line-line.ensures ∙ ap line_of_card (get_or_read c.args.cards.now _ _ c.loop-card-test.true c.card-item.is []))
    c.loop-card.invariant.count c.loop-card.invariant.lines c.in-Err.ensures.prefix.0 c.in-Err.ensures.prefix.1
