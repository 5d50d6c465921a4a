use Rattle.std.proofs.Common.{List, subst}
use Rattle.definitions.specs.Layout.{Based}
use Rattle.deck_linker.{specs.Joins.InPieces.DoFit, specs.Joins.Sections.deck_section, proofs.InPieceLaws.fit-weaker}
use Rattle.deck_linker.proofs.linked_decks.image_room.Goals as goal

pub returns-clause-fit : goal.returns-clause-fit
returns-clause-fit c =
    let section = deck_section c.args.layout.now in
    fit-weaker section c.in_ok-sections.sections.most c.in_ok-image.image.most c.args.layout.now.decks c.in_ok-image.ensures.most
    (subst (λ (decks : List Based). DoFit section c.in_ok-sections.sections.most decks) c.decks.ensures c.in_ok-sections.ensures.fit)
