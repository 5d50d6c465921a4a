use Rattle.std.proofs.Common.{◌∙◌, is_some, ap}
use Rattle.deck_linker.proofs.EntryLaws.{entered-named}
use Rattle.deck_linker.proofs.link_lines.is_entered.Goals as goal

pub returns : goal.returns
returns c =
    c.is_some.ensures
    ∙ ap is_some c.entered.ensures.value
    ∙ entered-named c.args.name.now c.args.layout.now.commons c.args.layout.now.decks
