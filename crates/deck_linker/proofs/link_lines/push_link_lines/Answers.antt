use Rattle.deck_linker.proofs.{TextLaws.on_ok_along, LinkLineLaws.all-lines}
use Rattle.deck_linker.proofs.link_lines.push_link_lines.Goals as goal

pub returns : goal.returns
returns c =
    on_ok_along c.push_commons.result _ _ _
    (all-lines c.args.layout.now c.args.out.now c.push_decks.new.out c.new-earlier.result c.decks.result.now c.commons.result.now
    c.new-earlier.ensures c.decks.ensures c.commons.ensures c.in_ok-push_decks.ensures)
    c.push_commons.ensures
