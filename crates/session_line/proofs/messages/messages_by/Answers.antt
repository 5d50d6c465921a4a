use Rattle.session_line.proofs.DeckMessages.{deck-messages}
use Rattle.session_line.proofs.messages.messages_by.Goals as goal

pub returns : goal.returns
returns c =
    deck-messages c.args.object.now c.parts.result.now c.name.result.now c.cards.result.now c.as_slice.result.now c.new-text.result c.push_statements.new.text c.parts.ensures c.name.ensures
    c.cards.ensures c.as_slice.ensures.value c.new-text.ensures c.in_ok-push_statements.ensures
