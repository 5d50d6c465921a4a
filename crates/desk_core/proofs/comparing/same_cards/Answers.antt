use Rattle.std.proofs.Common.{◌∙◌, length, sym, ne_eqb}
use Rattle.desk_core.proofs.DeliverDone.{other-cards}
use Rattle.desk_core.proofs.comparing.same_cards.Goals as goal

pub returns-else-cards-others : goal.returns-else-cards-others
returns-else-cards-others c = let differ = ne_eqb (length c.args.cards.now) (length c.args.others.now) c.if-cards-others.false in differ ∙ sym (other-cards c.args.cards.now c.args.others.now differ)
