use Rattle.desk_core.proofs.desk.Desk.earlier_cards.Goals as goal

pub cards_before-requires : goal.cards_before-requires
cards_before-requires c = (c.place_of.ensures.some c.in-Some.place c.in-Some.is).1
