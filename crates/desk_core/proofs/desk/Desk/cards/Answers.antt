use Rattle.desk_core.proofs.desk.Desk.cards.Goals as goal

pub cards_at-requires : goal.cards_at-requires
cards_at-requires c = (c.place_of.ensures.some c.in-Some.place c.in-Some.is).1
