use Rattle.std.proofs.Common.{sym, subst}
use Rattle.desk_core.{specs.Joins.OwnNames.HaveOwnNames, proofs.PlaceLaws.own-removed}
use Rattle.desk_core.proofs.deck_list.DeckList.remove.Goals as goal

pub invariant_of-self : goal.invariant_of-self
invariant_of-self c = subst HaveOwnNames (sym c.remove.ensures.items) (own-removed c.self.inside.decks.items c.args.place c.self.invariant)
