use Rattle.std.proofs.Common.{◌∙◌}
use Rattle.desk_core.{specs.Desks.is_named, proofs.PlaceLaws.is-found}
use Rattle.desk_core.proofs.desk.Desk.has_name.Goals as goal

pub returns : goal.returns
returns c = c.is_some.ensures ∙ is-found (is_named c.args.name.now) c.place_of.result c.args.self.now.decks c.place_of.ensures
