use Rattle.std.proofs.Common.{Bool, Some, subst}
use Rattle.session_line.specs.Greetings.{WhereMet}
use Rattle.kept_desk.specs.Greeting.{listed}
use Rattle.kept_desk.proofs.door.greet_among.Goals as goal

pub returns : goal.returns
returns g c =
    let P : Bool → Type 0 = λ (holds : Bool). WhereMet (λ before after. g.E.Ends.relations.names before (Some c.args.name.now) after) holds c.list.new.self c.name_where.new.ends in
    listed c.in-Ok.sessions.items c.list.new.self c.call-status.result c.in-Ok.ensures.listed c.call-status.ensures (subst P c.is_status.ensures c.name_where.ensures) (cc c.new.ensures)
