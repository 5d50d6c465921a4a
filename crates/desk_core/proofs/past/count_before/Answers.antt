use Rattle.std.proofs.Common.{◌∙◌, [], sym, arith}
use Rattle.desk_core.proofs.PastSteps.{behind-some, behind-none}
use Rattle.desk_core.proofs.past.count_before.Goals as goal

pub returns-in-Some-clause-few : goal.returns-in-Some-clause-few
returns-in-Some-clause-few c =
    let both = behind-some c.args.version c.in-Some.place c.args.made.now [] (sym c.place_behind.ensures ∙ c.in-Some.is) in
    let within = both.1 in
    omega (arith, within)

pub returns-in-Some-clause-behind : goal.returns-in-Some-clause-behind
returns-in-Some-clause-behind c = λ backs same. (behind-some c.args.version c.in-Some.place c.args.made.now backs (sym c.place_behind.ensures ∙ c.in-Some.is)).0

pub returns-in-None-clause-behind : goal.returns-in-None-clause-behind
returns-in-None-clause-behind c = λ backs same. behind-none c.args.version c.args.made.now backs same (sym c.place_behind.ensures ∙ c.in-None.is)
