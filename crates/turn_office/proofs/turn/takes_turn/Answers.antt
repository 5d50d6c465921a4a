use Rattle.std.proofs.Common.{rules, ◌∙◌, sym}
use Rattle.turn_office.proofs.{Stages.by_test, Steps.looks}
use Rattle.turn_office.proofs.turn.takes_turn.Goals as goal

pub load-serving-requires : goal.load-serving-requires
load-serving-requires g c = (search rules, search rules, looks g.O.Sequential.allowed _ _ _ _ _ c.requires.waits.0 c.requires.waits.1)

pub returns-clause-turn : goal.returns-clause-turn
returns-clause-turn g c = let told = c.load-serving.ensures.2 c.requires.waits.0 c.requires.waits.1 in
    by_test c.load-serving.result c.args.ticket _ _ (λ e. told.0 (e ∙ c.requires.waits.2)) (λ ne. told.1 (λ found. ne (found ∙ sym c.requires.waits.2)))
