use Rattle.std.proofs.Common.{◌≡◌, arith}
use Rattle.desk_tests.{specs.Settling.SettlesOn, specs.declared.settling.Settled.TheVariants.Turns, proofs.Turns.{not-yet, once-more, settles-used, settles-ended}, proofs.Unchanged.settles-keep, proofs.IdleDesk.settles-settled}
use Rattle.desk_tests.proofs.settling.settle.Goals as goal

pub loop-turn-init : goal.loop-turn-init
loop-turn-init c = not-yet c.args.desk.now c.args.meter.now

pub loop-turn-preserved : goal.loop-turn-preserved
loop-turn-preserved c = once-more c.loop-turn.turn c.args.desk.now c.loop-turn.desk c.settle_turn.new.desk c.args.meter.now c.loop-turn.meter c.settle_turn.new.meter c.loop-turn.invariant c.in_default.ensures

-- a turn ended it
pub returns-in-Some : goal.returns-in-Some
returns-in-Some c =
    let settles : SettlesOn c.args.turns c.args.desk.now c.in-Some.end c.settle_turn.new.desk c.args.meter.now c.settle_turn.new.meter =
    settles-ended c.loop-turn.turn c.args.turns c.args.desk.now c.loop-turn.desk c.settle_turn.new.desk c.in-Some.end c.args.meter.now c.loop-turn.meter c.settle_turn.new.meter c.loop-turn-test.true c.loop-turn.invariant c.in-Some.ensures in
    let kept = settles-keep _ _ _ _ settles.0 in
    record { steps = settles; version = kept.version; decks = kept.decks; settled = settles-settled _ _ _ _ settles.0 }

-- the turns are used up
pub returns : goal.returns
returns c =
    let all : c.loop-turn.turn ≡ c.args.turns = omega arith in
    let settles : SettlesOn c.args.turns c.args.desk.now Turns c.loop-turn.desk c.args.meter.now c.loop-turn.meter =
    settles-used c.loop-turn.turn c.args.turns c.args.desk.now c.loop-turn.desk c.args.meter.now c.loop-turn.meter all c.loop-turn.invariant in
    let kept = settles-keep _ _ _ _ settles.0 in
    record { steps = settles; version = kept.version; decks = kept.decks; settled = settles-settled _ _ _ _ settles.0 }
