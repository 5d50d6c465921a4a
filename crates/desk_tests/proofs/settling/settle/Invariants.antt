use Rattle.desk_tests.proofs.Turns.{WentOn}
use Rattle.desk_tests.proofs.settling.settle.Given as goal

-- each turn so far left something to do
abbrev pub invariant-loop-turn : goal.invariant-loop-turn
invariant-loop-turn l = WentOn l.turn l.initial.desk l.desk l.initial.meter l.meter
