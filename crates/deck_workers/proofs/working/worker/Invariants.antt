use Rattle.std.proofs.Common.{◌≡◌}
use Rattle.deck_workers.specs.Working.{Works}
use Rattle.deck_workers.proofs.working.worker.Given as goal

-- the seat is the one handed in, and its calls so far are rounds
abbrev pub invariant-loop : goal.invariant-loop
invariant-loop g l = record {
  office : l.seat.office ≡ l.initial.seat.office;
  number : l.seat.number ≡ l.initial.seat.number;
  works : Works g.S.Subscriber.hears l.initial.seat.number l.initial.seat.seen l.seat.seen l.fn.subscriber l.subscriber;
}
