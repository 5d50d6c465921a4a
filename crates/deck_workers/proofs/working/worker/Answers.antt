use Rattle.std.proofs.Common.{refl, ◌∙◌}
use Rattle.deck_workers.proofs.Seen.{no-calls, more-work}
use Rattle.deck_workers.proofs.working.worker.Goals as goal

pub loop-init : goal.loop-init
loop-init g c = record { office = refl; number = refl; works = no-calls g.S.Subscriber.hears c.args.seat.number c.args.seat.seen c.args.subscriber.now }

pub loop-preserved : goal.loop-preserved
loop-preserved g c =
    let round = c.make_round-round.ensures in
    record {
      office = round.same.0 ∙ c.loop.invariant.office;
      number = round.same.1 ∙ c.loop.invariant.number;
      works = more-work g.S.Subscriber.hears c.args.seat.number c.loop.seat.number c.args.seat.seen c.loop.seat.seen c.make_round-round.new.seat.seen
          c.args.subscriber.now c.loop.subscriber c.make_round-round.new.subscriber c.loop.invariant.number c.loop.invariant.works round.round.0;
    }

pub returns-then-not-goes_on-clause-works : goal.returns-then-not-goes_on-clause-works
returns-then-not-goes_on-clause-works g c =
    more-work g.S.Subscriber.hears c.args.seat.number c.loop.seat.number c.args.seat.seen c.loop.seat.seen c.make_round-round.new.seat.seen
    c.args.subscriber.now c.loop.subscriber c.make_round-round.new.subscriber c.loop.invariant.number c.loop.invariant.works c.make_round-round.ensures.round.0
