use Rattle.std.proofs.Common.{refl, sym, ap, subst, Bool, Option, ℕ, ◌∙◌}
use Rattle.deck_workers.{specs.Joins.Rests.{round_with_job, round_without_job, went_well}, specs.Rounds.Resting, specs.Subscribers.HearsAfter, proofs.Seen.{one-call, worked-round}}
use Rattle.deck_workers.proofs.working.make_round.Goals as goal

-- the claim gave no job
pub returns-in-None-clause-round : goal.returns-in-None-clause-round
returns-in-None-clause-round g c = (
  record {
    round = Resting c.call-reply.result;
    is_round = sym c.job_in.ensures ∙ c.in-None.is;
    made = one-call _ _ _ _ _ _ _ c.call-reply.ensures.history;
    heard = refl;
  },
  c.without_job.ensures ∙ ap round_without_job c.is_refused-is_refused.ensures,
)

-- it gave one, which was delivered, or given up
pub returns-in-Some-clause-round : goal.returns-in-Some-clause-round
returns-in-Some-clause-round g c =
    let P : Option ℕ → Type 0 = λ (published : Option ℕ). HearsAfter g.S.Subscriber.hears c.end_job-answered.result published c.args.subscriber.now c.tell_after.new.subscriber in
    let both = worked-round g.S.Subscriber.hears c.args.seat.now.number c.call-reply.new.self.number c.call-reply.result c.end_job-answered.result c.in-Some.job c.run-made.result c.args.seat.now.seen c.call-reply.new.self.seen c.end_job-answered.new.seat.seen
    c.args.subscriber.now c.tell_after.new.subscriber c.call-reply.ensures.same.1 (sym c.job_in.ensures ∙ c.in-Some.is) c.run-made.ensures (one-call _ _ _ _ _ _ _ c.call-reply.ensures.history) c.end_job-answered.ensures.called
    (subst P c.published-published.ensures c.tell_after.ensures) in
    let well = c.went_well-is_well.ensures ∙ ap (λ (made : Bool). went_well made c.end_job-answered.result) c.is_result-is_result.ensures in
    (both.0, c.with_job.ensures ∙ ap round_with_job well ∙ sym both.1)
