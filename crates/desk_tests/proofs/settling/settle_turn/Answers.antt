use Rattle.std.proofs.Common.{Option, refl, sym, ◌∙◌, subst, arith}
use Rattle.deck_workers.specs.{declared.jobs.Job.Job, Jobs.{if_made, CountsWithin}, Rounds.{Resting, Working}}
use Rattle.desk_tests.specs.Settling.{bound_if_given, least_if_given}
use Rattle.desk_tests.proofs.settling.settle_turn.Goals as goal

-- the claim gave no job
pub returns-in-None : goal.returns-in-None
returns-in-None c = record {
  round = Resting c.step-claimed.result;
  is_round = sym c.job_in.ensures ∙ c.in-None.is;
  end_is = sym c.end_of_claim-end.ensures;
  leads = (c.step-claimed.new.self, c.step-claimed.ensures, refl);
  counts = record {
    few = record { sized_rises = omega arith; sized_few = omega arith; coded_rises = omega arith; coded_few = omega arith };
    sized_all = λ room. omega arith;
    coded_all = λ room. omega arith;
  };
}

-- it gave one, which is ended
pub returns-in-Some : goal.returns-in-Some
returns-in-Some c = record {
  round = Working c.step-claimed.result c.run.result c.end_job.ensures.0;
  is_round = (c.in-Some.job, sym c.job_in.ensures ∙ c.in-Some.is, c.run.ensures.made);
  end_is = sym c.end_job.ensures.2;
  leads = (c.step-claimed.new.self, c.step-claimed.ensures, (c.end_job.new.desk, c.end_job.ensures.1, refl));
  counts = subst (λ (given : Option Job). CountsWithin (if_made c.run.result (least_if_given given)) (bound_if_given given) c.args.meter.now c.run.new.meter) (sym c.in-Some.is ∙ c.job_in.ensures) c.run.ensures.meter;
}
