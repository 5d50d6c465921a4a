use Rattle.std.proofs.Common.{[], ◌∷◌, subst}
use Rattle.turn_office.specs.Histories.{entry}
use Rattle.desk_core.specs.declared.calls.Call.{Call}
use Rattle.deck_workers.{specs.Working.Calls, proofs.Seen.one-call}
use Rattle.deck_workers.proofs.working.end_job.Goals as goal

-- the job was ended by one call
pub returns-clause-called : goal.returns-clause-called
returns-clause-called g c =
    subst (λ (call : Call). Calls c.args.seat.now.number (entry c.args.seat.now.number call c.call-answered.result ∷ []) c.args.seat.now.seen c.call-answered.new.self.seen) c.into_call.ensures
    (one-call _ _ _ _ _ _ _ c.call-answered.ensures.history)
