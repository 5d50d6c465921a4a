use Rattle.std.{proofs.Common.{ℕ, List, Option, sym, subst}, specs.Prelude.{IfSome}}
use Rattle.journal.{specs.Queues.{Batch, GoOut}, specs.RecordTexts.{IsLong}, proofs.{QueueSteps.{GoOut-one}, FileSteps.run-out, RecordSizes.{large-long, on-err}}}
use Rattle.journal.proofs.queue.batch_of.Goals as goal

pub new-requires : goal.new-requires
new-requires c =
    run-out c.args.places.now _ _ _ _
    (GoOut-one c.args.places.now c.args.version _ _ _ _ _ _ c.new-drafts.ensures.items c.new-text.ensures (sym c.in-Some.ensures) c.in_ok-take_record.ensures.text c.in_ok-take_record.ensures.drafts c.in_ok-finish.ensures.text)

pub returns-clause-out : goal.returns-clause-out
returns-clause-out c =
    subst (λ (batch : Batch). GoOut c.args.places.now c.args.version batch.drafts batch.text batch.next) (sym c.new.ensures)
    (GoOut-one c.args.places.now c.args.version _ _ _ _ _ _ c.new-drafts.ensures.items c.new-text.ensures (sym c.in-Some.ensures) c.in_ok-take_record.ensures.text c.in_ok-take_record.ensures.drafts c.in_ok-finish.ensures.text)

-- what is large with its version and its check sum is long without
pub returns-in_err-finish-clause-memory : goal.returns-in_err-finish-clause-memory
returns-in_err-finish-clause-memory c =
    on-err c.from_residual-in_err-finish.result _
    (subst (λ (found : Option (List ℕ)). IfSome found (λ draft. IsLong draft)) c.in-Some.ensures
    (large-long c.args.version _ _ _ c.requires c.new-text.ensures c.in_ok-take_record.ensures.text c.in_err-finish.ensures.large))
