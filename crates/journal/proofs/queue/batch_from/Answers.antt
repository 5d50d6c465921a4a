use Rattle.std.proofs.Common.{sym, subst}
use Rattle.journal.{specs.Queues.{Batch, InOrder}, proofs.QueueSteps.{GoOut-start, GoOut-more, GoOut-same}, proofs.QueueOrder.in-order, proofs.FileSteps.run-out}
use Rattle.journal.proofs.queue.batch_from.Goals as goal

pub loop-version-init : goal.loop-version-init
loop-version-init c = GoOut-start _ _ _ _ c.new-drafts.ensures.items c.new-text.ensures

pub loop-version-preserved : goal.loop-version-preserved
loop-version-preserved c =
    GoOut-more _ _ _ _ _ _ _ _ c.loop-version.invariant (sym c.in-Some.ensures) c.in_ok-take_record.ensures.text c.in_ok-take_record.ensures.drafts

pub new-requires : goal.new-requires
new-requires c = run-out _ _ _ _ _ (GoOut-same _ _ _ _ _ _ c.loop-version.invariant c.in_ok-finish.ensures.text)

pub returns-in_default-clause-order : goal.returns-in_default-clause-order
returns-in_default-clause-order c =
    subst (λ (batch : Batch). InOrder c.args.places.now c.args.first batch.drafts batch.text batch.next) (sym c.new.ensures)
    (in-order _ _ _ _ _ (GoOut-same _ _ _ _ _ _ c.loop-version.invariant c.in_ok-finish.ensures.text) (sym c.in_default.ensures))
