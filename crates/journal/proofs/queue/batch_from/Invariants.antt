use Rattle.journal.specs.Queues.{GoOut}
use Rattle.journal.proofs.queue.batch_from.Given as goal

-- what goes out so far, up to this version
abbrev pub invariant-loop-version : goal.invariant-loop-version
invariant-loop-version l = GoOut l.places l.first l.drafts.items l.text l.version
