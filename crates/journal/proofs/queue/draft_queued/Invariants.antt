use Rattle.std.proofs.Common.{◌≡◌, drop}
use Rattle.journal.specs.Queues.{draft_queued}
use Rattle.journal.proofs.queue.draft_queued.Given as goal

-- the record of the version is among the places that are left, if it is among all
abbrev pub invariant-loop-place : goal.invariant-loop-place
invariant-loop-place l = draft_queued l.version (drop l.place-index l.places) ≡ draft_queued l.version l.places
