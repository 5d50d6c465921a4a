use Rattle.std.proofs.Common.{◌≡◌, All, None, length}
use Rattle.journal.proofs.queue.Queue.new.Given as goal

-- as many places as were pushed, and no record at any of them
abbrev pub invariant-loop : goal.invariant-loop
invariant-loop g l = record {
  all : length l.places.items ≡ l.counter;
  empty : All (λ place. place ≡ None) l.places.items;
  shown : length l.shown.items ≡ l.counter;
}
