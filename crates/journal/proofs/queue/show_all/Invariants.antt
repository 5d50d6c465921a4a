use Rattle.std.proofs.Common.{◌≡◌, ◌+◌, List, ◌++◌, ℕ, length}
use Rattle.journal.specs.Queues.{all_shown}
use Rattle.journal.proofs.queue.show_all.Given as goal

-- what is left is in front of what was shown, and with it all is shown
abbrev pub invariant-loop-draft : goal.invariant-loop-draft
invariant-loop-draft g l = record {
  version : l.version ≡ l.fn.kept.from + length l.drafts.items;
  left : (gone : List (List ℕ)) × (l.fn.kept.drafts ≡ l.drafts.items ++ gone);
  all : all_shown l.places l.fn.kept.from l.drafts.items l.shown.items ≡ all_shown l.places l.fn.kept.from l.fn.kept.drafts l.fn.shown.items;
}

abbrev pub decreases-loop-draft : goal.decreases-loop-draft
decreases-loop-draft g l = length l.drafts.items
