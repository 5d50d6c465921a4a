use Rattle.std.proofs.Common.{◌≡◌, ◌≤◌, ◌-◌, length}
use Rattle.deck_files.proofs.LoadSteps.{IsLoaded}
use Rattle.deck_files.proofs.loading.load_summed.Given as goal

-- the lines so far show the cards, and the reader has not failed
abbrev pub invariant-loop-cards : goal.invariant-loop-cards
invariant-loop-cards g l = record {
  loaded : IsLoaded (g.R.Read.remaining l.fn.reader.0) (g.R.Read.remaining l.reader.0) l.cards.items l.summing;
  few : length l.cards.items ≤ 20000;
  sound : l.reader.1 ≡ l.fn.reader.1;
}

abbrev pub decreases-loop-cards : goal.decreases-loop-cards
decreases-loop-cards g l = 20000 - length l.cards.items
