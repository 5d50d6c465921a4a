use Rattle.std.proofs.Common.{◌≡◌, ◌&&◌, drop}
use Rattle.desk_core.specs.Delivering.{same_cards}
use Rattle.desk_core.proofs.comparing.both_same_cards.Given as goal

abbrev pub invariant-loop-place : goal.invariant-loop-place
invariant-loop-place l = (same_cards l.cards l.these && same_cards l.others l.these) ≡ (same_cards (drop l.place l.cards) (drop l.place l.these) && same_cards (drop l.place l.others) (drop l.place l.these))
