use Rattle.std.proofs.Common.{◌≡◌, length}
use Rattle.cards.{specs.Carrying.{seen_before, carried}, specs.Joins.CarrySteps.AreNear, proofs.CarrySteps.so_far}
use Rattle.cards.proofs.carrying.carried_places.Given as goal

-- what is carried so far and what is left is the whole
abbrev pub invariant-loop-count : goal.invariant-loop-count
invariant-loop-count l = record {
  sized : length l.places ≡ 100;
  whole : carried (seen_before l.made) l.edits ≡ so_far l.edits l.places (seen_before l.made) l.count;
  near : AreNear l.count (length l.made) l.places;
}
