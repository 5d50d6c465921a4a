use Rattle.std.proofs.Common.{◌≡◌, ◌≤◌, ◌+◌, drop}
use Rattle.cards.specs.Carrying.{place_after, seen_before}
use Rattle.cards.proofs.carrying.place_after.Given as goal

-- where the card stands that is at this place, and how far it has come
abbrev pub invariant-loop-one : goal.invariant-loop-one
invariant-loop-one l = record {
  found : seen_before l.made l.card ≡ place_after l.card l.place (drop l.one-index l.made);
  near : l.place ≤ l.card + l.one-index;
}
