use Rattle.std.proofs.Common.{◌≡◌, ◌≤◌, ◌+◌, drop, length}
use Rattle.deck_listing.specs.Joins.LinesBehind.{begun_in}
use Rattle.deck_listing.proofs.decks_behind.begun_in.Given as goal

-- those so far, and those among the statements that are left, are all
abbrev pub invariant-loop-shown : goal.invariant-loop-shown
invariant-loop-shown l = record {
  counted : l.count + begun_in l.ahead (drop l.shown-index l.lines) ≡ begun_in l.cards l.lines;
  few : l.count + length l.ahead ≤ length l.cards;
}
