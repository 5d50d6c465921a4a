-- The bytes so far and those of the listings that are left, and that those so far fit.
use Rattle.std.proofs.Common.{◌≡◌, ◌+◌, ◌≤◌, drop, length, take}
use Rattle.deck_linker.specs.{Joins.InPieces.{DoFit, deck_text}, Publishing.listings}
use Rattle.deck_linker.proofs.measuring.measure_listings.Given as goal

abbrev pub invariant-loop-object : goal.invariant-loop-object
invariant-loop-object l = record {
  all : l.measure.all + length (listings (drop l.object-index l.objects)) ≡ l.fn.before.all + length (listings l.objects);
  most : l.fn.before.most ≤ l.measure.most;
  fit : DoFit deck_text l.measure.most (take l.object-index l.objects);
}
