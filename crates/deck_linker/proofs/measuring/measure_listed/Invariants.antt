-- The bytes so far and those of the listings that are left, and that those so far fit.
use Rattle.std.proofs.Common.{◌≡◌, ◌+◌, drop, length, take}
use Rattle.deck_linker.specs.{Joins.InPieces.{DoFit, deck_text}, Publishing.listings}
use Rattle.deck_linker.proofs.measuring.measure_listed.Given as goal

abbrev pub invariant-loop-object : goal.invariant-loop-object
invariant-loop-object l = record {
  all : l.measure.all + length (listings (drop l.object-index l.objects)) ≡ length (listings l.objects);
  fit : DoFit deck_text l.measure.most (take l.object-index l.objects);
}
