use Rattle.std.proofs.Common.{◌≡◌, ◌≤◌, length, take}
use Rattle.session_line.specs.Views.{numbers_of}
use Rattle.session_line.proofs.views.count_with.Given as goal

-- so many of the cards so far have the text
abbrev pub invariant-loop-card : goal.invariant-loop-card
invariant-loop-card l = record {
  counted : l.count ≡ length (numbers_of l.text (take l.card-index l.cards));
  few : l.count ≤ l.card-index;
}
