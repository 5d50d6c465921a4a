use Rattle.std.proofs.Common.{◌≡◌, ◌+◌, ◌++◌, drop}
use Rattle.definitions.specs.Listing.{card_lines}
use Rattle.deck_listing.proofs.lines.push_card_lines.Given as goal

-- the lines so far and those of the cards that are left are those of all
abbrev pub invariant-loop-card : goal.invariant-loop-card
invariant-loop-card l = record {
  next : l.next ≡ l.fn.next + l.card-index;
  text : l.text ++ card_lines (l.fn.next + l.card-index) (drop l.card-index l.cards) ≡ l.fn.text ++ card_lines l.fn.next l.cards;
}
