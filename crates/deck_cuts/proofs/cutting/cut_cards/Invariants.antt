use Rattle.std.proofs.Common.{◌≡◌, reverse, take}
use Rattle.definitions.specs.DeckInput.{Decks}
use Rattle.deck_cuts.specs.Cuts.{input_of_cards, newest_first}
use Rattle.deck_cuts.proofs.cutting.cut_cards.Given as goal

-- the cards so far are the decks so far
abbrev pub invariant-loop-place : goal.invariant-loop-place
invariant-loop-place l = input_of_cards (reverse (take l.place l.cards)) ≡ Decks (newest_first l.decks.items)
