use Rattle.std.proofs.Common.{◌≡◌, map, take}
use Rattle.desk_core.specs.Desks.{deck_of}
use Rattle.desk_core.proofs.claiming.objects.Given as goal

abbrev pub invariant-loop-deck : goal.invariant-loop-deck
invariant-loop-deck l = l.objects.items ≡ map deck_of (take l.deck-index l.decks)
