use Rattle.std.proofs.Common.{◌≡◌, drop, map}
use Rattle.desk_core.specs.{Desks.deck_of, Delivering.same_decks}
use Rattle.desk_core.proofs.comparing.all_decks_same.Given as goal

abbrev pub invariant-loop-place : goal.invariant-loop-place
invariant-loop-place l = same_decks l.objects (map deck_of l.decks) ≡ same_decks (drop l.place l.objects) (map deck_of (drop l.place l.decks))
