-- The decks so far, and behind them those of the objects that are left.
use Rattle.std.{proofs.Common.{◌≡◌, ◌≤◌, ◌++◌, map}, specs.Vec.Iter.into_iter_items}
use Rattle.definitions.specs.{Layout.{based_from, end_of_decks, first_base}, Objects.object_of}
use Rattle.deck_linker.proofs.layout.place_decks.Given as goal

abbrev pub invariant-loop-object : goal.invariant-loop-object
invariant-loop-object l = record {
  decks : l.decks.items ++ based_from l.end (map object_of (into_iter_items l.object-iterator)) ≡ based_from first_base (map object_of l.fn.objects.items);
  end : end_of_decks l.end (map object_of (into_iter_items l.object-iterator)) ≡ end_of_decks first_base (map object_of l.fn.objects.items);
  within : l.end ≤ 0o400000;
}
