use Rattle.deck_linker.specs.Joins.CommonWords.{AreNone}
use Rattle.deck_linker.proofs.common_words.no_words.Given as goal

abbrev pub invariant-loop : goal.invariant-loop
invariant-loop l = AreNone l.counter l.lists.items
