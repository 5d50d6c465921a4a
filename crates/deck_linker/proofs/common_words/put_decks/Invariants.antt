use Rattle.std.proofs.Common.{take}
use Rattle.deck_linker.specs.Joins.CommonWords.{AreMade, over_decks}
use Rattle.deck_linker.proofs.common_words.put_decks.Given as goal

abbrev pub invariant-loop-based : goal.invariant-loop-based
invariant-loop-based l = AreMade l.layout.commons (λ name words. over_decks l.layout name (take l.based-index l.decks) words) l.initial.lists.items l.lists.items
