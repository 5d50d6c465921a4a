use Rattle.std.{proofs.Common.take, specs.List.AllZip}
use Rattle.deck_linker.specs.Joins.InPieces.{AreDeckWords}
use Rattle.deck_linker.proofs.linked_decks.words_of_decks.Given as goal

abbrev pub invariant-loop-based : goal.invariant-loop-based
invariant-loop-based l = AllZip (AreDeckWords l.layout) (take l.based-index l.decks) l.words.items
