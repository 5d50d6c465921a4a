use Rattle.std.{proofs.Common.{◌≡◌, ◌++◌, List, take}, specs.List.AllZip}
use Rattle.definitions.specs.{Cards.Card, Objects.Object, Words.Linking}
use Rattle.deck_objects.specs.Joins.PartsOf.{ArePartsOf}
use Rattle.deck_listing.specs.Joins.{BlockWords.AreWordsOf, ImageWordLines.{lines_of, rows_words}}
use Rattle.deck_listing.proofs.section_words.push_blocks.Given as goal

abbrev pub invariant-loop-index : goal.invariant-loop-index
invariant-loop-index l = (linking : Linking) (cards : List Card) (object : Object) → ArePartsOf cards l.parts object → AllZip (AreWordsOf linking object) l.rows l.blocks →
    l.text ≡ l.initial.text ++ lines_of object.kind (rows_words linking object l.base (take l.index l.rows))
