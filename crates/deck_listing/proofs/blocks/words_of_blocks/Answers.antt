use Rattle.std.proofs.{Common.{sym, subst}, lemmas.Result.IfOk-weaker, lemmas.Slice.Zip.AllZip-long}
use Rattle.definitions.{specs.Objects.object_of, proofs.BlockLaws.object-blocks}
use Rattle.deck_listing.specs.Joins.{BlockWords.AreWordsOf, Walking.DoNamesDiffer}
use Rattle.deck_listing.proofs.blocks.words_of_blocks.Goals as goal

pub words_of_parts-requires-clause-names : goal.words_of_parts-requires-clause-names
words_of_parts-requires-clause-names g c = subst DoNamesDiffer (sym c.parts.ensures.rows) (object-blocks c.args.object.now)

pub returns-clause-words : goal.returns-clause-words
returns-clause-words g c = IfOk-weaker c.words_of_parts.result _ _ (λ blocks words. words c.args.object.now.cards (object_of c.args.object.now) c.parts.ensures) c.words_of_parts.ensures

pub returns-clause-each : goal.returns-clause-each
returns-clause-each g c =
    let object = object_of c.args.object.now in
    let words_of = AreWordsOf (g.L.Linking.linking c.args.linking.now) object in
    IfOk-weaker c.words_of_parts.result _ _ (λ blocks words. AllZip-long words_of object.rows blocks.items (words c.args.object.now.cards object c.parts.ensures)) c.words_of_parts.ensures
