use Rattle.std.{proofs.Common.{◌≡◌, ◌∙◌, List, false, ap, sym, subst}, specs.Prelude.reverse, specs.List.AllZip, proofs.lemmas.Result.on_ok_weaker}
use Rattle.definitions.{proofs.BlockLaws.object-blocks, specs.Lengths.BlockRow, specs.LinkValues.linking_of, specs.Objects.Object, specs.declared.deck_kind.DeckKind.DeckKind}
use Rattle.deck_objects.specs.Joins.CodedLines.{AreCoded}
use Rattle.deck_listing.specs.Joins.{BlockWords.{AreBlockWords, AreWordsOf}, Walking.DoNamesDiffer}
use Rattle.deck_linker.{specs.Joins.CommonWords.has_row, proofs.CommonSteps.{StoresNowhere, deck-none, deck-rows}, proofs.ElsewhereLaws.stored-nowhere}
use Rattle.deck_linker.proofs.common_words.put_deck.Goals.{After-has_common}
use Rattle.deck_linker.proofs.common_words.put_deck.Goals as goal

pub put_rows-requires-clause-names : goal.put_rows-requires-clause-names
put_rows-requires-clause-names c =
    let same = c.rows-rows.ensures ∙ c.parts.ensures.parts.1.rows ∙ ap (λ (object : Object). object.rows) (sym c.object.ensures) in
    subst DoNamesDiffer (sym same) (object-blocks c.object.result.now)

pub put_rows-requires-clause-words : goal.put_rows-requires-clause-words
put_rows-requires-clause-words c =
    let linking = linking_of c.args.layout.now c.args.based.now in
    let same = c.rows-rows.ensures ∙ c.parts.ensures.parts.1.rows in
    subst (λ rows. AllZip (AreWordsOf linking c.args.based.now.object) rows c.as_slice.result.now) (sym same)
    (subst (AreBlockWords linking c.args.based.now.object) (sym c.as_slice.ensures.value) (subst (λ object. AreBlockWords linking object c.in_ok-blocks.blocks.items) c.object.ensures c.in_ok-blocks.ensures.words))

-- what has no row is stored nowhere
nowhere : (c : After-has_common) → StoresNowhere c.args.layout.now c.args.based.now c.rows-rows.result.now
nowhere c = λ name none.
    let object = c.args.based.now.object in
    let parts = c.parts.result.now in
    let facts = c.parts.ensures.parts.1 in
    let Coded : DeckKind → Type 0 = λ kind. AreCoded kind parts.bases parts.fields parts.lines.items (reverse object.coded) in
    stored-nowhere object.kind (linking_of c.args.layout.now c.args.based.now) name parts.bases parts.fields parts.lines.items object.coded (subst (λ (rs : List BlockRow). has_row name rs ≡ false) c.rows-rows.ensures none) (subst Coded facts.kind facts.coded)

pub returns-then-not-has_common : goal.returns-then-not-has_common
returns-then-not-has_common c =
    deck-none c.args.layout.now c.args.based.now c.rows-rows.result.now c.args.lists.now.items (nowhere (goal.at.returns-then-not-has_common c).After-has_common) (sym c.has_common.ensures ∙ c.if-not-has_common.true) c.requires.lists

pub returns : goal.returns
returns c =
    on_ok_weaker c.put_rows.result (deck-rows c.args.layout.now c.args.based.now c.rows-rows.result.now c.args.lists.now.items c.put_rows.new.lists.items (nowhere (goal.at.returns c).After-has_common)) c.put_rows.ensures
