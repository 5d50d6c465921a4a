use Rattle.std.proofs.{Common.{◌∙◌, ◌≤◌, List, [], ◌∷◌, ◌++◌, length, map, ap, sym, subst}, lemmas.Result.on_ok_weaker}
use Rattle.definitions.specs.{CountedItems.CountedItem, Kinds.word_bits, Operands.{Datum, CountedItemWords}, StatementItems.{Item, datum_item, expression_item}}
use Rattle.expr_forms.specs.Joins.Readings.{datum_as}
use Rattle.statement_coder.{specs.Joins.Items.{deck_with, item_as}, specs.Joins.WordItems.in_words, proofs.DatumLaws.{item-words, expression-word}}
use Rattle.statement_coder.proofs.data_items.push_datum.Goals as goal

pub returns-in-Item-clause-pushed : goal.returns-in-Item-clause-pushed
returns-in-Item-clause-pushed g c =
    let kind = c.args.kind in
    let item = c.of_text.result in
    let some : 1 ≤ length item.characters = subst (λ (it : CountedItem). 1 ≤ length it.characters) (sym c.of_text.ensures) c.in-Item.item.some in
    on_ok_weaker c.push_item.result (λ pushed settled literals statement seen.
    let context = deck_with kind (g.B.BlockBases.rows c.args.bases.now) settled literals in
    pushed
    ∙ ap (λ (fields : List Item). map item_as c.args.list.now.items ++ fields)
    (sym (item-words kind item some)
    ∙ ap (λ (it : CountedItem). in_words (word_bits kind) (datum_item context statement (CountedItemWords it))) c.of_text.ensures
    ∙ ap (λ (datum : Datum). in_words (word_bits kind) (datum_item context statement datum)) (sym (ap datum_as c.in-Item.is)))
    ) c.push_item.ensures.pushed

pub returns-in-Expression-clause-pushed : goal.returns-in-Expression-clause-pushed
returns-in-Expression-clause-pushed g c =
    let kind = c.args.kind in
    let word = word_bits kind in
    let e = c.in-Expression.expression in
    on_ok_weaker c.push-in-Expression.result (λ pushed settled literals statement seen.
    let context = deck_with kind (g.B.BlockBases.rows c.args.bases.now) settled literals in
    pushed
    ∙ ap (λ (fields : List Item). map item_as c.args.list.now.items ++ fields)
    (ap (λ (field : Item). field ∷ []) (c.expression_item.ensures settled literals statement seen ∙ ap (λ w. expression_item context statement w e) c.word_bits-word.ensures)
    ∙ sym (expression-word context statement word e)
    ∙ ap (λ (datum : Datum). in_words word (datum_item context statement datum)) (sym (ap datum_as c.in-Expression.is)))
    ) c.push-in-Expression.ensures.pushed
