use Rattle.std.proofs.Common.{◌∙◌, List, [], ◌∷◌, ◌++◌, ap, map, sym}
use Rattle.definitions.specs.{Expressions.NoSign, Kinds.word_bits, Operands.NumberWord, StatementItems.{Item, number_item}}
use Rattle.expr_forms.specs.Joins.{Numbers.number_as, Readings.datum_as}
use Rattle.statement_coder.{specs.Joins.Items.{deck_with, item_as}, proofs.ListLaws.kept-trans, proofs.DatumLaws.{number-word, one_datum_more, no_datum_more}}
use Rattle.statement_coder.proofs.data_items.push_data.Goals as goal

pub words-preserved-in-Continue-1 : goal.words-preserved-in-Continue-1
words-preserved-in-Continue-1 g c =
    let number = number_as c.in-Some.number in
    record {
      kept = kept-trans c.args.list.now.items c.words.list.items c.push.new.list.items c.words.invariant.kept c.push.ensures.kept;
      told = λ settled literals statement seen.
          one_datum_more (deck_with c.args.kind (g.B.BlockBases.rows c.args.bases.now) settled literals) statement (word_bits c.args.kind)
          (map item_as c.words.list.items) (map item_as c.push.new.list.items) _ (NumberWord NoSign number) c.words.rest c.next_number.new.self
          c.in-Some.ensures.some
          (c.in_ok-push-in-Some.ensures.pushed
          ∙ ap (λ (fields : List Item). map item_as c.words.list.items ++ fields)
          (ap (λ (field : Item). field ∷ []) (c.number_item.ensures ∙ ap (λ w. number_item w NoSign number) c.word_bits.ensures)
          ∙ sym (number-word (word_bits c.args.kind) NoSign number)))
          (c.words.invariant.told settled literals statement seen);
    }

pub words-preserved : goal.words-preserved
words-preserved g c = record {
  kept = kept-trans c.args.list.now.items c.words.list.items c.push_datum.new.list.items c.words.invariant.kept c.push_datum.ensures.kept;
  told = λ settled literals statement seen.
      one_datum_more (deck_with c.args.kind (g.B.BlockBases.rows c.args.bases.now) settled literals) statement (word_bits c.args.kind)
      (map item_as c.words.list.items) (map item_as c.push_datum.new.list.items) _ (datum_as c.in-Some-next.datum) c.words.rest c.next.new.self
      (sym (c.copied-behind.ensures ∙ c.in-None.ensures.none) ∙ c.in-Some-next.ensures.some) (c.in_ok-push_datum-in-Some-next.ensures.pushed settled literals statement seen)
      (c.words.invariant.told settled literals statement seen);
}

pub returns-in-None-next-clause-pushed : goal.returns-in-None-next-clause-pushed
returns-in-None-next-clause-pushed g c =
    λ settled literals statement seen.
    no_datum_more (deck_with c.args.kind (g.B.BlockBases.rows c.args.bases.now) settled literals) statement (word_bits c.args.kind)
    (map item_as c.words.list.items) _ c.words.rest (sym (c.copied-behind.ensures ∙ c.in-None.ensures.none) ∙ c.in-None-next.ensures.none.0)
    (c.words.invariant.told settled literals statement seen)
