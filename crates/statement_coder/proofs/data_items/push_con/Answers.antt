use Rattle.std.proofs.Common.{map}
use Rattle.definitions.specs.Kinds.{word_bits}
use Rattle.expr_forms.specs.Joins.Readings.{datum_as}
use Rattle.statement_coder.{specs.Joins.Items.{deck_with, item_as}, proofs.ListLaws.kept-trans, proofs.DatumLaws.{one_datum_more, no_datum_more}}
use Rattle.statement_coder.proofs.data_items.push_con.Goals as goal

pub words-preserved : goal.words-preserved
words-preserved g c = record {
  kept = kept-trans c.args.list.now.items c.words.list.items c.push_datum.new.list.items c.words.invariant.kept c.push_datum.ensures.kept;
  told = λ settled literals statement seen.
      one_datum_more (deck_with c.args.kind (g.B.BlockBases.rows c.args.bases.now) settled literals) statement (word_bits c.args.kind)
      (map item_as c.words.list.items) (map item_as c.push_datum.new.list.items) _ (datum_as c.in-Some.datum) c.words.rest c.next.new.self
      c.in-Some.ensures.some (c.in_ok-push_datum-in-Some.ensures.pushed settled literals statement seen) (c.words.invariant.told settled literals statement seen);
}

pub returns-in-None-clause-pushed : goal.returns-in-None-clause-pushed
returns-in-None-clause-pushed g c =
    λ settled literals statement seen.
    no_datum_more (deck_with c.args.kind (g.B.BlockBases.rows c.args.bases.now) settled literals) statement (word_bits c.args.kind)
    (map item_as c.words.list.items) _ c.words.rest c.in-None.ensures.none.0 (c.words.invariant.told settled literals statement seen)
