use Rattle.std.proofs.{Common.{◌≤◌, ◌<◌, ◌+◌, map, arith}, lemmas.Nat.mod_below}
use Rattle.expr_forms.specs.Joins.Readings.{bit_field_as}
use Rattle.statement_coder.{specs.Joins.Items.{deck_with, item_as}, proofs.ListLaws.kept-trans, proofs.DatumLaws.{word_bits-some, word_bits-few}, proofs.BitLaws.one_field_more}
use Rattle.statement_coder.proofs.data_items.push_bits.Goals as goal

pub fields-preserved : goal.fields-preserved
fields-preserved g c =
    let kind = c.args.kind in
    let word = c.word_bits.result in
    let some : 0 < word = let s = word_bits-some kind in rw c.word_bits.ensures s in
    let most : word ≤ 60 = let s = word_bits-few kind in rw c.word_bits.ensures s in
    record {
      kept = kept-trans c.args.list.now.items c.fields.list.items c.push-in-Some.new.list.items c.fields.invariant.kept c.push-in-Some.ensures.kept;
      few = omega (arith, mod_below (c.fields.filled + c.from-width.result) word some);
      told = λ settled literals statement seen.
          one_field_more (deck_with kind (g.B.BlockBases.rows c.args.bases.now) settled literals) statement
          (map item_as c.fields.list.items) (map item_as c.push-in-Some.new.list.items) _ (item_as c.bit_field_item-item.result) word c.from-width.result c.fields.filled (bit_field_as c.in-Some.field)
          c.fields.rest c.next.new.self c.word_bits.ensures c.from-width.ensures c.in-Some.ensures.some
          (c.bit_field_item-item.ensures settled literals statement seen) c.in_ok-push-in-Some.ensures.pushed (c.fields.invariant.told settled literals statement seen);
    }
