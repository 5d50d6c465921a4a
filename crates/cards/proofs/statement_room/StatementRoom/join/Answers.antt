use Rattle.std.proofs.{Common.{◌∙◌, [], ◌∷◌, ap, refl, drop, length, length-append, arith}, lemmas.List.get_or_read}
use Rattle.cards.proofs.ColumnLaws.{comma_columns, length-padded, text_of-first, flat_map-next}
use Rattle.cards.proofs.statement_room.StatementRoom.join.Goals as goal

pub append-requires : goal.append-requires
append-requires c = omega (arith, ap length c.clear.ensures, ap length c.read_columns.ensures, length-padded 72 c.args.first.now)

pub loop-card-init : goal.loop-card-init
loop-card-init c = record {
  split = text_of-first (c.args.first.now ∷ c.args.others.now) c.args.others.now c.args.first.now c.append.new.self c.clear.new.self c.read_columns.result.now
      refl c.clear.ensures c.read_columns.ensures c.append.ensures.text;
  long = omega (
    arith,
    ap length c.append.ensures.text,
    length-append c.clear.new.self c.read_columns.result.now,
    ap length c.clear.ensures,
    ap length c.read_columns.ensures,
    length-padded 72 c.args.first.now,
  );
}

pub append-requires-in-loop-card : goal.append-requires-in-loop-card
append-requires-in-loop-card c =
    omega (
      arith,
      c.split_at.ensures.back_len,
      ap length c.read_columns-in-loop-card.ensures,
      length-padded 72 c.card-item.result,
      c.requires,
    )

pub loop-card-preserved : goal.loop-card-preserved
loop-card-preserved c = record {
  split = flat_map-next c.loop-card.self-inside.text c.append-in-loop-card.new.self c.split_at.result.1.now _ c.args.others.now c.loop-card.card-index
      c.loop-card-test.true c.append-in-loop-card.ensures.text
      (
      c.split_at.ensures.back
      ∙ ap (drop 1) c.read_columns-in-loop-card.ensures
      ∙ ap comma_columns (get_or_read c.args.others.now _ _ c.loop-card-test.true c.card-item.is [])
      )
      c.loop-card.invariant.split;
  long = omega (
    arith,
    c.split_at.ensures.back_len,
    ap length c.read_columns-in-loop-card.ensures,
    length-padded 72 c.card-item.result,
    ap length c.append-in-loop-card.ensures.text,
    length-append c.loop-card.self-inside.text c.split_at.result.1.now,
  );
}
