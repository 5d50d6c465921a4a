use Rattle.std.proofs.Common.{◌∙◌, ap, sym, length, arith}
use Rattle.cards.proofs.ColumnSteps.{lawful-read}
use Rattle.cards.proofs.card.Card.read.Goals as goal

pub returns-then-is_lawful : goal.returns-then-is_lawful
returns-then-is_lawful c =
    let same = ap length c.of_columns-card.ensures in
    let few = c.if-columns-gt-COLUMNS.false in
    lawful-read c.args.line.now c.of_columns-card.result (c.of_columns-card.ensures ∙ c.split_at.ensures.front ∙ c.trimmed_len.ensures.kept)
    (omega (arith, same, few)) (sym c.if-is_lawful.ensures)
