use Rattle.std.proofs.Common.{sym, drop}
use Rattle.cards.proofs.ReadingLaws.{variable-other}
use Rattle.cards.proofs.field_parts.variable_at.Goals as goal

pub returns-else-is_dis-clause-field : goal.returns-else-is_dis-clause-field
returns-else-is_dis-clause-field c =
    variable-other c.args.operation.now (drop c.args.start c.args.text.now) c.split_at.result.1.now c.variable_len.result
    (sym c.if-is_dis.ensures) c.split_at.ensures.back c.variable_len.ensures.len
