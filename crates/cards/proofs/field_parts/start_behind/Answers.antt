use Rattle.std.{proofs.Common.{◌∙◌, ◌+◌, ◌==◌, ap, drop, arith}, specs.List.prefix_len}
use Rattle.definitions.specs.{Characters.blank, Fields.without_blanks}
use Rattle.cards.proofs.PartLaws.{behind_blanks, in_time-early, in_time-late}
use Rattle.cards.proofs.field_parts.start_behind.Goals as goal

pub returns-then-start-lt-FIELDS_BEGIN_BEFORE-clause-start : goal.returns-then-start-lt-FIELDS_BEGIN_BEFORE-clause-start
returns-then-start-lt-FIELDS_BEGIN_BEFORE-clause-start c =
    in_time-early c.args.text.now (c.args.end + c.blanks_len.result) (without_blanks (drop c.args.end c.args.text.now)) (omega arith) (omega arith)
    (behind_blanks c.args.text.now c.args.end c.blanks_len.result
    (c.blanks_len.ensures.len ∙ ap (prefix_len (λ c. c == blank)) c.split_at.ensures.back))

pub returns-else-start-lt-FIELDS_BEGIN_BEFORE-clause-start : goal.returns-else-start-lt-FIELDS_BEGIN_BEFORE-clause-start
returns-else-start-lt-FIELDS_BEGIN_BEFORE-clause-start c =
    in_time-late c.args.text.now (c.args.end + c.blanks_len.result) (without_blanks (drop c.args.end c.args.text.now)) (omega arith) (omega arith)
    (behind_blanks c.args.text.now c.args.end c.blanks_len.result
    (c.blanks_len.ensures.len ∙ ap (prefix_len (λ c. c == blank)) c.split_at.ensures.back))
