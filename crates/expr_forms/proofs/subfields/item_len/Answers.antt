use Rattle.std.proofs.Common.{sym}
use Rattle.definitions.specs.Laws.ItemTexts.{span_as}
use Rattle.expr_forms.proofs.SubfieldLaws.{len-item}
use Rattle.expr_forms.proofs.subfields.item_len.Goals as goal

pub returns-in-Some-clause-len : goal.returns-in-Some-clause-len
returns-in-Some-clause-len c = len-item c.args.text.now (span_as c.in-Some.span) (sym c.in-Some.ensures.item) c.in-Some.ensures.some
