use Rattle.expr_forms.proofs.SubfieldLaws.{len-unmarked}
use Rattle.expr_forms.proofs.subfields.unmarked_len.Goals as goal

pub returns-clause-len : goal.returns-clause-len
returns-clause-len c =
    len-unmarked c.args.text.now c.split_at.result.1.now c.item_len-taken.result c.run_len.result c.item_len-taken.ensures.len c.split_at.ensures.back c.run_len.ensures.len
