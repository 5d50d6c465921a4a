use Rattle.std.proofs.{Common.arith, lemmas.Bool.leb-true}
use Rattle.edit_core.proofs.NearLaws.{touched-all}
use Rattle.edit_core.proofs.near.lie_near.Goals as goal

pub returns : goal.returns
returns c = λ few.
    let between = touched-all c.args.first.now c.args.others.now c.loop-edit.edit-index c.args.count c.loop-edit.between c.loop-edit.touched.before c.loop-edit.touched.behind c.loop-edit.touched.count
    (omega (arith, c.loop-edit-test.false)) c.loop-edit.invariant in
    let most = leb-true c.loop-edit.between c.saturating_mul.result few in
    let product = c.saturating_mul.ensures in
    omega (arith, between, most, product)
