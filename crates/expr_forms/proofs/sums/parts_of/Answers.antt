use Rattle.std.proofs.Common.{refl}
use Rattle.expr_forms.specs.Joins.{Elements.sign_as, Sums.sum_from}
use Rattle.expr_forms.proofs.sums.parts_of.Goals as goal

pub links-init : goal.links-init
links-init c = (sum_from (sign_as c.args.sign), (refl, c.new.ensures, refl), refl)
