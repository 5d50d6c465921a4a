use Rattle.std.{proofs.Common.ap, specs.List.list_any}
use Rattle.expr_forms.proofs.ElementListLaws.{elements_in-links}
use Rattle.deck_assembler.specs.Joins.Rebindings.{differs}
use Rattle.deck_assembler.proofs.rebinding.Rebinding.expression_differs.Goals as goal

pub links-init : goal.links-init
links-init c = ap (list_any (differs c.args.self.now)) (elements_in-links c.links-links.result c.args.expression.now c.links-links.ensures.links)
