use Rattle.std.{proofs.Common.ap, specs.Prelude.flat_map}
use Rattle.definitions.specs.Laws.Agreement.{symbols_of_element}
use Rattle.expr_forms.proofs.ElementListLaws.{elements_in-links}
use Rattle.expr_forms.proofs.expressions.Expr.symbols.Goals as goal

pub returns : goal.returns
returns c = ap (flat_map symbols_of_element) (elements_in-links c.links.result c.args.self.now c.links.ensures.links)
