use Rattle.std.proofs.Common.{◌∙◌, sym, Some, None}
use Rattle.operations.proofs.KindLaws.{kind_of-behind}
use Rattle.operations.proofs.kind_search.KindSearch.kind.Goals as goal

pub returns-in-Some : goal.returns-in-Some
returns-in-Some c = λ earlier is. kind_of-behind earlier (Some c.in-Some.kind) (sym c.in-Some.is ∙ (c.self.view_is ∙ is))

pub returns-in-None : goal.returns-in-None
returns-in-None c = λ earlier is. kind_of-behind earlier None (sym c.in-None.is ∙ (c.self.view_is ∙ is))
