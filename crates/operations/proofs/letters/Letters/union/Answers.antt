use Rattle.std.proofs.Common.{◌∙◌}
use Rattle.operations.proofs.LetterLaws.{flagged-or}
use Rattle.operations.proofs.letters.Letters.union.Goals as goal

pub returns : goal.returns
returns c = λ letters others is is'. flagged-or c.self.inside.bits c.other.inside.bits letters others (c.self.view_is ∙ is) (c.other.view_is ∙ is')
