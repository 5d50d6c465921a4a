use Rattle.std.proofs.Common.{◌∙◌, ap₂}
use Rattle.definitions.specs.Characters.{same_text}
use Rattle.expr_forms.proofs.NameLaws.{characters-tell, lengths-tell}
use Rattle.expr_forms.proofs.names.Name.is_same.Goals as goal

pub returns-then-self-other : goal.returns-then-self-other
returns-then-self-other c =
    c.eq.ensures ∙ characters-tell _ _ _ _ c.self.invariant c.other.invariant c.if-self-other.true ∙ ap₂ same_text c.self.view_is c.other.view_is

pub returns-else-self-other : goal.returns-else-self-other
returns-else-self-other c =
    lengths-tell _ _ _ _ c.self.invariant c.other.invariant c.if-self-other.false ∙ ap₂ same_text c.self.view_is c.other.view_is
