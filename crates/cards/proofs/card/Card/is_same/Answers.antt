use Rattle.std.proofs.Common.{◌∙◌, ap₂}
use Rattle.definitions.specs.Characters.{same_text}
use Rattle.cards.proofs.CardLaws.{columns-tell, lengths-tell}
use Rattle.cards.proofs.card.Card.is_same.Goals as goal

pub returns-then-self-other : goal.returns-then-self-other
returns-then-self-other c =
    c.eq.ensures
    ∙ columns-tell c.self.inside.len c.other.inside.len c.self.inside.columns c.other.inside.columns c.self.invariant.padded c.other.invariant.padded c.if-self-other.true
    ∙ ap₂ same_text c.self.view_is c.other.view_is

pub returns-else-self-other : goal.returns-else-self-other
returns-else-self-other c =
    lengths-tell c.self.inside.len c.other.inside.len c.self.inside.columns c.other.inside.columns c.self.invariant.padded c.other.invariant.padded c.if-self-other.false
    ∙ ap₂ same_text c.self.view_is c.other.view_is
