use Rattle.std.proofs.Common.{ap, ◌∙◌, take, arith}
use Rattle.definitions.specs.Cards.{padded}
use Rattle.cards.proofs.ColumnSteps.{padded-shorter}
use Rattle.cards.proofs.card.Card.read_columns.Goals as goal

pub returns : goal.returns
returns c =
    c.split_at.ensures.front
    ∙ ap (take 72) c.self.invariant.padded.blank_behind
    ∙ padded-shorter 72 80 (take c.self.inside.len c.self.inside.columns) (omega arith)
    ∙ ap (padded 72) c.self.view_is
