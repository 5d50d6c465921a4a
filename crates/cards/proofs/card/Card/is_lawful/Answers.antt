use Rattle.std.{proofs.Common.{◌∙◌, ap}, specs.Prelude.is_some, specs.List.list_all}
use Rattle.definitions.specs.Characters.{display_code_of}
use Rattle.cards.proofs.CardLaws.{lawful-columns}
use Rattle.cards.proofs.card.Card.is_lawful.Goals as goal

pub returns : goal.returns
returns c =
    c.are_lawful.ensures
    ∙ lawful-columns c.self.inside.len c.self.inside.columns c.self.invariant.padded
    ∙ ap (list_all (λ c. is_some (display_code_of c))) c.self.view_is
