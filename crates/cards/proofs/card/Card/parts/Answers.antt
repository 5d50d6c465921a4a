use Rattle.std.proofs.Common.{◌≡◌, ℕ, List, [], ◌∷◌, ◌∙◌, ap, sym, take, arith}
use Rattle.definitions.specs.{Cards.padded, Fields.fields_of}
use Rattle.cards.{specs.Joins.CardParts.parts_as, specs.Joins.FieldParts.fields_at, proofs.ColumnSteps.padded-shorter}
use Rattle.cards.proofs.card.Card.parts.Goals as goal

pub returns-clause-fields : goal.returns-clause-fields
returns-clause-fields c =
    let self = c.self.inside in
    let now = c.args.self.now in
    let read : take 72 self.columns ≡ padded 72 now =
    ap (take 72) c.self.invariant.padded.blank_behind
    ∙ (padded-shorter 72 80 (take self.len self.columns) (omega arith) ∙ ap (padded 72) c.self.view_is) in
    ap (fields_at (padded 72 now)) c.parts.ensures
    ∙ (ap (λ (text : List ℕ). fields_at text (parts_as self.parts)) (sym read)
    ∙ (c.self.invariant.fields ∙ ap (λ (card : List ℕ). fields_of (card ∷ [])) c.self.view_is))
