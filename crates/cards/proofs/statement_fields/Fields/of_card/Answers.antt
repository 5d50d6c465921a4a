use Rattle.std.proofs.Common.{◌≡◌, ℕ, List, length, ap, sym, subst, ◌∙◌, arith}
use Rattle.cards.{specs.Joins.FieldParts.{AreWithin, fields_at}, proofs.ColumnLaws.length-padded}
use Rattle.cards.proofs.statement_fields.Fields.of_card.Goals as goal

pub at-requires-clause-short : goal.at-requires-clause-short
at-requires-clause-short c = omega (arith, ap length c.read_columns.ensures, length-padded 72 c.args.card.now)

pub at-requires-clause-within : goal.at-requires-clause-within
at-requires-clause-within c =
    let width : length c.read_columns.result.now ≡ 72 = ap length c.read_columns.ensures ∙ length-padded 72 c.args.card.now in
    subst (λ (n : ℕ). AreWithin n c.parts.result) (sym width) c.parts.ensures.within

pub returns : goal.returns
returns c = c.at.ensures ∙ (ap (λ (text : List ℕ). fields_at text c.parts.result) c.read_columns.ensures ∙ c.parts.ensures.fields)
