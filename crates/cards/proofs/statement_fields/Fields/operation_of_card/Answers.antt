use Rattle.std.proofs.Common.{◌≡◌, ℕ, List, length, ap, ◌∙◌, arith}
use Rattle.definitions.specs.Fields.{Fields}
use Rattle.cards.{specs.Joins.FieldParts.fields_at, proofs.ColumnLaws.length-padded}
use Rattle.cards.proofs.statement_fields.Fields.operation_of_card.Goals as goal

pub part_text-requires : goal.part_text-requires
part_text-requires c =
    let width : length c.read_columns.result.now ≡ 72 = ap length c.read_columns.ensures ∙ length-padded 72 c.args.card.now in
    omega (arith, width, c.parts.ensures.within.operation)

pub returns : goal.returns
returns c =
    c.part_text.ensures
    ∙ ap (λ (f : Fields). f.operation) (ap (λ (text : List ℕ). fields_at text c.parts.result) c.read_columns.ensures ∙ c.parts.ensures.fields)
