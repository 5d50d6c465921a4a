use Rattle.std.proofs.Common.{◌∙◌, ap, sym, flat_map}
use Rattle.definitions.specs.Literals.{with_literals}
use Rattle.expr_forms.specs.Joins.Readings.{bit_field_as}
use Rattle.deck_assembler.{specs.Joins.LiteralsRead.bit_literals, proofs.LiteralSteps.with_literals-append}
use Rattle.deck_assembler.proofs.literal_words.add_fields.Goals as goal

pub fields-preserved : goal.fields-preserved
fields-preserved c =
    ap (with_literals (flat_map bit_literals c.next.new.self)) c.in_ok-add_field-in-Some.ensures
    ∙ sym (with_literals-append (bit_literals (bit_field_as c.in-Some.field)) (flat_map bit_literals c.next.new.self) c.fields.words)
    ∙ ap (λ rest. with_literals (flat_map bit_literals rest) c.fields.words) (sym c.in-Some.ensures.some)
    ∙ c.fields.invariant
