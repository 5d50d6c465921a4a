use Rattle.std.proofs.Common.{◌∙◌, Ok, ap, sym}
use Rattle.definitions.specs.{Coding.counted_item_in, StatementItems.counted_item_value}
use Rattle.statement_coder.proofs.SixBitLaws.{counted_item_in-six}
use Rattle.statement_coder.proofs.six_bits.item_value.Goals as goal

pub small_form-requires : goal.small_form-requires
small_form-requires c =
    counted_item_in-six c.of_text.result c.in-Some.bits (sym c.counted_item_in.ensures ∙ c.in-Some.is)

pub returns-in-Some : goal.returns-in-Some
returns-in-Some c =
    ap Ok c.small_form.ensures
    ∙ sym (ap counted_item_value (ap (counted_item_in 6) (sym c.of_text.ensures) ∙ sym c.counted_item_in.ensures ∙ c.in-Some.is))
