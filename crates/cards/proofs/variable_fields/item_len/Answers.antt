use Rattle.std.proofs.Common.{refl, sym}
use Rattle.definitions.specs.Laws.ItemTexts.{span_as}
use Rattle.cards.proofs.ReadingLaws.{digits-begin, item-begins, no-item-behind}
use Rattle.cards.proofs.variable_fields.item_len.Goals as goal

pub returns-in-Some-clause-len : goal.returns-in-Some-clause-len
returns-in-Some-clause-len c =
    item-begins c.args.text.now (span_as c.in-Some.span) (sym c.in-Some.ensures.item) c.in-Some.ensures.some c.in-Some.ensures.within

pub returns-in-None-clause-len : goal.returns-in-None-clause-len
returns-in-None-clause-len c = digits-begin c.args.text.now c.digit_count-digits.result c.digit_count-digits.ensures.count (sym c.in-None.ensures.item)

pub returns-else-may_be_letter-clause-len : goal.returns-else-may_be_letter-clause-len
returns-else-may_be_letter-clause-len c =
    let none = no-item-behind c.args.text.now c.digit_count-digits.result c.digit_count-digits.ensures.count (c.if-may_be_letter.ensures refl) in
    digits-begin c.args.text.now c.digit_count-digits.result c.digit_count-digits.ensures.count none
