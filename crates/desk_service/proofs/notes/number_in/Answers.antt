use Rattle.std.{proofs.Common.{arith, subst, sym, ◌∙◌}, specs.Str.Parse.ParsesUnsigned}
use Rattle.desk_service.proofs.VersionTexts.{digits-text, number-not_parsed, number-parsed, number-parsed_great, some-from}
use Rattle.desk_service.proofs.notes.number_in.Goals as goal

pub returns-in_default-clause-number : goal.returns-in_default-clause-number
returns-in_default-clause-number c = absurd (c.in_default.ensures.cases.0 (digits-text c.args.text.now (sym c.are_digits.ensures ∙ c.if-not-are_digits.false)))

pub returns-in_default-parse-clause-number : goal.returns-in_default-parse-clause-number
returns-in_default-parse-clause-number c =
    let all = sym c.are_digits.ensures ∙ c.if-not-are_digits.false in
    let parsed = subst (λ t. ParsesUnsigned 64 10 t c.parse.result) c.in-Ok.ensures.cases.0 c.parse.ensures.value.0 in
    let some = some-from _ _ c.is_empty.ensures c.if-is_empty.false in
    sym (number-not_parsed c.args.most c.args.text.now c.parse.result _ parsed all c.in_default-parse.is some (omega (arith, c.ranges.most.fits)))

pub returns-then-number-most-clause-number : goal.returns-then-number-most-clause-number
returns-then-number-most-clause-number c =
    let all = sym c.are_digits.ensures ∙ c.if-not-are_digits.false in
    let parsed = subst (λ t. ParsesUnsigned 64 10 t c.parse.result) c.in-Ok.ensures.cases.0 c.parse.ensures.value.0 in
    sym (number-parsed_great c.args.most c.args.text.now c.parse.result _ parsed all c.in-Ok-parse.is (omega (arith, c.if-number-most.true)))

pub returns-else-number-most-clause-number : goal.returns-else-number-most-clause-number
returns-else-number-most-clause-number c =
    let all = sym c.are_digits.ensures ∙ c.if-not-are_digits.false in
    let parsed = subst (λ t. ParsesUnsigned 64 10 t c.parse.result) c.in-Ok.ensures.cases.0 c.parse.ensures.value.0 in
    let some = some-from _ _ c.is_empty.ensures c.if-is_empty.false in
    sym (number-parsed c.args.most c.args.text.now c.parse.result _ parsed all c.in-Ok-parse.is some (omega (arith, c.if-number-most.false)))
