use Rattle.std.proofs.Common.{rules, ◌≡◌, ◌≤◌, ◌∷◌, true, length}
use Rattle.expr_forms.{specs.Joins.DataTexts.{is_digit_to, last_digit}, proofs.DataTextLaws.{digit-first, digit-more}}
use Rattle.expr_forms.proofs.data_words.number_to_comma.Goals as goal

pub digits-init : goal.digits-init
digits-init c =
    let whole : c.args.text.now ≡ c.in_ok-first.first.now ∷ c.in_ok-first.behind.now = search rules in
    let digit : is_digit_to (last_digit c.args.base) c.in_ok-first.first.now ≡ true = search rules in
    let within : length c.in_ok-first.behind.now ≤ length c.args.text.now = search rules in
    record {
      number = digit-first c.args.base c.args.text.now c.in_ok-first.behind.now c.in_ok-first.first.now c.with_digit-value.result whole digit c.with_digit-value.ensures;
      within = within;
    }

pub digits-preserved : goal.digits-preserved
digits-preserved c =
    let next : c.digits.rest.now ≡ c.in-Some.c.now ∷ c.in-Some.behind.now = search rules in
    let digit : is_digit_to (last_digit c.args.base) c.in-Some.c.now ≡ true = search rules in
    let within : length c.in-Some.behind.now ≤ length c.args.text.now = search rules in
    record {
      number = digit-more c.args.base c.args.text.now c.digits.rest.now c.in-Some.behind.now c.in-Some.c.now c.digits.value c.with_digit-value-in-Some.result c.digits.invariant.number next digit c.with_digit-value-in-Some.ensures;
      within = within;
    }
