use Rattle.std.{proofs.Common.{ℕ, ◌≡◌, ◌∙◌, true, ap, sym, arith}, specs.List.list_all}
use Rattle.definitions.specs.declared.deck_kind.DeckKind.TheVariants.{Rel}
use Rattle.expr_forms.{specs.Joins.DataTexts.{last_digit, is_of_numbers}, proofs.DataTextLaws.are_counted}
use Rattle.expr_forms.proofs.data_words.number_count.Goals as goal

pub returns-in-Some-clause-lawful : goal.returns-in-Some-clause-lawful
returns-in-Some-clause-lawful c =
    let all : list_all (is_of_numbers (last_digit c.args.base)) c.args.text.now ≡ true =
    ap (λ (last : ℕ). list_all (is_of_numbers last) c.args.text.now) (sym c.last_digit.ensures) ∙ c.in-Some.ensures.all in
    (are_counted Rel c.args.base c.args.text.now all).some

pub returns-in-Some-clause-words : goal.returns-in-Some-clause-words
returns-in-Some-clause-words c = λ kind.
    let all : list_all (is_of_numbers (last_digit c.args.base)) c.args.text.now ≡ true =
    ap (λ (last : ℕ). list_all (is_of_numbers last) c.args.text.now) (sym c.last_digit.ensures) ∙ c.in-Some.ensures.all in
    (are_counted kind c.args.base c.args.text.now all).words ∙ omega (arith, c.in-Some.ensures.count)
