use Rattle.std.proofs.{Common.{ℕ, ◌-◌, ◌∙◌, Ok, Err, get_or, ap, sym, arith}, lemmas.List.get_or_default, lemmas.Result.err_from_is_err_and}
use Rattle.cards.{specs.declared.carrying.Touched.Touched, specs.declared.carrying.Origin.TheVariants.{Same, Own, Further, Nearer}, specs.Carrying.{seen_before, one_further, one_nearer}, proofs.CarrySteps.stands-latest}
use Rattle.cards.proofs.carrying.+stands_now.Goals as goal

pub returns-in-Same-clause-place : goal.returns-in-Same-clause-place
returns-in-Same-clause-place t c =
    c.stands_now.ensures.place
    ∙ sym (stands-latest c.args.edits.now c.args.places.now c.args.count (c.args.count - 1) c.index-edits-last.result (get_or c.args.places.now (c.args.count - 1) 0) c.args.place (Same c.in-Same.place)
    (seen_before c.args.made.now) (omega arith) (omega arith) (omega arith) c.index-edits-last.is (get_or_default c.args.places.now (c.args.count - 1) 0 _ (omega arith)) (sym c.in-Same.is ∙ c.origin_of.ensures))

pub returns-in-Own-clause-place : goal.returns-in-Own-clause-place
returns-in-Own-clause-place t c =
    sym (stands-latest c.args.edits.now c.args.places.now c.args.count (c.args.count - 1) c.index-edits-last.result (get_or c.args.places.now (c.args.count - 1) 0) c.args.place Own
    (seen_before c.args.made.now) (omega arith) (omega arith) (omega arith) c.index-edits-last.is (get_or_default c.args.places.now (c.args.count - 1) 0 _ (omega arith)) (sym c.in-Own.is ∙ c.origin_of.ensures))

pub returns-in_ok-stands_now-in-Further-clause-place : goal.returns-in_ok-stands_now-in-Further-clause-place
returns-in_ok-stands_now-in-Further-clause-place t c =
    sym (ap one_further c.in_ok-stands_now-in-Further.was) ∙ ap one_further c.stands_now-in-Further.ensures.place
    ∙ sym (stands-latest c.args.edits.now c.args.places.now c.args.count (c.args.count - 1) c.index-edits-last.result (get_or c.args.places.now (c.args.count - 1) 0) c.args.place (Further c.in-Further.place)
    (seen_before c.args.made.now) (omega arith) (omega arith) (omega arith) c.index-edits-last.is (get_or_default c.args.places.now (c.args.count - 1) 0 _ (omega arith)) (sym c.in-Further.is ∙ c.origin_of.ensures))

pub returns-in_err-stands_now-in-Further-clause-place : goal.returns-in_err-stands_now-in-Further-clause-place
returns-in_err-stands_now-in-Further-clause-place t c =
    let p = err_from_is_err_and c.from_residual.result c.from_residual.ensures.1 in
    p.1 ∙ ap (λ (touched : Touched). Err touched) p.2 ∙ sym (ap one_further c.in_err-stands_now-in-Further.was) ∙ ap one_further c.stands_now-in-Further.ensures.place
    ∙ sym (stands-latest c.args.edits.now c.args.places.now c.args.count (c.args.count - 1) c.index-edits-last.result (get_or c.args.places.now (c.args.count - 1) 0) c.args.place (Further c.in-Further.place)
    (seen_before c.args.made.now) (omega arith) (omega arith) (omega arith) c.index-edits-last.is (get_or_default c.args.places.now (c.args.count - 1) 0 _ (omega arith)) (sym c.in-Further.is ∙ c.origin_of.ensures))

pub returns-in_ok-stands_now-in-Nearer-clause-place : goal.returns-in_ok-stands_now-in-Nearer-clause-place
returns-in_ok-stands_now-in-Nearer-clause-place t c =
    ap (λ (k : ℕ). Ok k) c.saturating_sub.ensures ∙ sym (ap one_nearer c.in_ok-stands_now-in-Nearer.was) ∙ ap one_nearer c.stands_now-in-Nearer.ensures.place
    ∙ sym (stands-latest c.args.edits.now c.args.places.now c.args.count (c.args.count - 1) c.index-edits-last.result (get_or c.args.places.now (c.args.count - 1) 0) c.args.place (Nearer c.in-Nearer.place)
    (seen_before c.args.made.now) (omega arith) (omega arith) (omega arith) c.index-edits-last.is (get_or_default c.args.places.now (c.args.count - 1) 0 _ (omega arith)) (sym c.in-Nearer.is ∙ c.origin_of.ensures))

pub returns-in_err-stands_now-in-Nearer-clause-place : goal.returns-in_err-stands_now-in-Nearer-clause-place
returns-in_err-stands_now-in-Nearer-clause-place t c =
    let p = err_from_is_err_and c.from_residual-in_err-stands_now-in-Nearer.result c.from_residual-in_err-stands_now-in-Nearer.ensures.1 in
    p.1 ∙ ap (λ (touched : Touched). Err touched) p.2 ∙ sym (ap one_nearer c.in_err-stands_now-in-Nearer.was) ∙ ap one_nearer c.stands_now-in-Nearer.ensures.place
    ∙ sym (stands-latest c.args.edits.now c.args.places.now c.args.count (c.args.count - 1) c.index-edits-last.result (get_or c.args.places.now (c.args.count - 1) 0) c.args.place (Nearer c.in-Nearer.place)
    (seen_before c.args.made.now) (omega arith) (omega arith) (omega arith) c.index-edits-last.is (get_or_default c.args.places.now (c.args.count - 1) 0 _ (omega arith)) (sym c.in-Nearer.is ∙ c.origin_of.ensures))
