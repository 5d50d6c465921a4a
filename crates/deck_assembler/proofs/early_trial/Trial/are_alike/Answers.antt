-- A statement more.
use Rattle.std.{proofs.Common.{◌≡◌, ◌∙◌, ◌+◌, ◌∷◌, drop, sym, ap, subst, arith, true≢false}, specs.List.AllByRecursion, proofs.lemmas.List.{drop_more, drop_all}}
use Rattle.deck_assembler.specs.{Joins.Agreements.{IsAlikeEver, IsAlikeOnce}, declared.sized_statement.SizedStatement.SizedStatement}
use Rattle.deck_assembler.proofs.early_trial.Trial.are_alike.Goals as goal

pub loop-sized-preserved : goal.loop-sized-preserved
loop-sized-preserved c =
    let i = c.loop-sized.sized-index in
    let statements = c.args.statements.now in
    let sized = c.sized-item.result in
    let whole : drop i statements ≡ sized ∷ drop (i + 1) statements =
    drop_more statements i sized c.loop-sized-test.true ∙ ap (λ (s : SizedStatement). s ∷ drop (i + 1) statements) (sym c.sized-item.is) in
    record {
      alike = λ later. c.loop-sized.invariant.alike (subst (AllByRecursion (IsAlikeEver c.args.self.now)) (sym whole) (c.is_alike.ensures.alike c.if-not-is_alike.false, later));
      all = λ alike. (subst (AllByRecursion (IsAlikeOnce c.args.self.now)) whole (c.loop-sized.invariant.all alike)).1;
    }

pub returns-then-not-is_alike-clause-all : goal.returns-then-not-is_alike-clause-all
returns-then-not-is_alike-clause-all c = λ alike.
    let i = c.loop-sized.sized-index in
    let statements = c.args.statements.now in
    let sized = c.sized-item.result in
    let whole : drop i statements ≡ sized ∷ drop (i + 1) statements =
    drop_more statements i sized c.loop-sized-test.true ∙ ap (λ (s : SizedStatement). s ∷ drop (i + 1) statements) (sym c.sized-item.is) in
    let here = (subst (AllByRecursion (IsAlikeOnce c.args.self.now)) whole (c.loop-sized.invariant.all alike)).0 in
    absurd (true≢false (sym (c.is_alike.ensures.all here) ∙ c.if-not-is_alike.true))

pub returns-clause-alike : goal.returns-clause-alike
returns-clause-alike c = λ e.
    let over = drop_all c.loop-sized.sized-index c.args.statements.now (omega (arith, c.loop-sized-test.false)) in
    c.loop-sized.invariant.alike (subst (AllByRecursion (IsAlikeEver c.args.self.now)) (sym over) tt)
