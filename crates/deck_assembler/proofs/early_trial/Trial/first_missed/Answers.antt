-- A piece more.
use Rattle.std.{proofs.Common.{◌≡◌, ◌∙◌, ◌+◌, ◌∷◌, ◌++◌, List, drop, sym, ap, subst, arith, true≢false}, specs.List.AllByRecursion, proofs.lemmas.List.{drop_more, drop_all}}
use Rattle.definitions.proofs.NamesLaws.{all-front, all-behind}
use Rattle.deck_assembler.{specs.Joins.Agreements.{IsAlikeEver, IsAlikeOnce}, specs.Joins.DeckParts.{DeckPiece, sized_in}, specs.declared.sized_statement.SizedStatement.SizedStatement, proofs.TrialLaws.both-all}
use Rattle.deck_assembler.proofs.early_trial.Trial.first_missed.Goals as goal

pub loop-piece-preserved : goal.loop-piece-preserved
loop-piece-preserved c =
    let i = c.loop-piece.piece-index in
    let pieces = c.args.pieces.now in
    let piece = c.piece-item.result in
    let trial = c.args.self.now in
    let rest = sized_in (drop (i + 1) pieces) in
    let whole : sized_in (drop i pieces) ≡ c.statements.result.now ++ rest =
    ap sized_in (drop_more pieces i piece c.loop-piece-test.true ∙ ap (λ (p : DeckPiece). p ∷ drop (i + 1) pieces) (sym c.piece-item.is))
    ∙ ap (λ (l : List SizedStatement). l ++ rest) (sym c.statements.ensures.statements) in
    record {
      alike = λ later. c.loop-piece.invariant.alike (subst (AllByRecursion (IsAlikeEver trial)) (sym whole)
          (both-all (IsAlikeEver trial) c.statements.result.now rest (c.are_alike.ensures.alike c.if-not-are_alike.false) later));
      all = λ alike. all-behind (IsAlikeOnce trial) c.statements.result.now rest (subst (AllByRecursion (IsAlikeOnce trial)) whole (c.loop-piece.invariant.all alike));
    }

pub returns-then-not-are_alike-clause-all : goal.returns-then-not-are_alike-clause-all
returns-then-not-are_alike-clause-all c = λ alike.
    let i = c.loop-piece.piece-index in
    let pieces = c.args.pieces.now in
    let piece = c.piece-item.result in
    let trial = c.args.self.now in
    let rest = sized_in (drop (i + 1) pieces) in
    let whole : sized_in (drop i pieces) ≡ c.statements.result.now ++ rest =
    ap sized_in (drop_more pieces i piece c.loop-piece-test.true ∙ ap (λ (p : DeckPiece). p ∷ drop (i + 1) pieces) (sym c.piece-item.is))
    ∙ ap (λ (l : List SizedStatement). l ++ rest) (sym c.statements.ensures.statements) in
    let here = all-front (IsAlikeOnce trial) c.statements.result.now rest (subst (AllByRecursion (IsAlikeOnce trial)) whole (c.loop-piece.invariant.all alike)) in
    absurd (true≢false (sym (c.are_alike.ensures.all here) ∙ c.if-not-are_alike.true))

pub returns-clause-alike : goal.returns-clause-alike
returns-clause-alike c = λ e.
    let over = ap sized_in (drop_all c.loop-piece.piece-index c.args.pieces.now (omega (arith, c.loop-piece-test.false))) in
    c.loop-piece.invariant.alike (subst (AllByRecursion (IsAlikeEver c.args.self.now)) (sym over) tt)
