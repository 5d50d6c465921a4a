use Rattle.std.proofs.Common.{◌∙◌, ◌++◌, List, [], ◌∷◌, true≢false, append-nil, append_assoc, refl, sym, ap, subst, arith}
use Rattle.deck_assembler.{specs.Joins.Agreements.left, specs.Joins.Heads.AreHead, specs.Joins.Meetings.cards_of, specs.declared.sized_statement.SizedStatement.SizedStatement, proofs.PieceMeetings.cards_of-append, proofs.head_deck.taken_head.Goals.{in-None, in-Some+then-not-is_of_head}}
use Rattle.deck_assembler.proofs.head_deck.taken_head.Goals as goal

pub statements-preserved : goal.statements-preserved
statements-preserved c =
    let items = c.statements.head.items in
    let made = c.in-Some.sized in
    let pushed = c.in_ok-push-in-Some.ensures.items in
    let whole = ap cards_of pushed ∙ cards_of-append items (made ∷ []) in
    let so_far = c.statements.invariant.cards in
    record {
      head = λ rest h.
          subst (λ (l : List SizedStatement). AreHead c.args.before 0 (left c.args.deck.now) l) (sym (append_assoc items (made ∷ []) rest) ∙ ap (λ (l : List SizedStatement). l ++ rest) (sym pushed))
          (c.statements.invariant.head (made ∷ rest) (subst (λ (l : List SizedStatement). AreHead c.args.before c.statements.cards l (made ∷ rest)) (sym c.in-Some.ensures.next)
          (refl, (c.is_of_head.ensures.yes c.if-not-is_of_head.false, h))));
      cards = omega (arith, whole, so_far);
    }

pub returns-clause-head : goal.returns-clause-head
returns-clause-head c = subst (λ (l : List SizedStatement). AreHead c.args.before 0 (left c.args.deck.now) l) (append-nil c.statements.head.items) (c.statements.invariant.head [] (elim c.match-next.branch [
  | in-None w ↦ subst (λ (l : List SizedStatement). AreHead c.args.before c.statements.cards l []) (sym (w.in-None.ensures.next ∙ w.in-None.ensures.last refl)) tt
  | in-Some+then-not-is_of_head w ↦ subst (λ (l : List SizedStatement). AreHead c.args.before c.statements.cards l []) (sym w.in-Some.ensures.next)
      (λ is. true≢false (sym (w.is_of_head.ensures.no is) ∙ w.if-not-is_of_head.true))
]))
