use Rattle.std.proofs.Common.{◌≡◌, ◌∙◌, ◌++◌, List, [], ◌∷◌, length, take, true≢false, append-nil, append_assoc, refl, sym, ap, subst, arith}
use Rattle.deck_objects.specs.declared.lines.Line.{Line}
use Rattle.deck_assembler.{specs.Joins.Heads.{AreHeadLines, cards_of_lines}, proofs.HeadLineLaws.{cards-append, take-more}, proofs.former.head_lines.Goals.{in_default, in-Some+then-not-is_of_head}}
use Rattle.deck_assembler.proofs.former.head_lines.Goals as goal

no-lines : (lines : List Line) → length lines ≡ 0 → lines ≡ []
no-lines [] e = refl
no-lines (line ∷ lines) e = absurd (omega (arith, e))

pub lines-preserved : goal.lines-preserved
lines-preserved c =
    let all = c.args.lines.now in
    let line = c.in-Some.line.now in
    let first = take c.lines.count all in
    let next = c.in-Some.ensures.cases.0 in
    let more = take-more c.lines.count all c.in-Some.others.now line (c.lines.invariant.left ∙ next) in
    let whole = ap cards_of_lines more.0 in
    let parts = cards-append first (line ∷ []) in
    let so_far = c.lines.invariant.cards in
    record {
      head = λ rest h.
          subst (λ (l : List Line). AreHeadLines c.args.before 0 all l) (sym (append_assoc first (line ∷ []) rest) ∙ ap (λ (l : List Line). l ++ rest) (sym more.0))
          (c.lines.invariant.head (line ∷ rest) (subst (λ (l : List Line). AreHeadLines c.args.before c.lines.cards l (line ∷ rest)) (sym next)
          (refl, (c.is_of_head.ensures.yes c.if-not-is_of_head.false, h))));
      left = more.1.0;
      within = more.1.1;
      cards = omega (arith, whole, parts, so_far);
    }

pub returns-clause-lines : goal.returns-clause-lines
returns-clause-lines c = subst (λ (l : List Line). AreHeadLines c.args.before 0 c.args.lines.now l) (append-nil (take c.lines.count c.args.lines.now) ∙ sym c.split_at.ensures.front) (c.lines.invariant.head [] (elim c.match-split_first.branch [
  | in_default w ↦ subst (λ (l : List Line). AreHeadLines c.args.before c.lines.cards l []) (sym (no-lines c.lines.left.now w.in_default.ensures.cases)) tt
  | in-Some+then-not-is_of_head w ↦ subst (λ (l : List Line). AreHeadLines c.args.before c.lines.cards l []) (sym w.in-Some.ensures.cases.0)
      (λ is. true≢false (sym (w.is_of_head.ensures.no is) ∙ w.if-not-is_of_head.true))
]))
