use Rattle.std.proofs.Common.{◌∙◌, ◌+◌, List, ◌++◌, drop, refl, sym, subst, arith}
use Rattle.deck_assembler.{specs.Joins.FormerLines.IsWalkedBeside, specs.Joins.Walks.whole_of, specs.declared.sized_statement.SizedStatement.SizedStatement, specs.Joins.DueCodes.{IsWalkedAnew, IsWalkedDue}, specs.Joins.Rebindings.AreBindings, proofs.DueCodeLaws.{due-all, due-step}, proofs.ReboundLaws.{anew-step, line-bound}, proofs.WalkLaws.stood-step, proofs.FormerLaws.{none-left, item-split, all-dropped}}
use Rattle.deck_assembler.proofs.deck_walk.Making.add_all.Goals as goal

pub loop-sized-preserved : goal.loop-sized-preserved
loop-sized-preserved c =
    let i = c.loop-sized.sized-index in
    let piece = c.args.piece.now in
    let sized = c.sized-item.result in
    let added = c.in_ok-add.ensures in
    let none = none-left c.loop-sized.former c.next-found.new.self c.loop-sized.self.lines.stood sized.cards c.next-found.result c.next-found.ensures.next in
    let coded = added.coded in
    let rises = added.rises in
    let before = c.loop-sized.invariant.coded in
    let so_far = c.loop-sized.invariant.rises in
    record {
      walked = λ known others left is start.
          let whole = whole_of c.args.view.now known others in
          added.walked known others (drop (i + 1) piece ++ left) c.loop-sized.former c.next-found.new.self is c.next-found.ensures.next
          (subst (λ (l : List SizedStatement). IsWalkedBeside whole (l ++ left) c.loop-sized.self c.loop-sized.former) (item-split piece i sized c.loop-sized-test.true c.sized-item.is)
          (c.loop-sized.invariant.walked known others left is start));
      ended = λ e. (none (c.loop-sized.invariant.ended e)).1;
      bindings = c.next-found.ensures.bindings ∙ c.loop-sized.invariant.bindings;
      coded = omega (arith, coded, before);
      rises = omega (arith, rises, so_far);
      all = λ e room.
          let there = c.loop-sized.invariant.all e (omega (arith, room)) in
          let one = added.all (none (c.loop-sized.invariant.ended e)).0 (omega (arith, room, there)) in
          omega (arith, there, one);
      same = added.sized ∙ c.loop-sized.invariant.same;
      due = λ known others left plan base is planned start.
          let whole = whole_of c.args.view.now known others in
          due-step whole plan base (drop (i + 1) piece ++ left) sized c.loop-sized.self.lines.stood c.add.new.self.lines.stood c.next-found.result c.loop-sized.former c.next-found.new.self _ _ is planned
          (subst (λ (l : List SizedStatement). IsWalkedDue whole plan base (l ++ left) c.loop-sized.self.lines.stood c.loop-sized.former c.loop-sized.meter.coded) (item-split piece i sized c.loop-sized-test.true c.sized-item.is)
          (c.loop-sized.invariant.due known others left plan base is planned start)) c.next-found.ensures.next added.coded
          (λ earlier given one next found bound rebound. added.kept known others earlier given plan.old one is next found bound rebound)
          (λ some within. added.stood ∙ stood-step c.loop-sized.self.lines.stood sized.cards whole.cards some within is.few);
      anew = λ known others left old base is bound start.
          let whole = whole_of c.args.view.now known others in
          anew-step whole old base (drop (i + 1) piece ++ left) sized c.loop-sized.self.lines.stood c.add.new.self.lines.stood c.next-found.result _ _ is
          (subst (λ (l : List SizedStatement). IsWalkedAnew whole old base (l ++ left) c.loop-sized.self.lines.stood c.loop-sized.meter.coded) (item-split piece i sized c.loop-sized-test.true c.sized-item.is)
          (c.loop-sized.invariant.anew known others left old base is bound start)) added.rises added.coded added.all
          (line-bound c.loop-sized.former c.next-found.new.self c.loop-sized.self.lines.stood sized.cards c.next-found.result c.next-found.ensures.next old (subst (λ b. AreBindings b old) (sym c.loop-sized.invariant.bindings) bound))
          (λ earlier given one next found bound rebound. added.anew known others earlier given old one is next found bound rebound)
          (λ some within. added.stood ∙ stood-step c.loop-sized.self.lines.stood sized.cards whole.cards some within is.few);
    }

pub returns-clause-walked : goal.returns-clause-walked
returns-clause-walked c =
    λ known others left is start.
    let whole = whole_of c.args.view.now known others in
    subst (λ (l : List SizedStatement). IsWalkedBeside whole (l ++ left) c.loop-sized.self c.loop-sized.former) (all-dropped c.args.piece.now c.loop-sized.sized-index c.loop-sized-test.false)
    (c.loop-sized.invariant.walked known others left is start)

pub returns-in_err-add-clause-due : goal.returns-in_err-add-clause-due
returns-in_err-add-clause-due c = λ known others left plan base is planned start.
    let whole = whole_of c.args.view.now known others in
    let i = c.loop-sized.sized-index in
    let piece = c.args.piece.now in
    let sized = c.sized-item.result in
    let here = c.in_err-add.ensures in
    let stood = c.loop-sized.self.lines.stood in
    let step = due-step whole plan base (drop (i + 1) piece ++ left) sized stood (stood + sized.cards) c.next-found.result c.loop-sized.former c.next-found.new.self _ _ is planned
    (subst (λ (l : List SizedStatement). IsWalkedDue whole plan base (l ++ left) stood c.loop-sized.former c.loop-sized.meter.coded) (item-split piece i sized c.loop-sized-test.true c.sized-item.is)
    (c.loop-sized.invariant.due known others left plan base is planned start)) c.next-found.ensures.next here.coded
    (λ earlier given one next found bound rebound. here.kept known others earlier given plan.old one is next found bound rebound) (λ some within. refl) in
    due-all whole plan base (drop (i + 1) piece ++ left) (stood + sized.cards) c.next-found.new.self _ step

pub returns-clause-due_on : goal.returns-clause-due_on
returns-clause-due_on c = λ known others left plan base is planned start.
    let whole = whole_of c.args.view.now known others in
    subst (λ (l : List SizedStatement). IsWalkedDue whole plan base (l ++ left) c.loop-sized.self.lines.stood c.loop-sized.former c.loop-sized.meter.coded) (all-dropped c.args.piece.now c.loop-sized.sized-index c.loop-sized-test.false)
    (c.loop-sized.invariant.due known others left plan base is planned start)

pub returns-clause-due : goal.returns-clause-due
returns-clause-due c = λ known others left plan base is planned start.
    due-all (whole_of c.args.view.now known others) plan base left c.loop-sized.self.lines.stood c.loop-sized.former _ (returns-clause-due_on c known others left plan base is planned start)

pub returns-clause-anew : goal.returns-clause-anew
returns-clause-anew c = λ known others left old base is bound start.
    let whole = whole_of c.args.view.now known others in
    subst (λ (l : List SizedStatement). IsWalkedAnew whole old base (l ++ left) c.loop-sized.self.lines.stood c.loop-sized.meter.coded) (all-dropped c.args.piece.now c.loop-sized.sized-index c.loop-sized-test.false)
    (c.loop-sized.invariant.anew known others left old base is bound start)
