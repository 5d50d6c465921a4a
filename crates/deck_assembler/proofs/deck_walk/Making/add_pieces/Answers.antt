use Rattle.std.proofs.Common.{◌∙◌, ◌+◌, List, [], ◌++◌, length, drop, ap, sym, subst, arith}
use Rattle.deck_assembler.{specs.Joins.DeckParts.{DeckPiece, sized_in}, specs.Joins.FormerLines.IsWalkedBeside, specs.Joins.Walks.whole_of, specs.declared.sized_statement.SizedStatement.SizedStatement, specs.Joins.DueCodes.{IsWalkedAnew, IsWalkedDue}, specs.Joins.Rebindings.AreBindings, proofs.DueCodeLaws.due-all, proofs.ReboundLaws.anew-ends, proofs.FormerLaws.{item-split, all-dropped}, proofs.PieceCounts.{pieces-within, pieces-more}}
use Rattle.deck_assembler.proofs.deck_walk.Making.add_pieces.Goals as goal

pub returns-in_err-add_all-clause-coded : goal.returns-in_err-add_all-clause-coded
returns-in_err-add_all-clause-coded c =
    let piece = c.piece-item.result in
    let within = pieces-within c.args.pieces.now c.loop-piece.piece-index piece c.loop-piece-test.true c.piece-item.is in
    let same = ap length c.statements.ensures.statements in
    let here = c.in_err-add_all.ensures.coded in
    let before = c.loop-piece.invariant.coded in
    omega (arith, within, same, here, before)

pub loop-piece-preserved : goal.loop-piece-preserved
loop-piece-preserved c =
    let i = c.loop-piece.piece-index in
    let pieces = c.args.pieces.now in
    let piece = c.piece-item.result in
    let added = c.in_ok-add_all.ensures in
    let more = pieces-more pieces i piece c.loop-piece-test.true c.piece-item.is in
    let size = ap length c.statements.ensures.statements in
    let coded = added.coded in
    let rises = added.rises in
    let before = c.loop-piece.invariant.coded in
    let so_far = c.loop-piece.invariant.rises in
    record {
      walked = λ known others is start.
          let whole = whole_of c.args.view.now known others in
          added.walked known others (sized_in (drop (i + 1) pieces)) is
          (subst (λ (l : List SizedStatement). IsWalkedBeside whole (l ++ sized_in (drop (i + 1) pieces)) c.loop-piece.self c.loop-piece.former) (sym c.statements.ensures.statements)
          (subst (λ (l : List DeckPiece). IsWalkedBeside whole (sized_in l) c.loop-piece.self c.loop-piece.former) (item-split pieces i piece c.loop-piece-test.true c.piece-item.is)
          (c.loop-piece.invariant.walked known others is start)));
      ended = λ e. added.ended (c.loop-piece.invariant.ended e);
      bindings = added.bindings ∙ c.loop-piece.invariant.bindings;
      coded = omega (arith, coded, before, more, size);
      rises = omega (arith, rises, so_far);
      all = λ e room.
          let there = c.loop-piece.invariant.all e (omega (arith, room, more)) in
          let one = added.all (c.loop-piece.invariant.ended e) (omega (arith, room, more, size, there)) in
          omega (arith, there, one, more, size);
      same = added.sized ∙ c.loop-piece.invariant.same;
      due = λ known others plan base is planned start.
          let whole = whole_of c.args.view.now known others in
          let stood = c.loop-piece.self.lines.stood in
          let coded = c.loop-piece.meter.coded in
          added.due_on known others (sized_in (drop (i + 1) pieces)) plan base is planned
          (subst (λ (l : List SizedStatement). IsWalkedDue whole plan base (l ++ sized_in (drop (i + 1) pieces)) stood c.loop-piece.former coded) (sym c.statements.ensures.statements)
          (subst (λ (l : List DeckPiece). IsWalkedDue whole plan base (sized_in l) stood c.loop-piece.former coded) (item-split pieces i piece c.loop-piece-test.true c.piece-item.is)
          (c.loop-piece.invariant.due known others plan base is planned start)));
      anew = λ known others old base is bound start.
          let whole = whole_of c.args.view.now known others in
          let stood = c.loop-piece.self.lines.stood in
          let coded = c.loop-piece.meter.coded in
          added.anew known others (sized_in (drop (i + 1) pieces)) old base is (subst (λ b. AreBindings b old) (sym c.loop-piece.invariant.bindings) bound)
          (subst (λ (l : List SizedStatement). IsWalkedAnew whole old base (l ++ sized_in (drop (i + 1) pieces)) stood coded) (sym c.statements.ensures.statements)
          (subst (λ (l : List DeckPiece). IsWalkedAnew whole old base (sized_in l) stood coded) (item-split pieces i piece c.loop-piece-test.true c.piece-item.is)
          (c.loop-piece.invariant.anew known others old base is bound start)));
    }

pub returns-clause-walked : goal.returns-clause-walked
returns-clause-walked c =
    λ known others is start.
    let whole = whole_of c.args.view.now known others in
    subst (λ (l : List DeckPiece). IsWalkedBeside whole (sized_in l) c.loop-piece.self c.loop-piece.former) (all-dropped c.args.pieces.now c.loop-piece.piece-index c.loop-piece-test.false)
    (c.loop-piece.invariant.walked known others is start)

pub returns-in_err-add_all-clause-due : goal.returns-in_err-add_all-clause-due
returns-in_err-add_all-clause-due c = λ known others plan base is planned start.
    let whole = whole_of c.args.view.now known others in
    let i = c.loop-piece.piece-index in
    let pieces = c.args.pieces.now in
    let stood = c.loop-piece.self.lines.stood in
    let coded = c.loop-piece.meter.coded in
    c.in_err-add_all.ensures.due known others (sized_in (drop (i + 1) pieces)) plan base is planned
    (subst (λ (l : List SizedStatement). IsWalkedDue whole plan base (l ++ sized_in (drop (i + 1) pieces)) stood c.loop-piece.former coded) (sym c.statements.ensures.statements)
    (subst (λ (l : List DeckPiece). IsWalkedDue whole plan base (sized_in l) stood c.loop-piece.former coded) (item-split pieces i c.piece-item.result c.loop-piece-test.true c.piece-item.is)
    (c.loop-piece.invariant.due known others plan base is planned start)))

pub returns-clause-due : goal.returns-clause-due
returns-clause-due c = λ known others plan base is planned start.
    let whole = whole_of c.args.view.now known others in
    let stood = c.loop-piece.self.lines.stood in
    let coded = c.loop-piece.meter.coded in
    due-all whole plan base [] stood c.loop-piece.former coded
    (subst (λ (l : List DeckPiece). IsWalkedDue whole plan base (sized_in l) stood c.loop-piece.former coded) (all-dropped c.args.pieces.now c.loop-piece.piece-index c.loop-piece-test.false)
    (c.loop-piece.invariant.due known others plan base is planned start))

pub returns-clause-anew : goal.returns-clause-anew
returns-clause-anew c = λ known others old base is bound start.
    let whole = whole_of c.args.view.now known others in
    anew-ends whole old base c.loop-piece.self.lines.stood c.loop-piece.meter.coded
    (subst (λ (l : List DeckPiece). IsWalkedAnew whole old base (sized_in l) c.loop-piece.self.lines.stood c.loop-piece.meter.coded) (all-dropped c.args.pieces.now c.loop-piece.piece-index c.loop-piece-test.false)
    (c.loop-piece.invariant.anew known others old base is bound start))
