use Rattle.std.proofs.Common.{List, sym, subst}
use Rattle.deck_assembler.{specs.Joins.DeckParts.{DeckPiece, sized_in}, specs.Joins.Walks.whole_of, specs.Joins.DeckWalks.IsListing, specs.Joins.DueCodes.{IsWalkedAnew, IsWalkedDue}, specs.Joins.FormerLines.IsWalkedBeside, proofs.DueCodeLaws.due-begins, proofs.ReboundLaws.anew-begins, proofs.DeckWalkLaws.{walk-listing, walk-noted}}
use Rattle.deck_assembler.proofs.deck_walk.walk.Goals as goal

pub returns-clause-done : goal.returns-clause-done
returns-clause-done c =
    λ known others is beside.
    let whole = whole_of c.args.view.now known others in
    let made = c.add_pieces.new.self in
    let walked = c.in_ok-add_pieces.ensures.walked known others is
    (subst (λ (pieces : List DeckPiece). IsWalkedBeside whole (sized_in pieces) c.in_ok-made.made c.args.former) (sym c.pieces.ensures) (c.in_ok-made.ensures.made known others c.args.former is beside)) in
    record {
      listing = c.in_ok-list_all.ensures whole is (subst (λ left. IsListing whole left made.lines) (sym c.behind.ensures) (walk-listing whole made walked.walked));
      noted = walk-noted whole made walked.walked;
    }

pub returns-in_err-add_pieces-clause-due : goal.returns-in_err-add_pieces-clause-due
returns-in_err-add_pieces-clause-due c = λ known others plan is planned beside.
    let whole = whole_of c.args.view.now known others in
    let coded = c.args.meter.now.coded in
    let former = c.args.former in
    c.in_err-add_pieces.ensures.due known others plan coded is planned
    (subst (λ (pieces : List DeckPiece). IsWalkedDue whole plan coded (sized_in pieces) c.in_ok-made.made.lines.stood former coded) (sym c.pieces.ensures)
    (subst (λ n. IsWalkedDue whole plan coded (sized_in whole.deck.pieces) n former coded) (sym c.in_ok-made.ensures.stood) (due-begins whole plan former coded is beside)))

pub returns-in_err-list_all-clause-due : goal.returns-in_err-list_all-clause-due
returns-in_err-list_all-clause-due c = λ known others plan is planned beside.
    let whole = whole_of c.args.view.now known others in
    let coded = c.args.meter.now.coded in
    let former = c.args.former in
    c.in_ok-add_pieces.ensures.due known others plan coded is planned
    (subst (λ (pieces : List DeckPiece). IsWalkedDue whole plan coded (sized_in pieces) c.in_ok-made.made.lines.stood former coded) (sym c.pieces.ensures)
    (subst (λ n. IsWalkedDue whole plan coded (sized_in whole.deck.pieces) n former coded) (sym c.in_ok-made.ensures.stood) (due-begins whole plan former coded is beside)))

pub returns-clause-due : goal.returns-clause-due
returns-clause-due c = λ known others plan is planned beside.
    let whole = whole_of c.args.view.now known others in
    let coded = c.args.meter.now.coded in
    let former = c.args.former in
    c.in_ok-add_pieces.ensures.due known others plan coded is planned
    (subst (λ (pieces : List DeckPiece). IsWalkedDue whole plan coded (sized_in pieces) c.in_ok-made.made.lines.stood former coded) (sym c.pieces.ensures)
    (subst (λ n. IsWalkedDue whole plan coded (sized_in whole.deck.pieces) n former coded) (sym c.in_ok-made.ensures.stood) (due-begins whole plan former coded is beside)))

pub returns-clause-anew : goal.returns-clause-anew
returns-clause-anew c = λ known others old is bound.
    let whole = whole_of c.args.view.now known others in
    let coded = c.args.meter.now.coded in
    c.in_ok-add_pieces.ensures.anew known others old coded is bound
    (subst (λ (pieces : List DeckPiece). IsWalkedAnew whole old coded (sized_in pieces) c.in_ok-made.made.lines.stood coded) (sym c.pieces.ensures)
    (subst (λ n. IsWalkedAnew whole old coded (sized_in whole.deck.pieces) n coded) (sym c.in_ok-made.ensures.stood) (anew-begins whole old coded is)))
