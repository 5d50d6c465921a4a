-- What was kept of a statement's operand is what it is.
use Rattle.std.proofs.Common.{◌∙◌, sym, subst}
use Rattle.definitions.specs.{Settling.{settle, settled_all}, declared.deck_kind.DeckKind.DeckKind}
use Rattle.operations.specs.Joins.OperationsAs.{operation_as}
use Rattle.statement_coder.specs.Joins.KeptReadings.{IsKeptReading}
use Rattle.deck_assembler.{specs.Joins.Walks.whole_of, proofs.FormerLaws.beside-step, proofs.ResultLaws.{on_ok_both, on_ok_one}, proofs.WalkLaws.stood-step}
use Rattle.deck_assembler.proofs.deck_walk.Making.add_read.Goals as goal

pub returns-clause-walked : goal.returns-clause-walked
returns-clause-walked c =
    on_ok_both c.put.result (λ lined stood known others left before after is next_line walked.
    let whole = whole_of c.args.view.now known others in
    let sized = c.args.sized.now in
    let old = c.args.self.now in
    beside-step whole left sized old (record { lines = c.put.new.self; names = c.enter.new.names }) c.args.found before after is walked next_line (λ earlier given next has was so_far noted.
    let settled = settle whole.deck.kind (settled_all whole.deck.kind earlier) given in
    let kind = c.kept_operand-read.ensures.kind ∙ c.kind.ensures in
    let kept = subst (λ (k : DeckKind). IsKeptReading k (operation_as sized.operation) sized.kept settled.read.operand) (sym c.kind.ensures) next.kept in
    let read = c.kept_operand-read.ensures.read settled next.operation kept in
    record {
      lined = lined known others earlier given is kind read next has was so_far;
      noted = c.in_ok-enter.ensures known others earlier given is kind read noted;
      stood = stood ∙ stood-step old.lines.stood sized.cards whole.cards next.some next.within is.few;
    })) c.put.ensures.lined c.put.ensures.stood

pub returns-clause-kept : goal.returns-clause-kept
returns-clause-kept c = λ known others earlier given old one is next found bound rebound.
    let whole = whole_of c.args.view.now known others in
    let sized = c.args.sized.now in
    let settled = settle whole.deck.kind (settled_all whole.deck.kind earlier) given in
    let kept = subst (λ (k : DeckKind). IsKeptReading k (operation_as sized.operation) sized.kept settled.read.operand) (sym c.kind.ensures) next.kept in
    c.put.ensures.kept known others earlier given old one is (c.kept_operand-read.ensures.read settled next.operation kept) next found bound rebound

pub returns-clause-anew : goal.returns-clause-anew
returns-clause-anew c = on_ok_one c.put.result _ _ (λ step known others earlier given old one is next found bound rebound.
    let whole = whole_of c.args.view.now known others in
    let sized = c.args.sized.now in
    let settled = settle whole.deck.kind (settled_all whole.deck.kind earlier) given in
    let kept = subst (λ (k : DeckKind). IsKeptReading k (operation_as sized.operation) sized.kept settled.read.operand) (sym c.kind.ensures) next.kept in
    step known others earlier given old one is (c.kept_operand-read.ensures.read settled next.operation kept) next found bound rebound) c.put.ensures.anew
