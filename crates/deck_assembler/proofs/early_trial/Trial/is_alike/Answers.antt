-- What was kept of a statement is what it is.
use Rattle.std.proofs.Common.{◌∙◌, true≢false, ap, sym, subst}
use Rattle.definitions.specs.{Laws.Agreement.own_symbols, Settling.{settle, settled_all}}
use Rattle.operations.specs.Joins.OperationsAs.{operation_as}
use Rattle.statement_coder.specs.Joins.Sizings.{defines_in}
use Rattle.deck_assembler.{specs.Joins.Agreements.AreExternalsAlike, specs.Joins.FirstSymbols.symbol_in, proofs.AlikeLaws.{operand-of, own-of}, proofs.TrialLaws.both-alike}
use Rattle.deck_assembler.proofs.early_trial.Trial.is_alike.Goals as goal

pub returns-clause-alike : goal.returns-clause-alike
returns-clause-alike c = λ e earlier stood ahead given is.
    let kind = c.args.self.now.kind in
    let v = symbol_in c.args.self.now.first.now in
    let w = symbol_in c.args.self.now.second.now in
    let sized = c.args.sized.now in
    let settled = settle kind (settled_all kind earlier) given in
    let operand = c.reading-reading.ensures.reading settled.read.operand is.kept in
    both-alike v w settled.read (defines_in c.args.self.now.kind sized.sizing) (operation_as sized.operation) c.as_slice-label.result.now (sym is.operation)
    (ap (own_symbols (operation_as sized.operation)) c.as_slice-label.ensures.name ∙ is.label)
    (c.is_own_alike.ensures.0 c.if-not-is_own_alike.false)
    (c.is_operand_alike.ensures.early e settled.read.operand operand) (subst (AreExternalsAlike v w settled.read.operand) c.defines-defines.ensures (c.is_operand_alike.ensures.externals e settled.read.operand operand))

pub returns-then-not-is_own_alike-clause-all : goal.returns-then-not-is_own_alike-clause-all
returns-then-not-is_own_alike-clause-all c = λ here.
    let trial = c.args.self.now in
    let v = symbol_in trial.first.now in
    let w = symbol_in trial.second.now in
    let sized = c.args.sized.now in
    let settled = settle trial.kind (settled_all trial.kind here.earlier) here.given in
    let own = own-of v w settled.read (defines_in c.args.self.now.kind sized.sizing) (operation_as sized.operation) c.as_slice-label.result.now
    (ap (own_symbols (operation_as sized.operation)) c.as_slice-label.ensures.name ∙ here.is.label) here.alike in
    absurd (true≢false (sym (c.is_own_alike.ensures.1 own) ∙ c.if-not-is_own_alike.true))

pub returns-clause-all : goal.returns-clause-all
returns-clause-all c = λ here.
    let trial = c.args.self.now in
    let v = symbol_in trial.first.now in
    let w = symbol_in trial.second.now in
    let sized = c.args.sized.now in
    let settled = settle trial.kind (settled_all trial.kind here.earlier) here.given in
    let operand = c.reading-reading.ensures.reading settled.read.operand here.is.kept in
    c.is_operand_alike.ensures.all settled.read.operand operand (operand-of v w settled.read (defines_in c.args.self.now.kind sized.sizing) (operation_as sized.operation) (sym here.is.operation) here.alike) (subst (AreExternalsAlike v w settled.read.operand) (sym c.defines-defines.ensures) here.alike.externals)
