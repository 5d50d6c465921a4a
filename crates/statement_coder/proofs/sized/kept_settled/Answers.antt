use Rattle.std.proofs.{Common.{sym, subst}, lemmas.Result.IfOk-weaker}
use Rattle.definitions.specs.{Laws.States.seen_from, Settling.settled_read}
use Rattle.statement_coder.specs.Joins.Sizings.{read_as, IsSizing}
use Rattle.statement_coder.proofs.sized.kept_settled.Goals as goal

pub returns-clause-sizing : goal.returns-clause-sizing
returns-clause-sizing g c =
    let view = g.S.EarlySymbols.view c.args.symbols.now in
    let code = c.args.statement.now in
    IfOk-weaker c.new.result _ _ (λ kept same given operand stray reading letters.
    subst (IsSizing code.kind view (settled_read code.kind (seen_from c.args.state.now view) (read_as code given operand))) (sym same)
    (c.settle-sizing.ensures.sizing given operand stray reading letters)) c.new.ensures.kept
