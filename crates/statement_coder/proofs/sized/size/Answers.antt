use Rattle.std.{proofs.Common.{true≢false, ap, sym, subst, ◌∙◌}, specs.Prelude.is_some}
use Rattle.definitions.specs.{Laws.States.seen_from, Settling.settled_read}
use Rattle.statement_coder.specs.Joins.Sizings.{read_as, IsSizing}
use Rattle.statement_coder.proofs.sized.size.Goals as goal

pub returns-in-Some-clause-sizing : goal.returns-in-Some-clause-sizing
returns-in-Some-clause-sizing g c =
    let view = g.S.EarlySymbols.view c.args.symbols.now in
    let code = c.args.statement.now in
    λ given operand stray reading letters.
    subst (IsSizing code.kind view (settled_read code.kind (seen_from c.args.state.now view) (read_as code given operand))) (sym c.of.ensures)
    (c.in-Some.ensures.sizing given operand stray reading letters)

pub returns-in_err-kept_settled-in-None-clause-needs_none : goal.returns-in_err-kept_settled-in-None-clause-needs_none
returns-in_err-kept_settled-in-None-clause-needs_none g c = λ counting plain.
    absurd (true≢false (sym (c.size_usual.ensures.some counting plain) ∙ ap is_some c.in-None.is))
