use Rattle.std.proofs.Common.{subst}
use Rattle.cards.specs.Joins.Spans.{statement_at}
use Rattle.statement_coder.specs.Joins.StatementsRead.{IsRead}
use Rattle.deck_assembler.proofs.sizer.Sizer.take_span.Goals as goal

pub returns-clause-taken : goal.returns-clause-taken
returns-clause-taken c = λ earlier next is.
    c.in_ok-take.ensures.taken c.args.kind c.args.cards.now earlier (statement_at c.args.cards.now c.args.span)
    (subst (λ cards. IsRead c.args.kind cards c.read-statement.result) c.of.ensures c.read-statement.ensures) next is
