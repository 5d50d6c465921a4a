use Rattle.cards.proofs.SpanSteps.{IsSplit, IsShort}
use Rattle.cards.proofs.statement_list.statements.Given as goal

-- the spans so far, and the one that is open
abbrev pub invariant-loop-k : goal.invariant-loop-k
invariant-loop-k l = record {
  split : IsSplit l.cards l.spans.items l.start l.k l.before;
  short : IsShort l.spans.items l.start l.k l.before;
}
