use Rattle.std.proofs.Common.{◌≡◌, take, map}
use Rattle.cards.specs.declared.statement_list.Span.{Span}
use Rattle.deck_assembler.proofs.up_to_end.card_counts.Given as goal

-- the counts of the spans so far
abbrev pub invariant-loop-span : goal.invariant-loop-span
invariant-loop-span l = l.counts.items ≡ map (λ (span : Span). span.count) (take l.span-index l.spans)
