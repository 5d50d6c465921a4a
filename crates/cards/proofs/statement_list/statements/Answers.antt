use Rattle.std.proofs.Common.{sym, ◌∙◌}
use Rattle.cards.proofs.{SpanSteps.{IsSplit-begins, IsSplit-continues, IsShort-begins, IsShort-continues}, statement_list.statements.Goals.{then-not-is_continued_by+in_ok-push_from, else-not-is_continued_by}}
use Rattle.cards.proofs.statement_list.statements.Goals as goal

pub loop-k-preserved : goal.loop-k-preserved
loop-k-preserved c =
    rw c.add.ensures
    (elim c.if-not-is_continued_by.branch [
      | then-not-is_continued_by+in_ok-push_from w ↦
          rw (w.spans-is, w.start-is, w.in_ok-push_from.ensures)
          (record {
            split = IsSplit-begins c.args.cards.now c.loop-k.spans.items c.loop-k.start c.loop-k.k c.loop-k.before c.index-cards-k.result c.loop-k-test.true c.index-cards-k.is
                (sym c.is_continued_by.ensures ∙ w.if-not-is_continued_by.true) c.loop-k.invariant.split;
            short = IsShort-begins c.loop-k.spans.items c.loop-k.start c.loop-k.k c.loop-k.before c.index-cards-k.result c.loop-k.invariant.short;
          })
      | else-not-is_continued_by w ↦
          rw (w.spans-is, w.start-is)
          (record {
            split = IsSplit-continues c.args.cards.now c.loop-k.spans.items c.loop-k.start c.loop-k.k c.loop-k.before c.index-cards-k.result c.loop-k-test.true c.index-cards-k.is
                (sym c.is_continued_by.ensures ∙ w.if-not-is_continued_by.false) c.loop-k.invariant.split;
            short = IsShort-continues c.loop-k.spans.items c.loop-k.start c.loop-k.k c.loop-k.before c.index-cards-k.result
                (sym c.is_continued_by.ensures ∙ w.if-not-is_continued_by.false) c.loop-k.invariant.short;
          })
    ])
