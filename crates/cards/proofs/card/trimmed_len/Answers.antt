use Rattle.std.proofs.Common.{◌∙◌, arith}
use Rattle.cards.proofs.ColumnSteps.{trimmed-shorter, trimmed-ends}
use Rattle.cards.proofs.card.trimmed_len.Goals as goal

pub loop-len-preserved : goal.loop-len-preserved
loop-len-preserved c =
    let within = c.loop-len.invariant.within in
    record {
      within = omega (arith, within);
      kept = trimmed-shorter c.args.line.now c.loop-len.len c.loop-len-test.true within c.if-line-len-eq32.true ∙ c.loop-len.invariant.kept;
    }

pub returns-else-line-len-eq32-clause-kept : goal.returns-else-line-len-eq32-clause-kept
returns-else-line-len-eq32-clause-kept c =
    trimmed-ends c.args.line.now c.loop-len.len c.loop-len-test.true c.loop-len.invariant.within c.if-line-len-eq32.false ∙ c.loop-len.invariant.kept
