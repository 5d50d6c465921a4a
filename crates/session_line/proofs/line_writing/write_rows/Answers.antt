use Rattle.std.proofs.Common.{◌∙◌}
use Rattle.text_ports.proofs.SendSteps.{part-text}
use Rattle.session_line.proofs.line_writing.write_rows.Goals as goal

pub returns-in-Err-clause-sends : goal.returns-in-Err-clause-sends
returns-in-Err-clause-sends g c =
    part-text g.T.ReplyRow.line_text _ _ _ c.args.rows.now c.loop-row.row-index c.loop-row.sent c.in-Err.broken.sent c.row-item.result c.as_slice-bytes.result.now
    c.loop-row-test.true c.row-item.is (c.as_slice-bytes.ensures.value ∙ c.line-line.ensures) c.loop-row.invariant.count c.loop-row.invariant.lines c.in-Err.ensures.prefix
