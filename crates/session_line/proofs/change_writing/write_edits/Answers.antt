use Rattle.std.proofs.Common.{◌∙◌}
use Rattle.session_commands.specs.Lines.{line_in_batch}
use Rattle.session_line.specs.Replies.{line_of}
use Rattle.text_ports.proofs.SendSteps.{part-text}
use Rattle.session_line.proofs.change_writing.write_edits.Goals as goal

pub returns-in-Err-clause-sends : goal.returns-in-Err-clause-sends
returns-in-Err-clause-sends g c =
    part-text (λ one. line_of (line_in_batch one.edit)) _ _ _ c.args.kept.now c.loop-one.one-index c.loop-one.sent c.in-Err.broken.sent c.one-item.result c.as_slice-bytes.result.now
    c.loop-one-test.true c.one-item.is (c.as_slice-bytes.ensures.value ∙ c.edit_line-line.ensures.line) c.loop-one.invariant.count c.loop-one.invariant.lines c.in-Err.ensures.prefix
