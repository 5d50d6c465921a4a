use Rattle.std.{proofs.Common.{ℕ, List, subst, ◌∙◌}, specs.Prelude.length}
use Rattle.session_line.specs.{ChangeLines.change_line, Joins.ChangeWalks.edits_text, Replies.line_of}
use Rattle.text_ports.proofs.SendSteps.{IsPart, part-first, part-second}
use Rattle.session_line.proofs.change_writing.write_headed.Goals as goal

pub returns-in-Err-clause-sends : goal.returns-in-Err-clause-sends
returns-in-Err-clause-sends g c =
    let all = edits_text c.args.own.now in
    let head = line_of (change_line c.args.version c.args.by.now (length c.args.own.now)) in
    part-first _ _ head all c.in-Err.broken.sent
    (subst (λ (l : List ℕ). IsPart (g.W.Write.contents c.args.output.now.0) (g.W.Write.contents c.put_all.new.output.0) l c.in-Err.broken.sent) (c.as_slice-bytes.ensures.value ∙ c.change_line-line.ensures.line) c.in-Err.ensures.prefix)

pub returns-in-Err-write_edits-clause-sends : goal.returns-in-Err-write_edits-clause-sends
returns-in-Err-write_edits-clause-sends g c =
    part-second _ _ _ _ c.as_slice-bytes.result.now (edits_text c.args.own.now) c.in-Err-write_edits.broken.sent (c.as_slice-bytes.ensures.value ∙ c.change_line-line.ensures.line)
    c.in_default.ensures.all c.in-Err-write_edits.ensures.sends
