use Rattle.std.proofs.Common.{refl, flat_map}
use Rattle.text_ports.proofs.SendSteps.{part-second}
use Rattle.session_line.proofs.line_writing.write_behind.Goals as goal

pub returns-in-Err-clause-sends : goal.returns-in-Err-clause-sends
returns-in-Err-clause-sends g c =
    part-second _ _ _ _ c.args.first.now (flat_map g.T.ReplyRow.line_text c.args.rows.now) c.in-Err.broken.sent refl c.in_ok-put_all.ensures.all c.in-Err.ensures.sends
