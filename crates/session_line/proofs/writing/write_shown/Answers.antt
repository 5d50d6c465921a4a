use Rattle.std.proofs.Common.{refl}
use Rattle.text_ports.proofs.SendSteps.{part-second}
use Rattle.session_line.proofs.writing.write_shown.Goals as goal

pub returns-in-Err-clause-sends : goal.returns-in-Err-clause-sends
returns-in-Err-clause-sends g c = part-second _ _ _ _ c.args.first.now c.args.shown c.in-Err.broken.sent refl c.in_ok-put_all.ensures.all c.in-Err.ensures.sends
