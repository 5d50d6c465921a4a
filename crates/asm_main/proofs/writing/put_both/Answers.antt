use Rattle.std.proofs.Common.{refl}
use Rattle.text_ports.proofs.SendSteps.{part-second}
use Rattle.asm_main.proofs.writing.put_both.Goals as goal

pub returns-in-Err-clause-sends : goal.returns-in-Err-clause-sends
returns-in-Err-clause-sends g c = part-second _ _ _ c.args.first.now c.args.first.now c.args.second.now c.in-Err.broken.sent refl c.in_ok-put_all.ensures.all c.in-Err.ensures.prefix
