use Rattle.std.proofs.Common.{rules, arith}
use Rattle.text_ports.proofs.HeldLines.{IsFrontLine-found}
use Rattle.text_ports.proofs.held_lines.front_line_len.Goals as goal

pub returns : goal.returns
returns c =
    IsFrontLine-found c.args.bytes.now c.min.result c.memchr.result (omega (arith, c.min.ensures)) (omega (arith, c.min.ensures)) (search rules)
