use Rattle.std.proofs.Common.{◌<◌, ◌≤◌, rules, take, length}
use Rattle.asm_main.proofs.ChainLaws.{joined-gave}
use Rattle.asm_main.proofs.chained.Chained.read_part.Goals as goal

pub returns-in-Ok-clause-bytes : goal.returns-in-Ok-clause-bytes
returns-in-Ok-clause-bytes g c =
    let within : c.args.self.now.next < length c.args.self.now.parts.items = search rules in
    let asked : 0 < length c.read.new.buf → 0 < c.in-Ok.count = search rules in
    let room : c.in-Ok.count ≤ length c.read.new.buf = search rules in (
      joined-gave g.R.Read.remaining c.args.self.now.parts.items c.args.self.now.next c.index_mut-part.result.now c.read.new.self
          (take c.in-Ok.count c.read.new.buf) within c.index_mut-part.ensures.value c.in-Ok.ensures.line c.in-Ok.ensures.bytes.0,
      asked,
      room,
    )
