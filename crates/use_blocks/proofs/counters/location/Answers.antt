use Rattle.std.specs.Prelude.{None}
use Rattle.use_blocks.proofs.counters.location.Goals as goal

pub returns-in-None : goal.returns-in-None
returns-in-None c = rw c.in-None.is (c.origin.ensures None)
