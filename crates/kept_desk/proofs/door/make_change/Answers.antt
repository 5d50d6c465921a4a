use Rattle.std.proofs.Common.{refl}
use Rattle.kept_desk.specs.Keeping.{refused, called}
use Rattle.kept_desk.proofs.door.make_change.Goals as goal

pub returns-in-Ok : goal.returns-in-Ok
returns-in-Ok g c = called _ _ _ _ (rw c.in-Ok.is at c.begin.ensures.begins) c.in-Ok.ensures.form (rw c.who-by.ensures at c.call-reply.ensures) c.ring_after.ensures c.kept_reply.ensures

pub returns-in-Err : goal.returns-in-Err
returns-in-Err g c = refused c.in-Err.refusal (rw c.in-Err.is at c.begin.ensures.begins) refl refl
