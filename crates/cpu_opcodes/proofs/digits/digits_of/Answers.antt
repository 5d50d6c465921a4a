use Rattle.std.proofs.Common.{arith}
use Rattle.cpu_opcodes.proofs.DigitLaws.{bound-room}
use Rattle.cpu_opcodes.proofs.digits.digits_of.Goals as goal

pub overflow_mul-number : goal.overflow_mul-number
overflow_mul-number c =
    let room = bound-room c.loop-i.number c.loop-i.i c.loop-i.invariant.bound (omega arith) in
    omega arith

pub overflow_add-number : goal.overflow_add-number
overflow_add-number c =
    let room = bound-room c.loop-i.number c.loop-i.i c.loop-i.invariant.bound (omega arith) in
    omega arith
