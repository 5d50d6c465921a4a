use Rattle.std.proofs.Common.{◌<◌, ◌*◌, ◌+◌, ◌^◌, arith}
use Rattle.word_packing.proofs.Steps.{has_room}
use Rattle.word_packing.proofs.packing.word_of_bytes.Goals as goal

pub overflow_mul-word : goal.overflow_mul-word
overflow_mul-word c =
    let place : c.loop-place.place < 15 = omega (arith, c.loop-place-test.true, c.requires.few) in
    let room : c.loop-place.word * 16 + 0 < 2 ^ 64 = has_room c.loop-place.word 0 c.loop-place.place c.loop-place.invariant.small (omega arith) place in
    omega (arith, room)

pub overflow_add-word : goal.overflow_add-word
overflow_add-word c =
    let place : c.loop-place.place < 15 = omega (arith, c.loop-place-test.true, c.requires.few) in
    let room : c.loop-place.word * 16 + c.digit_of_bytes.result < 2 ^ 64 = has_room c.loop-place.word c.digit_of_bytes.result c.loop-place.place c.loop-place.invariant.small c.digit_of_bytes.ensures.small place in
    omega (arith, room)
