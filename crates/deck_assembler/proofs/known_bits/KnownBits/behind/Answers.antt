use Rattle.std.proofs.{Common.{◌≡◌, ◌+◌, ◌*◌, ◌%◌, ◌^◌, ◌<◌, ap, arith}, lemmas.Nat.shl_whole}
use Rattle.deck_assembler.proofs.KnownLaws.{behind-room, room-word}
use Rattle.deck_assembler.proofs.known_bits.KnownBits.behind.Goals as goal

pub overflow_add-result-2 : goal.overflow_add-result-2
overflow_add-result-2 c =
    let self = c.args.self in
    let width = c.args.width in
    let unwrapped : self.bits * 2 ^ width % 2 ^ 64 ≡ self.bits * 2 ^ width = shl_whole self.bits self.width width 64 self.room (omega arith) in
    let within : self.bits * 2 ^ width + c.args.bits < 2 ^ 60 =
    room-word (self.bits * 2 ^ width + c.args.bits) (self.width + width) (behind-room self.bits c.args.bits self.width width self.room c.requires.room) c.requires.short in
    omega (arith, unwrapped, within)

pub invariant_of-result-clause-room : goal.invariant_of-result-clause-room
invariant_of-result-clause-room c =
    let self = c.args.self in
    let width = c.args.width in
    let unwrapped : self.bits * 2 ^ width % 2 ^ 64 ≡ self.bits * 2 ^ width = shl_whole self.bits self.width width 64 self.room (omega arith) in
    rw unwrapped (behind-room self.bits c.args.bits self.width width self.room c.requires.room)

pub returns-clause-bits : goal.returns-clause-bits
returns-clause-bits c =
    let self = c.args.self in
    ap (λ n. n + c.args.bits) (shl_whole self.bits self.width c.args.width 64 self.room (omega arith))
