use Rattle.std.proofs.Common.{◌≡◌, ◌-◌, arith}
use Rattle.definitions.specs.Kinds.{word_bits}
use Rattle.deck_listing.proofs.WordLaws.{full-below}
use Rattle.deck_listing.proofs.field_lines.push_full_word.Goals as goal

pub overflow_cast-next : goal.overflow_cast-next
overflow_cast-next c =
    let none : c.args.next.width - word_bits c.args.kind ≡ 0 = rw c.word_bits.ensures at c.if-left-eq0.true in
    let below = rw none at (full-below c.args.kind c.args.next.width c.args.next.bits c.requires.full c.requires.fits) in
    omega (arith, below)

pub overflow_cast-next-2 : goal.overflow_cast-next-2
overflow_cast-next-2 c =
    let below = full-below c.args.kind c.args.next.width c.args.next.bits c.requires.full c.requires.fits in
    rw c.word_bits.ensures (omega (arith, below))
