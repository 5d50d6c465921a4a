use Rattle.std.proofs.Common.{refl}
use Rattle.deck_assembler.proofs.{ResultLaws.on_ok_one, PieceLaws.last-pushed}
use Rattle.deck_assembler.proofs.pieces.push_onto_last.Goals as goal

pub returns-in-Some : goal.returns-in-Some
returns-in-Some c =
    on_ok_one c.push.result _ _
    (λ e. last-pushed c.args.sized c.args.pieces.now.items c.args.pieces.now.len c.in-Some.piece.now c.push.new.self c.args.pieces.now.ok.0 (c.in-Some.ensures.variant.0 refl) c.in-Some.ensures.value e)
    c.push.ensures
