-- There is room for each piece.
use Rattle.std.proofs.Common.{length, ap, ◌∙◌, arith}
use Rattle.desk_core.{specs.Joins.Pieces.joined, proofs.PieceLaws.piece-room}
use Rattle.desk_core.proofs.card_pieces.CardPieces.append_to.Goals as goal

pub append_to-requires : goal.append_to-requires
append_to-requires c =
    let held = c.loop-piece.invariant in
    let all = ap joined c.deref-piece-items.ensures.value ∙ c.self.view_is in
    let room = piece-room c.deref-piece-items.result.now c.loop-piece.piece-index c.piece-item.result c.loop-piece-test.true c.piece-item.is in
    omega (arith, held.1.0, held.1.1, room, ap length all, c.requires)
