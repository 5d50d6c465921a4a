use Rattle.std.proofs.Common.{◌≡◌, ◌&&◌, drop, length}
use Rattle.desk_core.specs.{Delivering.same_cards, Joins.Pieces.joined}
use Rattle.desk_core.proofs.card_pieces.are_both_of.Given as goal

abbrev pub invariant-loop-piece : goal.invariant-loop-piece
invariant-loop-piece l =
    ((same_cards l.cards (joined l.pieces) && same_cards l.others (joined l.pieces))
    ≡ (same_cards l.left (joined (drop l.piece-index l.pieces)) && same_cards l.right (joined (drop l.piece-index l.pieces))))
    × (length l.right ≡ length l.left)
