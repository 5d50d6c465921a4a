use Rattle.std.proofs.Common.{◌≡◌, take}
use Rattle.desk_core.proofs.card_pieces.CardPieces.share.Given as goal

abbrev pub invariant-loop-piece : goal.invariant-loop-piece
invariant-loop-piece l = l.pieces.items ≡ take l.piece-index l.piece-items
