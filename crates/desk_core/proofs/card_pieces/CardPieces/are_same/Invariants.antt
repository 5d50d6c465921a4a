use Rattle.std.proofs.Common.{◌≡◌, drop}
use Rattle.desk_core.specs.{Delivering.same_cards, Joins.Pieces.joined}
use Rattle.desk_core.proofs.card_pieces.CardPieces.are_same.Given as goal

abbrev pub invariant-loop-piece : goal.invariant-loop-piece
invariant-loop-piece l = same_cards l.cards (joined l.piece-items) ≡ same_cards l.left (joined (drop l.piece-index l.piece-items))
