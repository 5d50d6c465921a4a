use Rattle.std.{proofs.Common.{◌≡◌, ◌+◌, ◌++◌, length, take}, specs.Prelude.{vec_len, vec_capacity}}
use Rattle.desk_core.specs.Joins.Pieces.{joined}
use Rattle.desk_core.proofs.card_pieces.CardPieces.append_to.Given as goal

abbrev pub invariant-loop-piece : goal.invariant-loop-piece
invariant-loop-piece l =
    (l.cards.items ≡ l.initial.cards.items ++ joined (take l.piece-index l.piece-items))
    × ((vec_len l.cards ≡ vec_len l.initial.cards + length (joined (take l.piece-index l.piece-items))) × (vec_capacity l.cards ≡ vec_capacity l.initial.cards))
