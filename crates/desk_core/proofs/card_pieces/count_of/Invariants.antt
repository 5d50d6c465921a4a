use Rattle.std.proofs.Common.{◌≡◌, ◌-◌, ◌^◌, min, length, take}
use Rattle.desk_core.specs.Joins.Pieces.{joined}
use Rattle.desk_core.proofs.card_pieces.count_of.Given as goal

abbrev pub invariant-loop-piece : goal.invariant-loop-piece
invariant-loop-piece l = l.count ≡ min (length (joined (take l.piece-index l.pieces))) (2 ^ 64 - 1)
