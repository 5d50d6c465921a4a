use Rattle.std.proofs.Common.{◌≡◌, ◌+◌, length, take}
use Rattle.desk_core.specs.Joins.Pieces.{joined}
use Rattle.desk_core.proofs.card_pieces.spot_of.Given as goal

abbrev pub invariant-loop-number : goal.invariant-loop-number
invariant-loop-number l = length (joined (take l.number l.pieces)) + l.left ≡ l.place
