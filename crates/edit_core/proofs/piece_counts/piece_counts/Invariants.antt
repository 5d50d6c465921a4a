use Rattle.std.proofs.Common.{◌≡◌, take}
use Rattle.edit_core.specs.Records.{piece_counts}
use Rattle.edit_core.proofs.piece_counts.piece_counts.Given as goal

abbrev pub invariant-loop-piece : goal.invariant-loop-piece
invariant-loop-piece l = l.counts.items ≡ piece_counts (take l.piece-index l.pieces)
