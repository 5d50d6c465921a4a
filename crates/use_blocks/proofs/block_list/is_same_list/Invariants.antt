use Rattle.std.proofs.Common.{◌≡◌, take}
use Rattle.use_blocks.proofs.block_list.is_same_list.Given as goal

abbrev pub invariant-loop-i : goal.invariant-loop-i
invariant-loop-i l = take l.i l.blocks ≡ take l.i l.other
