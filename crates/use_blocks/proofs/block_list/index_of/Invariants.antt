use Rattle.std.{proofs.Common.{◌≡◌, ◌+◌, drop}, specs.List.prefix_len}
use Rattle.use_blocks.specs.Joins.StateInside.{is_other}
use Rattle.use_blocks.proofs.block_list.index_of.Given as goal

-- the blocks so far, and those behind them that have other names, are all that have
abbrev pub invariant-loop-i : goal.invariant-loop-i
invariant-loop-i l = l.i + prefix_len (is_other l.name) (drop l.i l.blocks) ≡ prefix_len (is_other l.name) l.blocks
