use Rattle.std.proofs.Common.{◌≡◌, ◌-◌, drop, length}
use Rattle.desk_core.specs.Joins.Stored.{backs_from}
use Rattle.desk_core.proofs.past.backs_from.Given as goal

abbrev pub invariant-loop-count : goal.invariant-loop-count
invariant-loop-count l = l.edits.items ≡ backs_from (drop (length l.backs - l.count) l.backs)
