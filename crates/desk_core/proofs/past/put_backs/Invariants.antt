use Rattle.std.proofs.Common.{◌≡◌, ◌-◌, length, take, drop}
use Rattle.desk_core.specs.Joins.Stored.{backs_from}
use Rattle.desk_core.proofs.past.put_backs.Given as goal

abbrev pub invariant-loop-count : goal.invariant-loop-count
invariant-loop-count l = (length l.edits ≡ length l.backs) × (take l.count l.edits ≡ backs_from (drop (length l.backs - l.count) l.backs))
