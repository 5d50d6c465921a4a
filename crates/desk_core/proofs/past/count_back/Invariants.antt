use Rattle.std.proofs.Common.{◌≡◌, ◌-◌, drop, length}
use Rattle.desk_core.specs.Joins.{Edits.edited_by, Stored.backs_from}
use Rattle.desk_core.proofs.past.count_back.Given as goal

abbrev pub invariant-loop-gone : goal.invariant-loop-gone
invariant-loop-gone l = l.count ≡ length (edited_by (backs_from (drop (length l.backs - l.gone) l.backs)) l.cards)
