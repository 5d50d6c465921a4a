use Rattle.std.proofs.Common.{◌≡◌, ◌++◌, drop}
use Rattle.desk_core.specs.Joins.Stored.{kept_both}
use Rattle.desk_core.proofs.past.kept_edits.Given as goal

abbrev pub invariant-loop-place : goal.invariant-loop-place
invariant-loop-place l = l.edits.items ++ kept_both (drop l.place l.made) (drop l.place l.backs) ≡ kept_both l.made l.backs
