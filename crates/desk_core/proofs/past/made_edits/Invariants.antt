use Rattle.std.proofs.Common.{◌≡◌, take}
use Rattle.desk_core.specs.Joins.Stored.{made_edits}
use Rattle.desk_core.proofs.past.made_edits.Given as goal

abbrev pub invariant-loop-edit : goal.invariant-loop-edit
invariant-loop-edit l = l.made.items ≡ made_edits l.version (take l.edit-index l.edits)
