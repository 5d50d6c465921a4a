use Rattle.std.proofs.Common.{◌≡◌, length}
use Rattle.session_commands.specs.Sought.{has_text}
use Rattle.session_commands.proofs.sought.has_text.Given as goal

-- the text stands in all columns where it stands in those that are left
abbrev pub invariant-loop-others : goal.invariant-loop-others
invariant-loop-others l = has_text l.text l.columns ≡ has_text l.text l.rest

abbrev pub decreases-loop-others : goal.decreases-loop-others
decreases-loop-others l = length l.rest
