use Rattle.std.proofs.Common.{◌≡◌, length}
use Rattle.session_line.specs.Errors.{deck_named}
use Rattle.session_line.proofs.errors.object_named.Given as goal

-- the first deck of the name among all is the first among those that are left
abbrev pub invariant-loop-shared : goal.invariant-loop-shared
invariant-loop-shared l = deck_named l.name l.objects ≡ deck_named l.name l.rest

abbrev pub decreases-loop-shared : goal.decreases-loop-shared
decreases-loop-shared l = length l.rest
