use Rattle.std.proofs.Common.{◌≡◌, ◌≤◌, ◌+◌, length}
use Rattle.definitions.specs.Pieces.{AtStart}
use Rattle.expr_forms.specs.Joins.Subfields.{subfield_len}
use Rattle.expr_forms.proofs.subfields.first_len.Given as goal

-- what was read, and how long the subfield is from there on, is the whole subfield
abbrev pub invariant-parts : goal.invariant-parts
invariant-parts l =
    (length l.rest ≤ length l.text) × (subfield_len AtStart 0 l.text + length l.rest ≡ length l.text + subfield_len AtStart 0 l.rest)

abbrev pub decreases-parts : goal.decreases-parts
decreases-parts l = length l.rest
