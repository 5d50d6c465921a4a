use Rattle.std.proofs.Common.{◌≡◌, length}
use Rattle.definitions.specs.Matching.{matched}
use Rattle.cpu_opcodes.specs.Joins.RegistersFound.{digits_as}
use Rattle.cpu_opcodes.proofs.text_match.matched.Given as goal

-- what is left fits what is left of the pattern where the whole fits the whole
abbrev pub invariant-characters : goal.invariant-characters
invariant-characters l = matched l.ps l.cs (digits_as l.found) ≡ matched l.pattern l.text (digits_as l.fn.registers)

abbrev pub decreases-characters : goal.decreases-characters
decreases-characters l = length l.ps
