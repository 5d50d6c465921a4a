use Rattle.std.proofs.Common.{◌≡◌, ◌+◌, min, take}
use Rattle.definitions.specs.Numerals.{number_of}
use Rattle.session_commands.specs.Words.{greatest_number}
use Rattle.session_commands.proofs.words.capped_number.Given as goal

abbrev pub invariant-loop-digit : goal.invariant-loop-digit
invariant-loop-digit l = l.value ≡ min (number_of 10 (take l.digit-index l.digits)) (greatest_number + 1)
