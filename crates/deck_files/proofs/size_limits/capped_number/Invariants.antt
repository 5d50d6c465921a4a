use Rattle.std.proofs.Common.{◌≡◌, ◌^◌, min, take}
use Rattle.definitions.specs.Numerals.{number_of}
use Rattle.deck_files.proofs.size_limits.capped_number.Given as goal

abbrev pub invariant-loop-digit : goal.invariant-loop-digit
invariant-loop-digit l = l.number ≡ min (number_of 10 (take l.digit-index l.digits)) (2 ^ 60)
