use Rattle.std.proofs.Common.{◌≡◌, ◌^◌, min, take}
use Rattle.definitions.specs.Numerals.{number_of}
use Rattle.expr_forms.specs.Joins.Numbers.{radix}
use Rattle.expr_forms.proofs.numbers.capped_number.Given as goal

abbrev pub invariant-loop-digit : goal.invariant-loop-digit
invariant-loop-digit l = l.value ≡ min (number_of (radix l.base) (take l.digit-index l.digits)) (2 ^ 60)
