-- Numbers in range.
use Rattle.std.specs.Prelude.{ℤ, Result, Ok, Err, if◌then◌else◌}
use Rattle.definitions.specs.{Forms.is_in_range, declared.letter.Letter.Letter}
use Rattle.definitions.specs.declared.letter.Letter.TheVariants as letter

-- a number, or A where it is out of range
abbrev pub ranged : ℤ → Result ℤ Letter
ranged number = if is_in_range number then Ok number else Err letter.A
