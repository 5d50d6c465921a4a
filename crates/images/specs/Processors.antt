-- The words of the two processors (6600 Computer System Reference Manual 60100000).
use Rattle.std.specs.Prelude.{ℕ}
use Rattle.images.specs.declared.processor.Processor.{Processor, TheVariants.{Central, Peripheral}}

-- how many hexadecimal digits a word has: 60 bits, or 12
abbrev pub hexadecimal_digits : Processor → ℕ
hexadecimal_digits Central = 15
hexadecimal_digits Peripheral = 3
