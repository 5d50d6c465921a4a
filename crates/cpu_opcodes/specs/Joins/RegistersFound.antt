-- The digits of registers as the definitions have them.
use Rattle.definitions.specs.Matching.{RegisterDigits}
use Rattle.cpu_opcodes.specs.declared.registers_found.RegistersFound.{RegistersFound}

-- the digits for i, j and k
abbrev pub digits_as : RegistersFound → RegisterDigits
digits_as registers = record { i = registers.i; j = registers.j; k = registers.k }
