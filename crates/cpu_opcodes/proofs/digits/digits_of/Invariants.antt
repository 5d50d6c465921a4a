use Rattle.std.proofs.Common.{◌≡◌, ◌+◌, ◌*◌, ◌^◌, ◌≤◌, length, drop}
use Rattle.definitions.specs.Matching.{code_digits, octal_number}
use Rattle.cpu_opcodes.specs.Joins.RegistersFound.{digits_as}
use Rattle.cpu_opcodes.proofs.digits.digits_of.Given as goal

-- the number so far, and the digits behind it, make the number of all
abbrev pub invariant-loop-i : goal.invariant-loop-i
invariant-loop-i l = record {
  rest : octal_number l.number (code_digits (digits_as l.registers) (drop l.i l.text)) ≡ octal_number 0 (code_digits (digits_as l.registers) l.text);
  count : l.i + length (code_digits (digits_as l.registers) (drop l.i l.text)) ≡ length (code_digits (digits_as l.registers) l.text);
  bound : l.number + 37 ≤ 37 * 8 ^ l.i;
}
