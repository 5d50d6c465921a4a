use Rattle.std.proofs.Common.{◌∙◌, sym, ap, length}
use Rattle.definitions.specs.Matching.{octal_number}
use Rattle.cpu_opcodes.{specs.Joins.RegistersFound.digits_as, proofs.DigitLaws.code_digits-shortened}
use Rattle.cpu_opcodes.proofs.code.Code.digits.Goals as goal

pub returns-in-Short-clause-number : goal.returns-in-Short-clause-number
returns-in-Short-clause-number c = rw c.in-Short.is (c.digits_of.ensures.number ∙ ap (octal_number 0) (sym (code_digits-shortened (digits_as c.args.registers) c.in-Short.text)))

pub returns-in-Short-clause-count : goal.returns-in-Short-clause-count
returns-in-Short-clause-count c = rw c.in-Short.is (c.digits_of.ensures.count ∙ ap length (sym (code_digits-shortened (digits_as c.args.registers) c.in-Short.text)))

pub returns-in-Long-clause-number : goal.returns-in-Long-clause-number
returns-in-Long-clause-number c = rw c.in-Long.is (c.digits_of-in-Long.ensures.number ∙ ap (octal_number 0) (sym (code_digits-shortened (digits_as c.args.registers) c.in-Long.text)))

pub returns-in-Long-clause-count : goal.returns-in-Long-clause-count
returns-in-Long-clause-count c = rw c.in-Long.is (c.digits_of-in-Long.ensures.count ∙ ap length (sym (code_digits-shortened (digits_as c.args.registers) c.in-Long.text)))
