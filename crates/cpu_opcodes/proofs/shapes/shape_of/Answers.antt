use Rattle.std.{proofs.Common.{◌≤◌, ◌<◌, ◌^◌, length, sym, subst, arith}, specs.Prelude.nat_le, proofs.lemmas.Bool.and_parts}
use Rattle.definitions.specs.Matching.{octal_number, code_digits}
use Rattle.cpu_opcodes.{specs.Joins.CodeTexts.code_text, specs.Joins.RegistersFound.digits_as, specs.Joins.LawfulCodes.{sevens, are_octal}, proofs.CodeLaws.{AreOctal, number-room}}
use Rattle.cpu_opcodes.proofs.shapes.shape_of.Goals as goal

pub overflow_cast-result : goal.overflow_cast-result
overflow_cast-result c =
    let code = code_text c.args.code in
    let found = c.args.found.registers in
    let octal : AreOctal (digits_as found) = record { i = found.octal_i; j = found.octal_j; k = found.octal_k } in
    let lawful = and_parts (nat_le 1 (length code)) (are_octal (code_digits sevens code)) c.requires in
    let few : length (code_digits (digits_as found) code) ≤ 10 = subst (λ n. n ≤ 10) c.digits-digits.ensures.count c.digits-digits.ensures.within in
    let room : octal_number 0 (code_digits (digits_as found) code) < 2 ^ 32 = number-room (digits_as found) code octal lawful.1 few in
    let small : c.digits-digits.result.number < 2 ^ 32 = subst (λ n. n < 2 ^ 32) (sym c.digits-digits.ensures.number) room in
    omega (arith, small)
