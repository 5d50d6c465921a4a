use Rattle.std.{proofs.Common.{◌≡◌, ◌-◌, sym, arith, get_or, true}, specs.Prelude.is_some}
use Rattle.definitions.{specs.Characters.display_code_of, specs.declared.characters.TheConstants.CODES, proofs.CharacterLaws.{display_code_of-place, character_of-display_code_of}}
use Rattle.definitions.proofs.characters.display_of.Goals as goal

pub returns-then-has_display_code-clause-code : goal.returns-then-has_display_code-clause-code
returns-then-has_display_code-clause-code c =
    let has : is_some (display_code_of c.args.byte) ≡ true = sym c.if-has_display_code.ensures in
    let is : c.from.result ≡ c.args.byte - 32 = omega arith in
    display_code_of-place c.args.byte c.from.result c.ranges.byte.fits has is

pub returns-then-has_display_code-clause-back : goal.returns-then-has_display_code-clause-back
returns-then-has_display_code-clause-back c =
    let has : is_some (display_code_of c.args.byte) ≡ true = sym c.if-has_display_code.ensures in
    let is : c.from.result ≡ c.args.byte - 32 = omega arith in
    character_of-display_code_of c.args.byte (get_or CODES c.from.result 0)
    (sym (display_code_of-place c.args.byte c.from.result c.ranges.byte.fits has is))
