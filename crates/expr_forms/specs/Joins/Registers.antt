-- Registers of the code, in the words of the definitions.
use Rattle.std.specs.Prelude.{ℕ}
use Rattle.definitions.specs.Symbols.{Register}
use Rattle.expr_forms.specs.declared.register.Register as code
use Rattle.expr_forms.specs.declared.register.RegisterKind as kinds
use Rattle.expr_forms.specs.declared.register.RegisterKind.TheVariants as kind

-- the letter of a kind
abbrev pub letter_of : kinds.RegisterKind → ℕ
letter_of kind.A = 65
letter_of kind.B = 66
letter_of kind.X = 88

-- the register
abbrev pub register_as : code.Register → Register
register_as register = record { letter = letter_of register.kind; digit = register.digit }
