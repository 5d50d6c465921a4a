-- Checked arithmetic against the range of values.
use Rattle.std.{proofs.Common.{◌≡◌, zero, suc, ne_eqb, Bool, Option, Some, None, refl, sym, ap, arith, if◌then◌else◌}, specs.Prelude.{ℤ, pos, negsuc, int_div, Err, FitsSigned}, specs.Int.{w64, IsNonZero}, specs.Option.SomeIff}
use Rattle.definitions.specs.{Forms.{in_range, quotient}}
use Rattle.definitions.specs.declared.letter.Letter.TheVariants as letter

-- a division by what is not 0
pub divided : (o : Option ℤ) (b v : ℤ) → IsNonZero w64 b → SomeIff o (IsNonZero w64 b × FitsSigned w64 v) v → SomeIff o (FitsSigned w64 v) v
divided None b v some far = λ fits. far (some, fits)
divided (Some x) b v some is = (is.0.1, is.1)

-- a divisor that is not 0
pub quotient-some : (a b : ℤ) → IsNonZero w64 b → in_range (int_div a b) ≡ quotient a b
quotient-some a (pos zero) some = absurd (omega arith)
quotient-some a (pos (suc n)) some =
    ap (λ (t : Bool). if t then Err letter.Z else in_range (int_div a (pos (suc n)))) (sym (ne_eqb (suc n) 0 (λ e. absurd (omega arith))))
quotient-some a (negsuc n) some = refl
