-- Sums taken apart, in the words of the definitions (COMPASS 60492600, CPU instructions).
use Rattle.std.specs.Prelude.{ℕ, ◌≡◌, ◌+◌, ◌<◌, List, [], ◌∷◌, ◌++◌, length, Option, Some, None, Bool, true, false}
use Rattle.definitions.specs.{Characters.zero_digit, Symbols.Register, Expressions.{Sign, Expression, Operator, OperatorElement, grouped}, Matching.{Field, NoField, OfK, sign_text, is_none_yet, onto_sum, sum_field}}
use Rattle.definitions.specs.Matching as matching
use Rattle.expr_forms.specs.{declared.sums.SumRegisters.SumRegisters, declared.sums.Sum.Sum, declared.sums.Parts.Parts, Joins.Elements.sign_as, Joins.LoneRegisters.{joins_terms, has_terms}}
use Rattle.expr_forms.specs.declared.sums.SumRegisters.TheVariants as registers

-- a text of registers with one more
abbrev pub with_register : List ℕ → Operator → Register → List ℕ
with_register text operator r = text ++ (sign_text (is_none_yet text) operator ++ r.letter ∷ (zero_digit + r.digit) ∷ [])

-- the registers have this text, or it has more than 6 characters
abbrev pub AreRegisters : SumRegisters → List ℕ → Type 0
AreRegisters (registers.Text text) spelt = text ≡ spelt
AreRegisters registers.TooMany spelt = 6 < length spelt

-- K of an expression, no field where there is none
abbrev pub field_of : Option Expression → Field
field_of None = NoField
field_of (Some e) = OfK e

-- a sum of the code is one of the definitions: its registers, and the field K of its other terms
abbrev pub IsSum : Sum → matching.Sum → Type 0
IsSum sum of = AreRegisters sum.registers of.registers × (field_of sum.others ≡ sum_field of.sign of.others)

-- a sum with one term more, where a link begins one, by the links behind it
abbrev pub onto_sum_by : Bool → OperatorElement → List OperatorElement → matching.Sum → matching.Sum
onto_sum_by false pair factors sum = sum
onto_sum_by true pair factors sum = onto_sum (record { operator = pair.operator; element = pair.element; factors = factors }) pair.element factors sum

abbrev pub onto_sum_link : OperatorElement → List OperatorElement → matching.Sum → matching.Sum
onto_sum_link pair behind sum = onto_sum_by (joins_terms pair.operator) pair (grouped behind).factors sum

-- what is found so far is a sum: its sign, its registers, and whether it has other terms
abbrev pub HasParts : Parts → matching.Sum → Type 0
HasParts parts sum = (sign_as parts.sign ≡ sum.sign) × AreRegisters parts.registers sum.registers × (parts.others ≡ has_terms sum.others)

-- a sum of this sign of which no term is found yet
abbrev pub sum_from : Sign → matching.Sum
sum_from sign = record { sign = sign; registers = []; others = [] }
