-- Forms: the value of an expression is a number and at most one block or external with a sign
-- (COMPASS 60492600, evaluation of expressions; the range is ours).
use Rattle.std.specs.Prelude.{ℕ, ◌*◌, ◌+◌, ◌==◌, List, [], ◌∷◌, Option, Some, None, Result, Ok, Err, Bool, true, false, ◌&&◌, nat_le, length, fold, unwrap_or, ok_or, ℤ, pos, negsuc, ◌+ℤ◌, ◌*ℤ◌, neg_ℤ, unsigned_abs, int_div, if◌then◌else◌}
use Rattle.definitions.specs.{Characters.{display_code_of, same_text}, CountedItems.CountedItem, Symbols.{Number, Value, TooGreat, greatest}, Expressions.{Literal, Element, ANumber, ACountedItem, ASymbol, ARegister, LocationCounter, OriginCounter, ALiteral, Operator, Divide, Subtract, OperatorElement, Term, Expression}, declared.letter.Letter.Letter}
use Rattle.definitions.specs.declared.letter.Letter.TheVariants as letter

-- what is known at the link alone: where a block stands, what an external is; the literals block is `=`
pub data Relocation : Type 0 where
  Block : List ℕ → Relocation
  External : List ℕ → Relocation

-- a relocation that is added, or subtracted
pub data Part : Type 0 where
  Added : Relocation → Part
  Subtracted : Relocation → Part

-- a number, and the relocation that is added to it or subtracted from it, if there is one
pub record Form : Type 0 where
  pub number : ℤ
  pub part : Option Part

-- what an expression sees: symbols, literals, and the two counters
pub record Names : Type 0 where
  pub symbol : List ℕ → Option Form
  pub literal : Literal → Result Form Letter
  pub location : Form
  pub origin : Form

-- a number without a relocation
abbrev pub absolute : ℤ → Form
absolute number = record { number = number; part = None }

-- whether a form has no relocation
abbrev pub is_absolute : Form → Bool
is_absolute form = elim form.part [ None ↦ true | Some part ↦ false ]

-- below 0
abbrev pub is_negative : ℤ → Bool
is_negative (pos n) = false
is_negative (negsuc n) = true

-- from -(2^60 - 1) to 2^60 - 1
abbrev pub is_in_range : ℤ → Bool
is_in_range number = nat_le (unsigned_abs number) greatest

-- whether two relocations are the same block, or the same external
abbrev pub same_relocation : Relocation → Relocation → Bool
same_relocation (Block a) (Block b) = same_text a b
same_relocation (External a) (External b) = same_text a b
same_relocation _ _ = false

-- while a sum goes on: its number, and its relocations with what each is multiplied by
pub record Running : Type 0 where
  pub number : ℤ
  pub relocations : List (Relocation × ℤ)

-- the relocation of a form, once or -1 times, if it has one
abbrev pub running_part : Option Part → List (Relocation × ℤ)
running_part None = []
running_part (Some (Added relocation)) = (relocation, pos 1) ∷ []
running_part (Some (Subtracted relocation)) = (relocation, negsuc 0) ∷ []

-- a relocation so many times more among relocations
abbrev pub plus_relocation : Relocation → ℤ → List (Relocation × ℤ) → List (Relocation × ℤ)
plus_relocation relocation times [] = (relocation, times) ∷ []
plus_relocation relocation times (other ∷ others) = if same_relocation relocation other.0 then (other.0, other.1 +ℤ times) ∷ others else other ∷ plus_relocation relocation times others

-- whether a number is 0
abbrev pub is_zero : ℤ → Bool
is_zero (pos n) = n == 0
is_zero (negsuc n) = false

-- the relocations whose multiple is not 0
abbrev pub remaining : List (Relocation × ℤ) → List (Relocation × ℤ)
remaining [] = []
remaining (relocation ∷ relocations) = if is_zero relocation.1 then remaining relocations else relocation ∷ remaining relocations

-- no relocation, or one of them once
abbrev pub part_of : ℤ → List (Relocation × ℤ) → Result Form Letter
part_of number [] = Ok (absolute number)
part_of number (relocation ∷ []) =
    if unsigned_abs relocation.1 == 1
    then Ok (record { number = number; part = Some (if is_negative relocation.1 then Subtracted relocation.0 else Added relocation.0) })
    else Err letter.R
part_of number (relocation ∷ other ∷ relocations) = Err letter.R

-- the number that an item's codes make
abbrev pub characters_number : List ℕ → ℕ
characters_number characters = fold (λ value c. value * 64 + unwrap_or (display_code_of c) 0) 0 characters

-- an item in an expression is its number; more than 10 characters are A
abbrev pub counted_item_form : CountedItem → Result Form Letter
counted_item_form item = if nat_le (length item.characters) 10 then Ok (absolute (pos (characters_number item.characters))) else Err letter.A

-- the value of a number; one above the greatest is A
abbrev pub number_form : Number → Result Form Letter
number_form (Value n) = Ok (absolute (pos n))
number_form TooGreat = Err letter.A

-- the value of an element, or its letter: U of a symbol that has no definition that is seen
abbrev pub element_form : Names → Element → Result Form Letter
element_form names (ANumber number) = number_form number
element_form names (ACountedItem item) = counted_item_form item
element_form names (ASymbol name) = ok_or (names.symbol name) letter.U
element_form names (ARegister register) = Err letter.V
element_form names LocationCounter = Ok names.location
element_form names OriginCounter = Ok names.origin
element_form names (ALiteral literal) = names.literal literal

-- an absolute value, or A where it is out of range
abbrev pub in_range : ℤ → Result Form Letter
in_range number = if is_in_range number then Ok (absolute number) else Err letter.A

-- one number divided by another, without the fraction; division by 0 is Z
abbrev pub quotient : ℤ → ℤ → Result Form Letter
quotient a b = if is_zero b then Err letter.Z else in_range (int_div a b)

-- a product or a quotient of absolute forms
abbrev pub combined : Operator → Form → Form → Result Form Letter
combined Divide a b = if is_absolute a && is_absolute b then quotient a.number b.number else Err letter.R
combined _ a b = if is_absolute a && is_absolute b then in_range (a.number *ℤ b.number) else Err letter.R

-- what comes of a value, or the letter of the fault that is there in its place
abbrev pub and_then : {A B : Type 0} → Result A Letter → (A → Result B Letter) → Result B Letter
and_then (Err fault) next = Err fault
and_then (Ok value) next = next value

-- a product or a quotient whose second operand may be faulty; that fault goes before the operation's own
abbrev pub combined_with : Operator → Form → Result Form Letter → Result Form Letter
combined_with operator a second = and_then second (λ b. combined operator a b)

-- an element's form, and then its factors from left to right
abbrev pub product : Names → Result Form Letter → List OperatorElement → Result Form Letter
product names first [] = first
product names first (pair ∷ pairs) = product names (and_then first (λ form. combined_with pair.operator form (element_form names pair.element))) pairs

-- a number, with the other sign where it is subtracted
abbrev pub signed : Operator → ℤ → ℤ
signed Subtract n = neg_ℤ n
signed _ n = n

-- relocations added to those of a running sum, or subtracted from them
abbrev pub plus_relocations : Operator → List (Relocation × ℤ) → List (Relocation × ℤ) → List (Relocation × ℤ)
plus_relocations operator [] relocations = relocations
plus_relocations operator (relocation ∷ others) relocations = plus_relocations operator others (plus_relocation relocation.0 (signed operator relocation.1) relocations)

-- a running sum, or A where its number is out of range
abbrev pub running_in_range : Running → Result Running Letter
running_in_range running = if is_in_range running.number then Ok running else Err letter.A

-- the sum so far and one term more
abbrev pub plus_term : Operator → Running → Result Form Letter → Result Running Letter
plus_term operator running term = and_then term (λ form.
    running_in_range (record { number = running.number +ℤ signed operator form.number; relocations = plus_relocations operator (running_part form.part) running.relocations }))

-- the sum so far and all terms behind it, or the letter of the first fault
abbrev pub sum_from : Names → Result Running Letter → List Term → Result Running Letter
sum_from names so_far [] = so_far
sum_from names so_far (term ∷ terms) =
    sum_from names (and_then so_far (λ running. plus_term term.operator running (product names (element_form names term.element) term.factors))) terms

-- the value of a finished sum, in which at most one relocation is left
abbrev pub closed : Result Running Letter → Result Form Letter
closed sum = and_then sum (λ running. part_of running.number (remaining running.relocations))

-- the value of an expression, or the letter of its first fault from left to right
abbrev pub value_of : Names → Expression → Result Form Letter
value_of names e = closed (sum_from names (Ok (record { number = pos 0; relocations = [] })) e.terms)
