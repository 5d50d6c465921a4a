-- What the test of an element's two values shows: its form is the same in both decks, and its relocation stands where it stood.
use Rattle.std.{proofs.Common.{◌≡◌, ℕ, Bool, true, false, not, List, [], ◌∷◌, Option, Some, None, refl, sym, ap, ap₂, ◌∙◌, subst}, specs.Prelude.{⊤, Result, Ok, Err, nat_lt, pos, ok_or, if◌then◌else◌}, specs.List.{AllByRecursion, list_any}, proofs.lemmas.Bool.eqb-true, proofs.lemmas.Bool.Decides.Decides-int_eq}
use Rattle.definitions.{specs.Expressions.{Literal, OfNumber, OfCountedItem, Element, ANumber, ACountedItem, ASymbol, ARegister, LocationCounter, OriginCounter, ALiteral}, specs.Forms.{Relocation, Block, External, Part, Added, Subtracted, Form, same_relocation, element_form}, specs.Symbols.{Value, TooGreat}, specs.Blocks.literals_block, specs.Literals.{most_literals, literal_word, offset_of, offset_form, literal_form}, specs.Settled.{Settled, defined}, specs.StatementItems.{Context, final_names}, specs.Laws.Rebound.{relocation_base, part_base, same_part, same_form, same_value, bound_alike}, specs.declared.letter.Letter.Letter, proofs.NamesLaws.{OfPart, OfValue}, proofs.TestLaws.{and_left, and_right, or_left, or_right, not_false}, proofs.TextLaws.same_text-true}
use Rattle.definitions.specs.declared.letter.Letter.TheVariants as letter

-- a relocation stands at one base in both decks
abbrev pub Stands : Context → Context → Relocation → Type 0
Stands old new relocation = relocation_base old.rows relocation ≡ relocation_base new.rows relocation

relocations-same : (a b : Relocation) → same_relocation a b ≡ true → a ≡ b
relocations-same (Block a) (Block b) e = ap Block (same_text-true a b e)
relocations-same (External a) (External b) e = ap External (same_text-true a b e)
relocations-same (Block a) (External b) e = cc
relocations-same (External a) (Block b) e = cc

parts-same : (a b : Option Part) → same_part a b ≡ true → a ≡ b
parts-same None None e = refl
parts-same None (Some b) e = cc
parts-same (Some (Added a)) None e = cc
parts-same (Some (Subtracted a)) None e = cc
parts-same (Some (Added a)) (Some (Added b)) e = ap (λ r. Some (Added r)) (relocations-same a b e)
parts-same (Some (Subtracted a)) (Some (Subtracted b)) e = ap (λ r. Some (Subtracted r)) (relocations-same a b e)
parts-same (Some (Added a)) (Some (Subtracted b)) e = cc
parts-same (Some (Subtracted a)) (Some (Added b)) e = cc

forms-same : (old new : Context) (a b : Form) → same_form old new a b ≡ true → a ≡ b
forms-same old new a b e =
    let numbers = (Decides-int_eq a.number b.number).0 (and_left _ _ e) in
    let parts = parts-same a.part b.part (and_left (same_part a.part b.part) _ (and_right _ _ e)) in
    ap₂ (λ number part. record { number = number; part = part }) numbers parts

part-stands : (old new : Context) (a : Option Part) → part_base old.rows a ≡ part_base new.rows a → OfPart (Stands old new) a
part-stands old new None e = tt
part-stands old new (Some (Added relocation)) e = e
part-stands old new (Some (Subtracted relocation)) e = e

form-stands : (old new : Context) (a b : Form) → same_form old new a b ≡ true → OfPart (Stands old new) a.part
form-stands old new a b e =
    let bases = eqb-true (part_base old.rows a.part) (part_base new.rows b.part) (and_right (same_part a.part b.part) _ (and_right _ _ e)) in
    let parts = parts-same a.part b.part (and_left (same_part a.part b.part) _ (and_right _ _ e)) in
    part-stands old new a.part (subst (λ part. part_base old.rows a.part ≡ part_base new.rows part) (sym parts) bases)

value-stands : (old new : Context) (a b : Result Form Letter) → same_value old new a b ≡ true → OfValue (Stands old new) a
value-stands old new (Err fault) b e = tt
value-stands old new (Ok a) (Ok b) e = form-stands old new a b e
value-stands old new (Ok a) (Err fault) e = cc

-- a value, or A
abbrev IsValueOrA : Result Form Letter → Type 0
IsValueOrA (Ok form) = ⊤
IsValueOrA (Err fault) = fault ≡ letter.A

offset-or_A : (offset : ℕ) → IsValueOrA (offset_form offset)
offset-or_A offset = by (nat_lt offset most_literals)
  where
    by : (b : Bool) → IsValueOrA (if b then Ok (record { number = pos offset; part = Some (Added (Block literals_block)) }) else Err letter.A)
    by true = tt
    by false = refl

literal-or_A : (words : List ℕ) (literal : Literal) → IsValueOrA (literal_form words literal)
literal-or_A words (OfNumber sign TooGreat) = refl
literal-or_A words (OfNumber sign (Value n)) = offset-or_A (offset_of (literal_word (OfNumber sign (Value n))) words)
literal-or_A words (OfCountedItem item) = offset-or_A (offset_of (literal_word (OfCountedItem item)) words)

-- two values of a literal that test the same are one
literals-same : (old new : Context) (a b : Result Form Letter) → IsValueOrA a → IsValueOrA b → same_value old new a b ≡ true → a ≡ b
literals-same old new (Ok a) (Ok b) h k e = ap Ok (forms-same old new a b e)
literals-same old new (Err a) (Err b) h k e = ap Err (h ∙ sym k)
literals-same old new (Ok a) (Err b) h k e = cc
literals-same old new (Err a) (Ok b) h k e = cc

-- two values of a symbol that test the same are one
symbols-same : (old new : Context) (a b : Option Form) → same_value old new (ok_or a letter.U) (ok_or b letter.U) ≡ true → ok_or a letter.U ≡ ok_or b letter.U
symbols-same old new None None e = refl
symbols-same old new (Some a) (Some b) e = ap Ok (forms-same old new a b e)
symbols-same old new None (Some b) e = cc
symbols-same old new (Some a) None e = cc

-- two values of an element that test the same are one
elements-same : (old new : Context) (settled : Settled) (element : Element) → bound_alike old new settled element ≡ true →
    element_form (final_names old settled) element ≡ element_form (final_names new settled) element
elements-same old new settled (ANumber number) e = refl
elements-same old new settled (ACountedItem item) e = refl
elements-same old new settled (ASymbol name) e = symbols-same old new (defined name old.settled) (defined name new.settled) e
elements-same old new settled (ARegister register) e = refl
elements-same old new settled LocationCounter e = refl
elements-same old new settled OriginCounter e = refl
elements-same old new settled (ALiteral literal) e =
    literals-same old new (literal_form old.literals literal) (literal_form new.literals literal) (literal-or_A old.literals literal) (literal-or_A new.literals literal) e

-- an element is bound alike: it has one form, whose relocation stands where it stood
pub record IsBound (old new : Context) (settled : Settled) (element : Element) : Type 0 where
  pub alike : element_form (final_names old settled) element ≡ element_form (final_names new settled) element
  pub stands : OfValue (Stands old new) (element_form (final_names old settled) element)

-- elements of which none tests otherwise are bound alike
pub all-bound : (old new : Context) (settled : Settled) (elements : List Element) → list_any (λ element. not (bound_alike old new settled element)) elements ≡ false →
    AllByRecursion (IsBound old new settled) elements
all-bound old new settled [] e = tt
all-bound old new settled (element ∷ elements) e =
    let here : bound_alike old new settled element ≡ true = not_false (bound_alike old new settled element) (or_left _ _ e) in (
      record { alike = elements-same old new settled element here; stands = value-stands old new _ _ here },
      all-bound old new settled elements (or_right (not (bound_alike old new settled element)) _ e),
    )
