-- What is bound otherwise behind two edits is so behind one of them.
use Rattle.std.{proofs.Common.{◌≡◌, ◌+◌, ◌≤◌, ℕ, Bool, true, false, not, List, [], ◌∷◌, ◌++◌, Option, Some, None, cond, length, refl, sym, ap, ap₂, ◌∙◌, subst, arith, length-append}, specs.Prelude.{Result, Ok, Err, ◌&&◌, ◌||◌, map}, specs.List.{count_by, list_any}, proofs.lemmas.Bool.eqb-true, proofs.lemmas.Bool.Decides.{Decides-eqb, Decides-int_eq}, proofs.lemmas.List.Recursion.is_count_by}
use Rattle.definitions.{specs.Expressions.Element, specs.Forms.{Form, Relocation, Block, External, Part, Added, Subtracted, element_form, same_relocation}, specs.Laws.Rebound.{part_base, same_part, same_form, same_value, bound_alike, coded_elements, is_rebound}, specs.Settled.Settled, specs.Settling.settled_all, specs.StatementItems.{Context, final_names}, specs.Statements.Statement, specs.Laws.Agreement.{settled_tail, unnumbered}, specs.declared.deck_kind.DeckKind.DeckKind, specs.declared.letter.Letter.Letter, proofs.TailLaws.settled_all-append, proofs.TestLaws.{and_left, and_right, or_left, or_right, not_false}, proofs.TextLaws.same_text-true}
use Rattle.deck_assembler.{specs.Joins.DueCodes.one_where, proofs.AgreementLaws.between}

relocations-both : (a b c : Relocation) → same_relocation a b ≡ true → same_relocation b c ≡ true → same_relocation a c ≡ true
relocations-both (Block a) (Block b) (Block c) e f = subst (λ t. same_relocation (Block a) (Block t) ≡ true) (same_text-true b c f) e
relocations-both (External a) (External b) (External c) e f = subst (λ t. same_relocation (External a) (External t) ≡ true) (same_text-true b c f) e
relocations-both (Block a) (Block b) (External c) e f = cc
relocations-both (Block a) (External b) c e f = cc
relocations-both (External a) (External b) (Block c) e f = cc
relocations-both (External a) (Block b) c e f = cc

parts-both : (a b c : Option Part) → same_part a b ≡ true → same_part b c ≡ true → same_part a c ≡ true
parts-both None None c e f = f
parts-both None (Some b) c e f = cc
parts-both (Some (Added a)) None c e f = cc
parts-both (Some (Subtracted a)) None c e f = cc
parts-both (Some (Added a)) (Some (Subtracted b)) c e f = cc
parts-both (Some (Subtracted a)) (Some (Added b)) c e f = cc
parts-both (Some (Added a)) (Some (Added b)) None e f = cc
parts-both (Some (Added a)) (Some (Added b)) (Some (Subtracted c)) e f = cc
parts-both (Some (Added a)) (Some (Added b)) (Some (Added c)) e f = relocations-both a b c e f
parts-both (Some (Subtracted a)) (Some (Subtracted b)) None e f = cc
parts-both (Some (Subtracted a)) (Some (Subtracted b)) (Some (Added c)) e f = cc
parts-both (Some (Subtracted a)) (Some (Subtracted b)) (Some (Subtracted c)) e f = relocations-both a b c e f

forms-both : (old mid new : Context) (a b c : Form) → same_form old mid a b ≡ true → same_form mid new b c ≡ true → same_form old new a c ≡ true
forms-both old mid new a b c e f =
    let rest = and_right _ _ e in
    let more = and_right _ _ f in
    let numbers = (Decides-int_eq a.number b.number).0 (and_left _ _ e) ∙ (Decides-int_eq b.number c.number).0 (and_left _ _ f) in
    let bases = eqb-true (part_base old.rows a.part) (part_base mid.rows b.part) (and_right (same_part a.part b.part) _ rest)
    ∙ eqb-true (part_base mid.rows b.part) (part_base new.rows c.part) (and_right (same_part b.part c.part) _ more) in
    ap₂ (λ (x y : Bool). x && y) ((Decides-int_eq a.number c.number).1 numbers)
    (ap₂ (λ (x y : Bool). x && y) (parts-both a.part b.part c.part (and_left (same_part a.part b.part) _ rest) (and_left (same_part b.part c.part) _ more))
    ((Decides-eqb (part_base old.rows a.part) (part_base new.rows c.part)).1 bases))

values-both : (old mid new : Context) (a b c : Result Form Letter) → same_value old mid a b ≡ true → same_value mid new b c ≡ true → same_value old new a c ≡ true
values-both old mid new (Ok a) (Ok b) (Ok c) e f = forms-both old mid new a b c e f
values-both old mid new (Ok a) (Ok b) (Err c) e f = cc
values-both old mid new (Ok a) (Err b) c e f = cc
values-both old mid new (Err a) (Ok b) c e f = cc
values-both old mid new (Err a) (Err b) (Ok c) e f = cc
values-both old mid new (Err a) (Err b) (Err c) e f = refl

-- what is bound alike from each deck to the next is so from the first to the last
elements-both : (old mid new : Context) (settled : Settled) (elements : List Element) → list_any (λ element. not (bound_alike old mid settled element)) elements ≡ false →
    list_any (λ element. not (bound_alike mid new settled element)) elements ≡ false → list_any (λ element. not (bound_alike old new settled element)) elements ≡ false
elements-both old mid new settled [] e f = refl
elements-both old mid new settled (element ∷ elements) e f =
    let first = not_false _ (or_left _ _ e) in
    let second = not_false _ (or_left _ _ f) in
    ap₂ (λ (x y : Bool). not x || y)
    (values-both old mid new (element_form (final_names old settled) element) (element_form (final_names mid settled) element) (element_form (final_names new settled) element) first second)
    (elements-both old mid new settled elements (or_right _ _ e) (or_right _ _ f))

ones-both : (a b c : Bool) → (a ≡ false → b ≡ false → c ≡ false) → one_where c ≤ one_where a + one_where b
ones-both false false c h = let none = ap one_where (h refl refl) in omega (arith, none)
ones-both true b true h = omega arith
ones-both true b false h = omega arith
ones-both false true true h = omega arith
ones-both false true false h = omega arith

-- how many are bound otherwise, one after the other
abbrev pub rebounds : Context → Context → List Settled → ℕ
rebounds old new [] = 0
rebounds old new (settled ∷ earlier) = rebounds old new earlier + one_where (is_rebound old new settled)

pub rebounds-counted : (old new : Context) (settled : List Settled) → rebounds old new settled ≡ count_by (is_rebound old new) settled
rebounds-counted old new settled = is_count_by (rebounds old new) (is_rebound old new) refl (λ x xs. one (is_rebound old new x) (rebounds old new xs)) settled
  where
    one : (b : Bool) (n : ℕ) → n + one_where b ≡ cond b (1 + n) n
    one true n = omega arith
    one false n = omega arith

-- no more than from the first deck to the one between and from that to the last
pub rebounds-both : (old mid new : Context) (settled : List Settled) → rebounds old new settled ≤ rebounds old mid settled + rebounds mid new settled
rebounds-both old mid new [] = omega arith
rebounds-both old mid new (settled ∷ earlier) =
    let rest = rebounds-both old mid new earlier in
    let here = ones-both (is_rebound old mid settled) (is_rebound mid new settled) (is_rebound old new settled)
    (elements-both old mid new settled (coded_elements settled.read.operation settled.read.operand)) in
    omega (arith, rest, here)

pub rebounds-append : (old new : Context) (behind earlier : List Settled) → rebounds old new (behind ++ earlier) ≡ rebounds old new behind + rebounds old new earlier
rebounds-append old new [] earlier = omega arith
rebounds-append old new (settled ∷ behind) earlier = let rest = rebounds-append old new behind earlier in omega (arith, rest)

-- the numbers of cards bind nothing
pub rebounds-alike : (old new : Context) (first second : List Settled) → map unnumbered first ≡ map unnumbered second → rebounds old new first ≡ rebounds old new second
rebounds-alike old new first second e = plain first ∙ ap (rebounds old new) e ∙ sym (plain second)
  where
    plain : (settled : List Settled) → rebounds old new settled ≡ rebounds old new (map unnumbered settled)
    plain [] = refl
    plain (one ∷ settled) = ap (λ n. n + one_where (is_rebound old new one)) (plain settled)

-- those of a front are those of one within it and those behind that
pub front-rebounds : (kind : DeckKind) (old new : Context) (behind front : List Statement) →
    rebounds old new (settled_all kind (behind ++ front)) ≡ rebounds old new (settled_tail kind (settled_all kind front) behind) + rebounds old new (settled_all kind front)
front-rebounds kind old new behind front =
    ap (rebounds old new) (settled_all-append kind behind front) ∙ rebounds-append old new (settled_tail kind (settled_all kind front) behind) (settled_all kind front)

-- behind a longer front of a deck no more are bound otherwise
pub tail-rebounds : (kind : DeckKind) (old new : Context) (tail front other_tail other : List Statement) → tail ++ front ≡ other_tail ++ other → length other ≤ length front →
    rebounds old new (settled_tail kind (settled_all kind front) tail) ≤ rebounds old new (settled_tail kind (settled_all kind other) other_tail)
tail-rebounds kind old new tail front other_tail other e longer =
    let whole = ap length e in
    let parts = length-append tail front in
    let others = length-append other_tail other in
    let found = between other_tail other tail front (sym e) (omega (arith, longer, whole, parts, others)) in
    let all = ap (λ (l : List Statement). rebounds old new (settled_all kind l)) e in
    let first = front-rebounds kind old new tail front in
    let second = front-rebounds kind old new other_tail other in
    let middle = ap (λ (l : List Statement). rebounds old new (settled_all kind l)) found.of_earlier ∙ front-rebounds kind old new found.middle other in
    omega (arith, all, first, second, middle)
