-- An expression by its sign, its first element and what is behind it.
use Rattle.std.{proofs.Common.{◌≡◌, ◌≢◌, ℕ, ◌+◌, ◌*◌, ◌≤◌, inl, inr, List, [], ◌∷◌, length, Bool, true, false, ◌==◌, if◌then◌else◌, Option, Some, None, refl, sym, ◌∙◌, ap, subst, arith, length-append, zero, suc, ne_eqb}, specs.Prelude.{is_some, unwrap_or}}
use Rattle.definitions.{specs.CountedItems.{CountedSpan, counted_item_at}, specs.Pieces.{Mark, Comma, Plus, Minus, Star, Slash, Equals, Spot, Inside, Begun, ByMark, ByCountedItem, ByOther, Piece, IsMark, IsCountedItem, Plain, mark_of, begun_by, begun_by_counted_item, begun_at, spot_behind, left_of, onto_plain, onto_pieces, pieces_at, pieces_of}, specs.Expressions.{Sign, NoSign, OfNumber, OfCountedItem, Element, ANumber, ACountedItem, ASymbol, ARegister, LocationCounter, OriginCounter, ALiteral, Add, OperatorElement, onto_pairs, grouped, with_sign, expression_of}, specs.Laws.Grammar.{IsElement, operator_of}, specs.declared.number_base.NumberBase.NumberBase, proofs.GrammarLaws.{link_of, AreLinks, pairs_of-read, pairs_from}}
use Rattle.expr_forms.{specs.Joins.Links.{pairs_behind, links_behind}, proofs.PieceLaws.pieces_begun}

-- pieces that are read without a sign
abbrev Unsigned : NumberBase → List Piece → Type 0
Unsigned base pieces = expression_of base pieces ≡ with_sign NoSign (pairs_from base Add pieces)

unsigned-run : (base : NumberBase) (c : ℕ) (pieces : List Piece) → Unsigned base (onto_plain c pieces)
unsigned-run base c [] = refl
unsigned-run base c (Plain text ∷ pieces) = refl
unsigned-run base c (IsMark mark ∷ pieces) = refl
unsigned-run base c (IsCountedItem item ∷ pieces) = refl

-- the mark that the tests of a character show
abbrev pub mark_by : Bool → Bool → Bool → Bool → Bool → Option Mark
mark_by comma plus minus star slash =
    if comma then Some Comma else if plus then Some Plus else if minus then Some Minus
    else if star then Some Star else if slash then Some Slash else None

unsigned-mark : (base : NumberBase) (c : ℕ) (cs : List ℕ) (comma star slash : Bool) → Unsigned base (pieces_begun (begun_by c (mark_by comma false false star slash)) cs)
unsigned-mark base c cs true star slash = refl
unsigned-mark base c cs false true slash = refl
unsigned-mark base c cs false false true = refl
unsigned-mark base c cs false false false = unsigned-run base c (pieces_at Inside 0 cs)

unsigned-plain : (base : NumberBase) (c : ℕ) (cs : List ℕ) (plus minus : Bool) → (c == 43) ≡ plus → (c == 45) ≡ minus → plus ≡ false → minus ≡ false →
    Unsigned base (pieces_begun (begun_by c (mark_of c)) cs)
unsigned-plain base c cs plus minus p m np nm =
    let e : mark_of c ≡ mark_by (c == 44) false false (c == 42) (c == 47) = ap (λ (t : Bool). mark_by (c == 44) t (c == 45) (c == 42) (c == 47)) (p ∙ np) ∙ ap (λ (t : Bool). mark_by (c == 44) false t (c == 42) (c == 47)) (m ∙ nm) in
    let P : Option Mark → Type 0 = λ o. Unsigned base (pieces_begun (begun_by c o) cs) in
    subst P (sym e) (unsigned-mark base c cs (c == 44) (c == 42) (c == 47))

unsigned-item : (base : NumberBase) (c : ℕ) (cs : List ℕ) (o : Option CountedSpan) → (c == 43) ≡ false → (c == 45) ≡ false →
    Unsigned base (pieces_begun (begun_by_counted_item c o) cs)
unsigned-item base c cs None p m = unsigned-plain base c cs false false p m refl refl
unsigned-item base c cs (Some counted) p m = refl

unsigned-equals : (base : NumberBase) (c : ℕ) (cs : List ℕ) (equals : Bool) → (c == 43) ≡ false → (c == 45) ≡ false →
    Unsigned base (pieces_begun (if equals then ByMark Equals else begun_by_counted_item c (counted_item_at (c ∷ cs))) cs)
unsigned-equals base c cs true p m = refl
unsigned-equals base c cs false p m = unsigned-item base c cs (counted_item_at (c ∷ cs)) p m

-- no sign in front
pub signed-other : (base : NumberBase) (text body : List ℕ) (c : ℕ) → text ≡ c ∷ body → c ≢ 43 → c ≢ 45 →
    expression_of base (pieces_of text) ≡ with_sign NoSign (pairs_from base Add (pieces_of text))
signed-other base text body c t p m =
    let P : List ℕ → Type 0 = λ s. Unsigned base (pieces_of s) in
    subst P (sym t) (unsigned-equals base c body (c == 61) (ne_eqb c 43 p) (ne_eqb c 45 m))

-- lawful links behind an element make an expression
pub parsed : (base : NumberBase) (sign : Sign) (element : Element) (rest : List ℕ) (x : Option (List OperatorElement)) → is_some x ≡ true →
    with_sign sign (onto_pairs (operator_of sign) (Some element) x)
    ≡ Some (record { sign = sign; terms = (grouped (link_of (operator_of sign) element ∷ unwrap_or x [])).terms })
parsed base sign element rest None e = cc
parsed base sign element rest (Some pairs) e = refl

-- what is behind an element and is not lawful makes none
pub refused : (sign : Sign) (element : Element) (x : Option (List OperatorElement)) → is_some x ≡ false →
    with_sign sign (onto_pairs (operator_of sign) (Some element) x) ≡ None
refused sign element None e = refl
refused sign element (Some pairs) e = cc

-- an element has at least one piece
IsElement-some : (base : NumberBase) (element : Element) (pieces : List Piece) → IsElement base element pieces → 1 ≤ length pieces
IsElement-some base (ANumber number) pieces (text, run, spelt) = omega (arith, ap length spelt)
IsElement-some base (ACountedItem item) pieces spelt = omega (arith, ap length spelt)
IsElement-some base (ASymbol name) pieces (text, run, spelt) = omega (arith, ap length spelt)
IsElement-some base (ARegister register) pieces (text, r, spelt) = omega (arith, ap length spelt)
IsElement-some base LocationCounter pieces (inl spelt) = omega (arith, ap length spelt)
IsElement-some base LocationCounter pieces (inr spelt) = omega (arith, ap length spelt)
IsElement-some base OriginCounter pieces spelt = omega (arith, ap length spelt)
IsElement-some base (ALiteral (OfNumber sign number)) pieces (text, n, spelt) = omega (arith, ap length spelt)
IsElement-some base (ALiteral (OfCountedItem item)) pieces spelt = omega (arith, ap length spelt)

-- each link takes two pieces at least
AreLinks-few : (base : NumberBase) (pairs : List OperatorElement) (pieces : List Piece) → AreLinks base pairs pieces → 2 * length pairs ≤ length pieces
AreLinks-few base [] pieces none = omega arith
AreLinks-few base (pair ∷ pairs) pieces (front, rest, spelt, is, are) =
    let some : 1 ≤ length front = IsElement-some base pair.element front is in
    let others : 2 * length pairs ≤ length rest = AreLinks-few base pairs rest are in
    omega (arith, ap length spelt, length-append front rest)

-- a run that goes on is no piece more
length-onto_plain : (c : ℕ) (pieces : List Piece) → length (onto_plain c pieces) ≤ length pieces + 1
length-onto_plain c [] = omega arith
length-onto_plain c (Plain text ∷ pieces) = omega arith
length-onto_plain c (IsMark mark ∷ pieces) = omega arith
length-onto_plain c (IsCountedItem item ∷ pieces) = omega arith

length-onto_pieces : (begun : Begun) (pieces : List Piece) → length (onto_pieces begun pieces) ≤ length pieces + 1
length-onto_pieces (ByMark mark) pieces = omega arith
length-onto_pieces (ByCountedItem counted) pieces = omega arith
length-onto_pieces (ByOther c) pieces = length-onto_plain c pieces

-- each piece has a character at least
pub length-pieces_at : (spot : Spot) (left : ℕ) (text : List ℕ) → length (pieces_at spot left text) ≤ length text
length-pieces_at spot left [] = omega arith
length-pieces_at spot (suc left) (c ∷ cs) = omega (arith, length-pieces_at spot left cs)
length-pieces_at spot zero (c ∷ cs) =
    let begun : Begun = begun_at spot c cs in
    omega (arith, length-onto_pieces begun (pieces_at (spot_behind begun) (left_of begun) cs), length-pieces_at (spot_behind begun) (left_of begun) cs)

few_by : (base : NumberBase) (rest : List ℕ) (x : Option (List OperatorElement)) → pairs_behind base rest ≡ x → 2 * length (unwrap_or x []) ≤ length rest
few_by base rest None e = omega arith
few_by base rest (Some pairs) e =
    let are : 2 * length pairs ≤ length (pieces_at Inside 0 rest) = AreLinks-few base pairs (pieces_at Inside 0 rest) (pairs_of-read base (pieces_at Inside 0 rest) pairs e) in
    omega (arith, length-pieces_at Inside 0 rest)

-- links take two characters each at least
pub links_behind-few : (base : NumberBase) (rest : List ℕ) → 2 * length (links_behind base rest) ≤ length rest
links_behind-few base rest = few_by base rest (pairs_behind base rest) refl
