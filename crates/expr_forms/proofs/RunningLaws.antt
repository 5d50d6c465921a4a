-- The bases of a sum, one more at a time.
use Rattle.std.{proofs.Common.{◌≡◌, ℕ, zero, suc, ◌+◌, ◌<◌, ◌≤◌, List, [], ◌∷◌, ◌++◌, Bool, true, false, not, cond, if◌then◌else◌, Option, Some, None, length, take, get_or, set, refl, sym, ◌∙◌, ap, subst, arith}, specs.Prelude.{ℤ, ◌+ℤ◌, unsigned_abs, map}, specs.List.prefix_len, proofs.lemmas.Int.ints, proofs.lemmas.List.{length-take-le, get_or-take, take_more_set, map_push}, proofs.Math.Seq.take-set-lt}
use Rattle.definitions.specs.{Forms.{Relocation, Part, Added, Subtracted, same_relocation, running_part, plus_relocation, plus_relocations, signed}, Expressions.{Operator, Times, Divide, Add, Subtract}}
use Rattle.expr_forms.specs.{Joins.FormsAs.relocation_as, Joins.Running.{base_as, is_other, AreSmall, part_times, part_relocation}, declared.running.Base.Base}

-- the size of a sum
pub abs-add : (n t : ℤ) → unsigned_abs (n +ℤ t) ≤ unsigned_abs n + unsigned_abs t
abs-add n t = omega (arith, ints)

-- how many bases stand before one
abbrev others : Relocation → List Base → ℕ
others r bs = prefix_len (is_other r) bs

others-cons : (r : Relocation) (b : Base) (bs : List Base) (s : Bool) → same_relocation r (relocation_as b.relocation) ≡ s →
    others r (b ∷ bs) ≡ cond (not s) (1 + others r bs) 0
others-cons r b bs s e = ap (λ (t : Bool). cond (not t) (1 + others r bs) 0) e

-- one base more times
abbrev pub again : Base → ℤ → Base
again b t = record { relocation = b.relocation; times = b.times +ℤ t }

plus-cons : (r : Relocation) (t : ℤ) (b : Base) (bs : List Base) (s : Bool) → same_relocation r (relocation_as b.relocation) ≡ s →
    plus_relocation r t (map base_as (b ∷ bs)) ≡ (if s then (relocation_as b.relocation, b.times +ℤ t) ∷ map base_as bs else base_as b ∷ plus_relocation r t (map base_as bs))
plus-cons r t b bs s e = ap (λ (u : Bool). if u then (relocation_as b.relocation, b.times +ℤ t) ∷ map base_as bs else base_as b ∷ plus_relocation r t (map base_as bs)) e

-- a base that is there is added to
abbrev IsFound : Relocation → ℤ → List Base → Base → ℕ → Type 0
IsFound r t bs b i = i ≡ others r bs → i < length bs → b ≡ get_or bs i b → map base_as (set bs i (again b t)) ≡ plus_relocation r t (map base_as bs)

found-by : (r : Relocation) (t : ℤ) (x : Base) (xs : List Base) (b : Base) (i : ℕ) (s : Bool) → same_relocation r (relocation_as x.relocation) ≡ s →
    ((j : ℕ) → IsFound r t xs b j) → IsFound r t (x ∷ xs) b i
found-by r t x xs b zero true e more here within is =
    ap (λ (y : Base). (relocation_as y.relocation, y.times +ℤ t) ∷ map base_as xs) is ∙ sym (plus-cons r t x xs true e)
found-by r t x xs b (suc i) true e more here within is =
    let none : suc i ≡ 0 = here ∙ others-cons r x xs true e in absurd (omega arith)
found-by r t x xs b zero false e more here within is =
    let some : 0 ≡ 1 + others r xs = here ∙ others-cons r x xs false e in absurd (omega arith)
found-by r t x xs b (suc i) false e more here within is =
    let next : suc i ≡ 1 + others r xs = here ∙ others-cons r x xs false e in
    let same : i ≡ others r xs = omega arith in
    let inside : i < length xs = omega arith in
    ap (λ (l : List (Relocation × ℤ)). base_as x ∷ l) (more i same inside is) ∙ sym (plus-cons r t x xs false e)

pub plus-found : (r : Relocation) (t : ℤ) (bs : List Base) (b : Base) (i : ℕ) → IsFound r t bs b i
plus-found r t [] b i here within is = absurd (omega arith)
plus-found r t (x ∷ xs) b i here within is = found-by r t x xs b i (same_relocation r (relocation_as x.relocation)) refl (plus-found r t xs b) here within is

new-by : (r : Relocation) (t : ℤ) (x : Base) (xs : List Base) (s : Bool) → same_relocation r (relocation_as x.relocation) ≡ s →
    (others r xs ≡ length xs → plus_relocation r t (map base_as xs) ≡ map base_as xs ++ (r, t) ∷ []) → others r (x ∷ xs) ≡ suc (length xs) →
    plus_relocation r t (map base_as (x ∷ xs)) ≡ base_as x ∷ (map base_as xs ++ (r, t) ∷ [])
new-by r t x xs true e more all = let none : 0 ≡ suc (length xs) = sym (others-cons r x xs true e) ∙ all in absurd (omega arith)
new-by r t x xs false e more all =
    let next : 1 + others r xs ≡ suc (length xs) = sym (others-cons r x xs false e) ∙ all in
    let same : others r xs ≡ length xs = omega arith in
    plus-cons r t x xs false e ∙ ap (λ (l : List (Relocation × ℤ)). base_as x ∷ l) (more same)

-- a base that is not there comes behind the others
pub plus-new : (r : Relocation) (t : ℤ) (bs : List Base) → others r bs ≡ length bs → plus_relocation r t (map base_as bs) ≡ map base_as bs ++ (r, t) ∷ []
plus-new r t [] all = refl
plus-new r t (x ∷ xs) all = new-by r t x xs (same_relocation r (relocation_as x.relocation)) refl (plus-new r t xs) all

-- a base among small ones is small
pub AreSmall-at : (most : ℕ) (bs : List Base) (b : Base) (i : ℕ) → AreSmall most (map base_as bs) → i < length bs → b ≡ get_or bs i b → unsigned_abs b.times ≤ most
AreSmall-at most [] b i small within is = absurd (omega arith)
AreSmall-at most (x ∷ xs) b zero small within is = let same : unsigned_abs b.times ≡ unsigned_abs x.times = ap (λ (y : Base). unsigned_abs y.times) is in let h : unsigned_abs x.times ≤ most = small.0 in omega arith
AreSmall-at most (x ∷ xs) b (suc i) small within is = AreSmall-at most xs b i small.1 (omega arith) is

-- more is allowed
pub AreSmall-le : (few most : ℕ) (rs : List (Relocation × ℤ)) → few ≤ most → AreSmall few rs → AreSmall most rs
AreSmall-le few most [] h small = tt
AreSmall-le few most (r ∷ rs) h small = (let s : unsigned_abs r.1 ≤ few = small.0 in omega arith, AreSmall-le few most rs h small.1)

small-by : (most : ℕ) (r x : Relocation) (t n : ℤ) (rs more : List (Relocation × ℤ)) (s : Bool) → unsigned_abs t ≤ 1 → unsigned_abs n ≤ most →
    AreSmall (most + 1) rs → AreSmall (most + 1) more → AreSmall (most + 1) (if s then (x, n +ℤ t) ∷ rs else (x, n) ∷ more)
small-by most r x t n rs more true once small others all = (let h : unsigned_abs (n +ℤ t) ≤ unsigned_abs n + unsigned_abs t = abs-add n t in omega arith, others)
small-by most r x t n rs more false once small others all = (omega arith, all)

-- one time more is one more at most
pub AreSmall-plus : (most : ℕ) (r : Relocation) (t : ℤ) (rs : List (Relocation × ℤ)) → unsigned_abs t ≤ 1 → AreSmall most rs → AreSmall (most + 1) (plus_relocation r t rs)
AreSmall-plus most r t [] once small = (omega arith, tt)
AreSmall-plus most r t (x ∷ rs) once small =
    small-by most r x.0 t x.1 rs (plus_relocation r t rs) (same_relocation r x.0) once small.0 (AreSmall-le most (most + 1) rs (omega arith) small.1) (AreSmall-plus most r t rs once small.1)

-- the bases of a room after one that is there is added to
pub add-found : (room front : List Base) (len i : ℕ) (r : Relocation) (t : ℤ) (b : Base) → front ≡ take len room → i ≡ others r front → i < len → len ≤ length room →
    b ≡ get_or room i b → map base_as (take len (set room i (again b t))) ≡ plus_relocation r t (map base_as (take len room))
add-found room front len i r t b e here below within is =
    let size : length (take len room) ≡ len = length-take-le len room within in
    let inside : i < length (take len room) = omega arith in
    let read : b ≡ get_or (take len room) i b = is ∙ sym (get_or-take len room i b below) in
    ap (map base_as) (take-set-lt len room i (again b t) below) ∙ plus-found r t (take len room) b i (here ∙ ap (others r) e) inside read

-- and after one that is not there comes behind the others
pub add-new : (room front : List Base) (len i : ℕ) (r : Relocation) (b : Base) → front ≡ take len room → i ≡ others r front → len ≤ i → i ≤ length front → len < length room →
    relocation_as b.relocation ≡ r → map base_as (take (len + 1) (set room len b)) ≡ plus_relocation r b.times (map base_as (take len room))
add-new room front len i r b e here above inside within is =
    let size : length (take len room) ≡ len = length-take-le len room (omega arith) in
    let all : others r (take len room) ≡ length (take len room) = (let a : others r (take len room) ≡ i = sym (here ∙ ap (others r) e) in let f : length front ≡ length (take len room) = ap length e in omega arith) in
    ap (map base_as) (take_more_set room len b within)
    ∙ (map_push base_as (take len room) b
    ∙ (ap (λ (x : Relocation). map base_as (take len room) ++ (x, b.times) ∷ []) is
    ∙ sym (plus-new r b.times (take len room) all)))

-- a base's times stay small
pub small-at : (room : List Base) (len i : ℕ) (b : Base) → len ≤ length room → i < len → b ≡ get_or room i b → AreSmall 1000 (map base_as (take len room)) → unsigned_abs b.times ≤ 1000
small-at room len i b within below is small =
    let size : length (take len room) ≡ len = length-take-le len room within in
    let inside : i < length (take len room) = omega arith in
    AreSmall-at 1000 (take len room) b i small inside (is ∙ sym (get_or-take len room i b below))

-- a base with other times
abbrev pub with_times : Base → ℤ → Base
with_times b n = record { relocation = b.relocation; times = n }

-- a part that is added or subtracted is one base more
pub plus-part : (o : Operator) (p : Part) (r : Relocation) (t : ℤ) (rs : List (Relocation × ℤ)) → r ≡ part_relocation p → t ≡ signed o (part_times p) →
    plus_relocation r t rs ≡ plus_relocations o (running_part (Some p)) rs
plus-part o (Added x) r t rs e f = ap (λ (y : Relocation). plus_relocation y t rs) e ∙ ap (λ (n : ℤ). plus_relocation x n rs) f
plus-part o (Subtracted x) r t rs e f = ap (λ (y : Relocation). plus_relocation y t rs) e ∙ ap (λ (n : ℤ). plus_relocation x n rs) f

abs-signed : (o : Operator) (p : Part) → unsigned_abs (signed o (part_times p)) ≤ 1
abs-signed Subtract (Added x) = omega arith
abs-signed Subtract (Subtracted x) = omega arith
abs-signed Add (Added x) = omega arith
abs-signed Add (Subtracted x) = omega arith
abs-signed Times (Added x) = omega arith
abs-signed Times (Subtracted x) = omega arith
abs-signed Divide (Added x) = omega arith
abs-signed Divide (Subtracted x) = omega arith

-- a form more is one time more at most
pub AreSmall-part : (most : ℕ) (o : Operator) (p : Option Part) (rs : List (Relocation × ℤ)) → AreSmall most rs → AreSmall (most + 1) (plus_relocations o (running_part p) rs)
AreSmall-part most o None rs small = AreSmall-le most (most + 1) rs (omega arith) small
AreSmall-part most o (Some p) rs small =
    subst (AreSmall (most + 1)) (plus-part o p (part_relocation p) (signed o (part_times p)) rs refl refl)
    (AreSmall-plus most (part_relocation p) (signed o (part_times p)) rs (abs-signed o p) small)
