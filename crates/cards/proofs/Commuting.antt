-- Two changes of a list at two places, in both orders.
use Rattle.std.{specs.Prelude.{insert, remove}, proofs.Common.{ℕ, zero, suc, ◌≡◌, ◌≤◌, ◌<◌, List, [], ◌∷◌, length, refl, ap, arith}, proofs.Math.ListN.set}

-- of two elements that are put, the one in front first, or the other
pub insert-insert : {X : Type 0} (xs : List X) (i j : ℕ) (x y : X) → i ≤ j → j ≤ length xs → insert (insert xs i x) (suc j) y ≡ insert (insert xs j y) i x
insert-insert xs zero j x y before within = refl
insert-insert xs (suc i) zero x y before within = absurd (omega arith)
insert-insert [] (suc i) (suc j) x y before within = absurd (omega arith)
insert-insert (z ∷ xs) (suc i) (suc j) x y before within = ap (λ ws. z ∷ ws) (insert-insert xs i j x y (omega arith) (omega arith))

-- an element that is put behind one that is replaced
pub set-insert_behind : {X : Type 0} (xs : List X) (i j : ℕ) (x y : X) → i < j → j ≤ length xs → insert (set xs i x) j y ≡ set (insert xs j y) i x
set-insert_behind [] i j x y before within = absurd (omega arith)
set-insert_behind (z ∷ xs) i zero x y before within = absurd (omega arith)
set-insert_behind (z ∷ xs) zero (suc j) x y before within = refl
set-insert_behind (z ∷ xs) (suc i) (suc j) x y before within = ap (λ ws. z ∷ ws) (set-insert_behind xs i j x y (omega arith) (omega arith))

-- an element that is put in front of one that is replaced
pub set-insert_in_front : {X : Type 0} (xs : List X) (i j : ℕ) (x y : X) → j ≤ i → i < length xs → insert (set xs i x) j y ≡ set (insert xs j y) (suc i) x
set-insert_in_front xs i zero x y before within = refl
set-insert_in_front [] i (suc j) x y before within = absurd (omega arith)
set-insert_in_front (z ∷ xs) zero (suc j) x y before within = absurd (omega arith)
set-insert_in_front (z ∷ xs) (suc i) (suc j) x y before within = ap (λ ws. z ∷ ws) (set-insert_in_front xs i j x y (omega arith) (omega arith))

-- an element that is put behind one that goes
pub remove-insert_behind : {X : Type 0} (xs : List X) (i j : ℕ) (y : X) → i ≤ j → j < length xs → insert (remove xs i) j y ≡ remove (insert xs (suc j) y) i
remove-insert_behind [] i j y before within = absurd (omega arith)
remove-insert_behind (z ∷ xs) zero j y before within = refl
remove-insert_behind (z ∷ xs) (suc i) zero y before within = absurd (omega arith)
remove-insert_behind (z ∷ xs) (suc i) (suc j) y before within = ap (λ ws. z ∷ ws) (remove-insert_behind xs i j y (omega arith) (omega arith))

-- an element that is put in front of one that goes
pub remove-insert_in_front : {X : Type 0} (xs : List X) (i j : ℕ) (y : X) → j ≤ i → i < length xs → insert (remove xs i) j y ≡ remove (insert xs j y) (suc i)
remove-insert_in_front xs i zero y before within = refl
remove-insert_in_front [] i (suc j) y before within = absurd (omega arith)
remove-insert_in_front (z ∷ xs) zero (suc j) y before within = absurd (omega arith)
remove-insert_in_front (z ∷ xs) (suc i) (suc j) y before within = ap (λ ws. z ∷ ws) (remove-insert_in_front xs i j y (omega arith) (omega arith))

-- two elements that are replaced
pub set-set_apart : {X : Type 0} (xs : List X) (i j : ℕ) (x y : X) → (i ≡ j → ⊥) → set (set xs i x) j y ≡ set (set xs j y) i x
set-set_apart [] i j x y apart = refl
set-set_apart (z ∷ xs) zero zero x y apart = absurd (apart refl)
set-set_apart (z ∷ xs) zero (suc j) x y apart = refl
set-set_apart (z ∷ xs) (suc i) zero x y apart = refl
set-set_apart (z ∷ xs) (suc i) (suc j) x y apart = ap (λ ws. z ∷ ws) (set-set_apart xs i j x y (λ e. apart (ap suc e)))

-- an element that is replaced behind one that goes
pub remove-set_behind : {X : Type 0} (xs : List X) (i j : ℕ) (y : X) → i ≤ j → suc j < length xs → set (remove xs i) j y ≡ remove (set xs (suc j) y) i
remove-set_behind [] i j y before within = absurd (omega arith)
remove-set_behind (z ∷ xs) zero j y before within = refl
remove-set_behind (z ∷ xs) (suc i) zero y before within = absurd (omega arith)
remove-set_behind (z ∷ xs) (suc i) (suc j) y before within = ap (λ ws. z ∷ ws) (remove-set_behind xs i j y (omega arith) (omega arith))

-- an element that is replaced in front of one that goes
pub remove-set_in_front : {X : Type 0} (xs : List X) (i j : ℕ) (y : X) → j < i → i < length xs → set (remove xs i) j y ≡ remove (set xs j y) i
remove-set_in_front [] i j y before within = absurd (omega arith)
remove-set_in_front (z ∷ xs) zero j y before within = absurd (omega arith)
remove-set_in_front (z ∷ xs) (suc i) zero y before within = refl
remove-set_in_front (z ∷ xs) (suc i) (suc j) y before within = ap (λ ws. z ∷ ws) (remove-set_in_front xs i j y (omega arith) (omega arith))

-- two elements that go
pub remove-remove : {X : Type 0} (xs : List X) (i j : ℕ) → i ≤ j → suc j < length xs → remove (remove xs i) j ≡ remove (remove xs (suc j)) i
remove-remove [] i j before within = absurd (omega arith)
remove-remove (z ∷ xs) zero j before within = refl
remove-remove (z ∷ xs) (suc i) zero before within = absurd (omega arith)
remove-remove (z ∷ xs) (suc i) (suc j) before within = ap (λ ws. z ∷ ws) (remove-remove xs i j (omega arith) (omega arith))
