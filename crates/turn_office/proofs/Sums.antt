-- Sums over the views of a table, and what holds of each view after a step of one seat.
use Rattle.std.{proofs.Common.{◌≡◌, ◌≢◌, ℕ, zero, suc, ◌+◌, ◌<◌, ◌≤◌, List, [], ◌∷◌, length, set, sym, refl, ap, subst, ⊎_elim, arith, sum_by}, proofs.lemmas.List.Sums.sum_by-cons, specs.List.AllByRecursion}
use mathlib.Core.Option.{some, some-injective, some-ne-none}
use lib.ListN.{get_elem?}
use Rattle.atomic_table.proofs.Lists.{at_set}

module _ {X : Type 0} (f : X → ℕ) where
  -- a sum after the change of one part
  pub sum_set : (xs : List X) (i : ℕ) (x y : X) → get_elem? xs i ≡ some x → sum_by f (set xs i y) + f x ≡ sum_by f xs + f y
  sum_set [] i x y at = absurd (some-ne-none x (sym at))
  sum_set (z ∷ zs) zero x y at = let same : f z ≡ f x = ap f (some-injective z x at) in omega (arith, sum_by-cons f z zs, sum_by-cons f y zs)
  sum_set (z ∷ zs) (suc i) x y at = let more = sum_set zs i x y at in omega (arith, sum_by-cons f z zs, sum_by-cons f z (set zs i y))

  -- a sum after the change of one part by another of the same size
  pub sum_same : (xs : List X) (i : ℕ) (x y : X) → get_elem? xs i ≡ some x → f y ≡ f x → sum_by f (set xs i y) ≡ sum_by f xs
  sum_same xs i x y at same = let s = sum_set xs i x y at in omega arith

  -- a part is no more than the sum
  pub sum_one : (xs : List X) (i : ℕ) (x : X) → get_elem? xs i ≡ some x → f x ≤ sum_by f xs
  sum_one [] i x at = absurd (some-ne-none x (sym at))
  sum_one (z ∷ zs) zero x at = let same : f z ≡ f x = ap f (some-injective z x at) in omega (arith, sum_by-cons f z zs)
  sum_one (z ∷ zs) (suc i) x at = let more = sum_one zs i x at in omega (arith, sum_by-cons f z zs)

  -- two parts are no more than the sum
  pub sum_two : (xs : List X) (i j : ℕ) (x y : X) → i ≢ j → get_elem? xs i ≡ some x → get_elem? xs j ≡ some y → f x + f y ≤ sum_by f xs
  sum_two [] i j x y apart at there = absurd (some-ne-none x (sym at))
  sum_two (z ∷ zs) zero zero x y apart at there = absurd (apart refl)
  sum_two (z ∷ zs) zero (suc j) x y apart at there = let same : f z ≡ f x = ap f (some-injective z x at) in let more = sum_one zs j y there in omega (arith, sum_by-cons f z zs)
  sum_two (z ∷ zs) (suc i) zero x y apart at there = let same : f z ≡ f y = ap f (some-injective z y there) in let more = sum_one zs i x at in omega (arith, sum_by-cons f z zs)
  sum_two (z ∷ zs) (suc i) (suc j) x y apart at there = let more = sum_two zs i j x y (λ e. apart (ap suc e)) at there in omega (arith, sum_by-cons f z zs)

  -- a sum is no more than another whose parts are no less
  pub sum_le : (g : X → ℕ) (xs : List X) → ((i : ℕ) (x : X) → get_elem? xs i ≡ some x → f x ≤ g x) → sum_by f xs ≤ sum_by g xs
  sum_le g [] le = omega arith
  sum_le g (z ∷ zs) le = let here = le zero z refl in let more = sum_le g zs (λ i x at. le (suc i) x at) in omega (arith, sum_by-cons f z zs, sum_by-cons g z zs)

-- what is found stands in the list
pub found_inside : {X : Type 0} (xs : List X) (i : ℕ) (x : X) → get_elem? xs i ≡ some x → i < length xs
found_inside [] i x at = absurd (some-ne-none x (sym at))
found_inside (z ∷ zs) zero x at = omega arith
found_inside (z ∷ zs) (suc i) x at = let more = found_inside zs i x at in omega arith

-- what holds of each view where one seat has a new one
pub each_set : {X : Type 0} (P : ℕ → X → Type 0) (xs : List X) (i : ℕ) (y : X) → P i y → ((j : ℕ) (x : X) → j ≢ i → get_elem? xs j ≡ some x → P j x) → (j : ℕ) (x : X) → get_elem? (set xs i y) j ≡ some x → P j x
each_set P xs i y mine others j x at = ⊎_elim (λ (t : (j ≡ i) × (y ≡ x)). subst (λ (q : ℕ × _). P q.0 q.1) (λ k. (sym t.0 k, t.1 k)) mine) (λ (t : (j ≢ i) × (get_elem? xs j ≡ some x)). others j x t.0 t.1) (at_set xs i j y x at)

-- what follows for each element follows for all
pub each_more : {X : Type 0} (P Q : X → Type 0) → ((x : X) → P x → Q x) → (xs : List X) → AllByRecursion P xs → AllByRecursion Q xs
each_more P Q more [] h = tt
each_more P Q more (x ∷ xs) h = (more x h.0, each_more P Q more xs h.1)
