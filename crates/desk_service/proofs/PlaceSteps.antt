-- The places of sessions, one more each time.
use Rattle.std.{proofs.Common.{◌≡◌, ℕ, ◌+◌, All, List, [], ◌∷◌, ◌++◌, map, sym, ap, ap₂, ◌∙◌, subst, map-id, arith}, specs.List.range_with_len, proofs.lemmas.List.map-append, proofs.lemmas.List.Elements.All-push, proofs.lemmas.List.FromFn.map-range_with_len_more}

-- the numbers from one on, with one more
range-more-from : (first n : ℕ) → range_with_len first (n + 1) ≡ range_with_len first n ++ (first + n) ∷ []
range-more-from first n =
    sym (map-id (range_with_len first (n + 1))) ∙ map-range_with_len_more (λ (k : ℕ). k) first n (first + n) (omega arith) ∙ ap (λ (ks : List ℕ). ks ++ (first + n) ∷ []) (map-id (range_with_len first n))

module _ {X : Type 0} where
  -- places have the numbers from one on, and so with one that has the next
  pub numbers-more-from : (first : ℕ) (number : X → ℕ) (xs new : List X) (x : X) (n : ℕ) → map number xs ≡ range_with_len first n → new ≡ xs ++ x ∷ [] → number x ≡ first + n →
      map number new ≡ range_with_len first (n + 1)
  numbers-more-from first number xs new x n so_far pushed next =
      ap (map number) pushed ∙ (map-append number xs (x ∷ []) ∙ (ap₂ (λ (a b : List ℕ). a ++ b) so_far (ap (λ (k : ℕ). k ∷ []) next) ∙ sym (range-more-from first n)))

  -- places have the numbers from 0 on, and so with one that has the next
  pub numbers-more : (number : X → ℕ) (xs new : List X) (x : X) (n : ℕ) → map number xs ≡ range_with_len 0 n → new ≡ xs ++ x ∷ [] → number x ≡ n → map number new ≡ range_with_len 0 (n + 1)
  numbers-more number xs new x n so_far pushed next = numbers-more-from 0 number xs new x n so_far pushed (omega (arith, next))

  -- what is true of each place
  pub all-more : (P : X → Type 0) (xs new : List X) (x : X) → All P xs → new ≡ xs ++ x ∷ [] → P x → All P new
  all-more P xs new x all pushed one = subst (λ (ys : List X). All P ys) (sym pushed) (All-push P xs x all one)
