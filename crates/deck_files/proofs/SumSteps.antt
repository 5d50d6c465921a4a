-- What is read of a file shows whether it has a sum, as all of it would.
use Rattle.std.proofs.{Common.{ℕ, ◌≡◌, ◌+◌, ◌-◌, ◌<◌, ◌≤◌, ◌^◌, ◌&&◌, ◌⊎◌, inl, inr, List, Bool, true, false, eqb, length, take, sym, ap, ◌∙◌, arith}, lemmas.Bool.cases_lt, lemmas.Bool.Decides.eqb_tells, lemmas.List.{length-take-le, take_all}}
use Rattle.sha2.specs.Sha256.{sha256}
use Rattle.definitions.specs.Characters.{same_text}
use Rattle.deck_files.specs.{declared.file_sums.FileSum.FileSum, FileSums.{has_just, is_same_sum, most_read, sum_of}}

differs : (a b : ℕ) → (a ≡ b → ⊥) → ((eqb a b ≡ true) × (a ≡ b)) ⊎ ((eqb a b ≡ false) × (a ≡ b → ⊥)) → eqb a b ≡ false
differs a b other (inl same) = absurd (other same.1)
differs a b other (inr told) = told.0

-- a text of another length has another sum
other-length : (text : List ℕ) (sum : FileSum) → (length text ≡ sum.length → ⊥) → is_same_sum (sum_of text) sum ≡ false
other-length text sum other =
    ap (λ (t : Bool). t && same_text (sha256 text) sum.digest) (differs (length text) sum.length other (eqb_tells (length text) sum.length))

by-length : (sum : FileSum) (bytes : List ℕ) → (sum.length + 1 < length bytes) ⊎ (length bytes ≤ sum.length + 1) →
    is_same_sum (sum_of (take (sum.length + 1) bytes)) sum ≡ is_same_sum (sum_of bytes) sum
by-length sum bytes (inl longer) =
    let front : length (take (sum.length + 1) bytes) ≡ sum.length + 1 = length-take-le (sum.length + 1) bytes (omega (arith, longer)) in
    other-length (take (sum.length + 1) bytes) sum (λ same. omega (arith, front, same)) ∙ sym (other-length bytes sum (λ same. omega (arith, longer, same)))
by-length sum bytes (inr short) = ap (λ (l : List ℕ). is_same_sum (sum_of l) sum) (take_all (sum.length + 1) bytes short)

pub just-all : (sum : FileSum) (bytes : List ℕ) → sum.length < 2 ^ 64 - 1 → has_just sum bytes ≡ is_same_sum (sum_of bytes) sum
just-all sum bytes small =
    let most : most_read sum ≡ sum.length + 1 = omega (arith, small) in
    ap (λ (n : ℕ). is_same_sum (sum_of (take n bytes)) sum) most ∙ by-length sum bytes (cases_lt (sum.length + 1) (length bytes))
