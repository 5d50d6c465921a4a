-- Each stored word fits a word of its deck.
use Rattle.std.{proofs.Common.{◌≡◌, ℕ, zero, suc, ◌+◌, ◌-◌, ◌*◌, ◌/◌, ◌%◌, ◌^◌, ◌<◌, Bool, true, false, nat_eq, List, [], ◌∷◌, ◌++◌, refl, ap, arith}, specs.Prelude.{All, filter, flat_map, map, if◌then◌else◌}, specs.List.{AllByRecursion, list_any}, proofs.lemmas.List.Elements.All-from_recursion}
use Rattle.std.proofs.Math.Nat.{mod-lt, pow-suc as pow-succ}
use Rattle.definitions.specs.{Characters.same_text, Kinds.{units, unit_bits, word_bits}, Operations.is_instruction, Words.{Parcel, Coded, Linking, StoredWord, cut, parcels_from, parcels_of, onto_runs, runs_of, in_word, latest_in_word, pass, filling_of, bits_at, word_of_parcels, stored, with_number, rising, words_in, stored_words, joined}, StatementItems.Item, declared.deck_kind.DeckKind.DeckKind, declared.deck_kind.DeckKind.TheVariants.{Rel, Abs, Periph}}

-- numbers in increasing order with the words of a run among them
abbrev pub with_words_of : DeckKind → List Parcel → List ℕ → List ℕ
with_words_of kind [] words = words
with_words_of kind (parcel ∷ run) words = with_number (parcel.place / units kind) (with_words_of kind run words)

front-words : (kind : DeckKind) (run rest : List Parcel) →
    rising (map (λ (parcel : Parcel). parcel.place / units kind) (run ++ rest)) ≡ with_words_of kind run (rising (map (λ (parcel : Parcel). parcel.place / units kind) rest))
front-words kind [] rest = refl
front-words kind (parcel ∷ run) rest = ap (with_number (parcel.place / units kind)) (front-words kind run rest)

-- the words of runs, one run more in front
pub words_in-run : (kind : DeckKind) (run : List Parcel) (runs : List (List Parcel)) → words_in kind (run ∷ runs) ≡ with_words_of kind run (words_in kind runs)
words_in-run kind run runs = front-words kind run (flat_map (λ (other : List Parcel). other) runs)

-- a power of two is not 0
pub pow_positive : (n : ℕ) → 0 < 2 ^ n
pow_positive zero = omega arith
pow_positive (suc n) = let below = pow_positive n in let twice : 2 ^ suc n ≡ 2 ^ n * 2 = pow-succ 2 n in omega arith

-- all parcels have bits below this
abbrev AreBelow : ℕ → List Parcel → Type 0
AreBelow limit parcels = AllByRecursion (λ (parcel : Parcel). parcel.bits < limit) parcels

append_below : (limit : ℕ) (xs ys : List Parcel) → AreBelow limit xs → AreBelow limit ys → AreBelow limit (xs ++ ys)
append_below limit [] ys h k = k
append_below limit (x ∷ xs) ys h k = (h.0, append_below limit xs ys h.1 k)

-- all pieces of a cut number are below
cut_below : (width count number : ℕ) → AllByRecursion (λ n. n < 2 ^ width) (cut width count number)
cut_below width zero number = tt
cut_below width (suc count) number = push (cut width count (number / 2 ^ width)) (number % 2 ^ width) (cut_below width count (number / 2 ^ width)) (mod-lt number (pow_positive width))
  where
    push : (ns : List ℕ) (n : ℕ) → AllByRecursion (λ m. m < 2 ^ width) ns → n < 2 ^ width → AllByRecursion (λ m. m < 2 ^ width) (ns ++ n ∷ [])
    push [] n h k = (k, tt)
    push (m ∷ ms) n h k = (h.0, push ms n h.1 k)

parcels_from-below : (instruction : Bool) (place limit : ℕ) (pieces : List ℕ) → AllByRecursion (λ n. n < limit) pieces → AreBelow limit (parcels_from instruction place pieces)
parcels_from-below instruction place limit [] h = tt
parcels_from-below instruction place limit (n ∷ ns) h = (h.0, parcels_from-below instruction (place + 1) limit ns h.1)

parcels_of-below : (kind : DeckKind) (linking : Linking) (coded : Coded) (fields : List Item) → coded.fields ≡ fields → AreBelow (2 ^ unit_bits kind) (parcels_of kind linking coded)
parcels_of-below kind linking coded [] e = rw e tt
parcels_of-below kind linking coded (bits ∷ others) e =
    rw e (parcels_from-below (is_instruction coded.settled.read.operation) coded.settled.place (2 ^ unit_bits kind) _ (cut_below (unit_bits kind) (coded.settled.end - coded.settled.place) (joined linking (bits ∷ others))))

-- all runs have parcels with bits below this
abbrev AreRunsBelow : ℕ → List (List Parcel) → Type 0
AreRunsBelow limit runs = AllByRecursion (AreBelow limit) runs

onto_runs-below : (limit : ℕ) (begins : Bool) (parcels : List Parcel) (runs : List (List Parcel)) → AreBelow limit parcels → AreRunsBelow limit runs → AreRunsBelow limit (onto_runs begins parcels runs)
onto_runs-below limit true parcels runs h k = (tt, k)
onto_runs-below limit false parcels [] h k = (h, tt)
onto_runs-below limit false parcels (run ∷ runs) h k = (append_below limit run parcels k.0 h, k.1)

-- what holds of both cases of a choice holds of the choice
pub picked : {A : Type 0} (P : A → Type 0) (b : Bool) (x y : A) → P x → P y → P (elim b [ true ↦ x | false ↦ y ])
picked P true x y h k = h
picked P false x y h k = k

-- and of the choice as `if`
pub picked_cond : {A : Type 0} (P : A → Type 0) (b : Bool) (x y : A) → P x → P y → P (if b then x else y)
picked_cond P true x y h k = h
picked_cond P false x y h k = k

runs_of-below : (kind : DeckKind) (linking : Linking) (block : List ℕ) (coded : List Coded) → AreRunsBelow (2 ^ unit_bits kind) (runs_of kind linking block coded)
runs_of-below kind linking block [] = (tt, tt)
runs_of-below kind linking block (coded ∷ earlier) =
    let runs = runs_of-below kind linking block earlier in
    picked (AreRunsBelow (2 ^ unit_bits kind)) (same_text coded.settled.block block) _ _
    (onto_runs-below (2 ^ unit_bits kind) coded.settled.begins_run _ _ (parcels_of-below kind linking coded coded.fields refl) runs) runs

filter_below : (limit : ℕ) (p : Parcel → Bool) (parcels : List Parcel) → AreBelow limit parcels → AreBelow limit (filter p parcels)
filter_below limit p [] h = tt
filter_below limit p (x ∷ xs) h = picked_cond (AreBelow limit) (p x) (x ∷ filter p xs) (filter p xs) (h.0, filter_below limit p xs h.1) (filter_below limit p xs h.1)

first_found : (limit : ℕ) (found rest : List Parcel) → AreBelow limit found → AreBelow limit rest → AreBelow limit (elim found [ [] ↦ rest | parcel ∷ others ↦ parcel ∷ others ])
first_found limit [] rest h k = k
first_found limit (x ∷ xs) rest h k = h

latest_below : (kind : DeckKind) (limit word : ℕ) (runs : List (List Parcel)) → AreRunsBelow limit runs → AreBelow limit (latest_in_word kind word runs)
latest_below kind limit word [] h = tt
latest_below kind limit word (run ∷ runs) h =
    first_found limit (in_word kind word run) (latest_in_word kind word runs) (filter_below limit (λ parcel. nat_eq (parcel.place / units kind) word) run h.0) (latest_below kind limit word runs h.1)

bits_at-below : (kind : DeckKind) (limit filling place : ℕ) (parcels : List Parcel) → filling < limit → AreBelow limit parcels → bits_at kind filling place parcels < limit
bits_at-below kind limit filling place [] f h = f
bits_at-below kind limit filling place (x ∷ xs) f h =
    picked_cond (λ n. n < limit) (nat_eq (x.place % units kind) place) x.bits (bits_at kind filling place xs) h.0 (bits_at-below kind limit filling place xs f h.1)

filling_of-below : (kind : DeckKind) (parcels : List Parcel) → filling_of kind parcels < 2 ^ unit_bits kind
filling_of-below Rel parcels = picked_cond (λ n. n < 32768) (list_any (λ (parcel : Parcel). parcel.is_instruction) parcels) pass 0 (omega arith) (omega arith)
filling_of-below Abs parcels = picked_cond (λ n. n < 32768) (list_any (λ (parcel : Parcel). parcel.is_instruction) parcels) pass 0 (omega arith) (omega arith)
filling_of-below Periph parcels = omega arith

-- the bits at a place are those of a unit
place-below : (kind : DeckKind) (parcels : List Parcel) (place : ℕ) → AreBelow (2 ^ unit_bits kind) parcels → bits_at kind (filling_of kind parcels) place parcels < 2 ^ unit_bits kind
place-below kind parcels place h = bits_at-below kind (2 ^ unit_bits kind) (filling_of kind parcels) place parcels (filling_of-below kind parcels) h

-- four parcels one behind the other
parcels-below : (first second third fourth : ℕ) → first < 32768 → second < 32768 → third < 32768 → fourth < 32768 →
    0 + first * 2 ^ 45 + second * 2 ^ 30 + third * 2 ^ 15 + fourth * 2 ^ 0 < 2 ^ 60
parcels-below first second third fourth a b c d = omega arith

-- a word has as many places as units
word-below : (kind : DeckKind) (parcels : List Parcel) → AreBelow (2 ^ unit_bits kind) parcels → word_of_parcels kind parcels < 2 ^ word_bits kind
word-below Rel parcels h = parcels-below _ _ _ _ (place-below Rel parcels 0 h) (place-below Rel parcels 1 h) (place-below Rel parcels 2 h) (place-below Rel parcels 3 h)
word-below Abs parcels h = parcels-below _ _ _ _ (place-below Abs parcels 0 h) (place-below Abs parcels 1 h) (place-below Abs parcels 2 h) (place-below Abs parcels 3 h)
word-below Periph parcels h = let first = place-below Periph parcels 0 h in omega arith

stored-below : (kind : DeckKind) (runs : List (List Parcel)) (words : List ℕ) → AreRunsBelow (2 ^ unit_bits kind) runs → AllByRecursion (λ (word : StoredWord). word.value < 2 ^ word_bits kind) (stored kind runs words)
stored-below kind runs [] h = tt
stored-below kind runs (word ∷ words) h =
    (word-below kind (latest_in_word kind word runs) (latest_below kind (2 ^ unit_bits kind) word runs h), stored-below kind runs words h)

-- the stored words of a block fit
pub stored_words-below : (kind : DeckKind) (linking : Linking) (block : List ℕ) (coded : List Coded) → All (λ (word : StoredWord). word.value < 2 ^ word_bits kind) (stored_words kind linking block coded)
stored_words-below kind linking block coded =
    All-from_recursion _ (stored_words kind linking block coded) (stored-below kind (runs_of kind linking block coded) (words_in kind (runs_of kind linking block coded)) (runs_of-below kind linking block coded))
