-- Which words a block stores, by the places that its statements reach.
use Rattle.std.{proofs.Common.{ℕ, zero, suc, ◌≡◌, ◌+◌, ◌-◌, ◌/◌, ◌%◌, ◌^◌, ◌<◌, ◌≤◌, ◌==◌, Bool, true, false, not, ◌&&◌, ◌||◌, List, [], ◌∷◌, length, refl, sym, ap, ap₂, ◌∙◌, ⊎_elim, arith}, specs.Prelude.{nat_lt, nat_le, if◌then◌else◌}, specs.List.list_any, proofs.lemmas.List.length-append, proofs.lemmas.List.Folds.list_any-append, proofs.lemmas.Bool.{eqb-true, cases_lt}, proofs.lemmas.Bool.Decides.nat_tests}
use Rattle.definitions.{specs.Characters.same_text, specs.Kinds.{memory_end, units, unit_bits}, specs.Operations.is_instruction, specs.StatementItems.Item, specs.Words.{Coded, Linking, Parcel, StoredWord, cut, parcels_from, parcels_of, onto_runs, runs_of, with_number, words_in, stored, stored_words, joined}, proofs.WordLaws.{with_words_of, words_in-run}, specs.declared.deck_kind.DeckKind.DeckKind, specs.declared.deck_kind.DeckKind.TheVariants.{Rel, Abs, Periph}, specs.Lengths.BlockRow}
use Rattle.deck_linker.{specs.Joins.Beyond.{coded_beyond, has_items, reaches_beyond, stores_beyond}, proofs.TestLaws.{lt-true, lt-false}}

-- tests, one or the other
or-same : (a b : Bool) → (a || b) ≡ (a || (a || b))
or-same true b = refl
or-same false b = refl

or-swap : (a b c : Bool) → (a || (b || c)) ≡ (b || (a || c))
or-swap true true c = refl
or-swap true false c = refl
or-swap false true c = refl
or-swap false false c = refl

or-apart : (a b c : Bool) → (a || (b || c)) ≡ ((a || b) || c)
or-apart true b c = refl
or-apart false b c = refl

or-false : (a : Bool) → (a || false) ≡ a
or-false true = refl
or-false false = refl

-- where one test follows from the other
or-later : (a b : Bool) → (a ≡ true → b ≡ true) → (a || b) ≡ b
or-later true b h = sym (h refl)
or-later false b h = refl

-- a number in its place
any-number : (P : ℕ → Bool) (n : ℕ) (words : List ℕ) → list_any P (with_number n words) ≡ (P n || list_any P words)
any-number P n [] = refl
any-number P n (m ∷ words) = by_test (any-number P n words) (n == m) refl (nat_lt n m)
  where
    by_test : list_any P (with_number n words) ≡ (P n || list_any P words) → (same : Bool) → (n == m) ≡ same → (less : Bool) →
        list_any P (if same then m ∷ words else if less then n ∷ m ∷ words else m ∷ with_number n words) ≡ (P n || (P m || list_any P words))
    by_test rest true e less =
        or-same (P m) (list_any P words) ∙ ap (λ (i : ℕ). P i || (P m || list_any P words)) (sym (eqb-true n m e))
    by_test rest false e true = refl
    by_test rest false e false = ap (λ (b : Bool). P m || b) rest ∙ or-swap (P m) (P n) (list_any P words)

-- the words of a run
any-in_run : (kind : DeckKind) (P : ℕ → Bool) (run : List Parcel) (words : List ℕ) →
    list_any P (with_words_of kind run words) ≡ (list_any (λ (parcel : Parcel). P (parcel.place / units kind)) run || list_any P words)
any-in_run kind P [] words = refl
any-in_run kind P (parcel ∷ run) words =
    any-number P (parcel.place / units kind) (with_words_of kind run words)
    ∙ ap (λ (b : Bool). P (parcel.place / units kind) || b) (any-in_run kind P run words)
    ∙ or-apart (P (parcel.place / units kind)) (list_any (λ (other : Parcel). P (other.place / units kind)) run) (list_any P words)

-- whether a parcel lies in a word that passes the test
abbrev any_parcel : DeckKind → (ℕ → Bool) → List Parcel → Bool
any_parcel kind P run = list_any (λ (parcel : Parcel). P (parcel.place / units kind)) run

-- the words of several runs
any-in : (kind : DeckKind) (P : ℕ → Bool) (runs : List (List Parcel)) → list_any P (words_in kind runs) ≡ list_any (any_parcel kind P) runs
any-in kind P [] = refl
any-in kind P (run ∷ runs) =
    ap (list_any P) (words_in-run kind run runs)
    ∙ any-in_run kind P run (words_in kind runs) ∙ ap (λ (b : Bool). any_parcel kind P run || b) (any-in kind P runs)

-- parcels that join the latest run
any-onto : (kind : DeckKind) (P : ℕ → Bool) (begins : Bool) (parcels : List Parcel) (runs : List (List Parcel)) →
    list_any (any_parcel kind P) (onto_runs begins parcels runs) ≡ ((not begins && any_parcel kind P parcels) || list_any (any_parcel kind P) runs)
any-onto kind P true parcels runs = refl
any-onto kind P false parcels [] = refl
any-onto kind P false parcels (run ∷ runs) =
    ap (λ (b : Bool). b || list_any (any_parcel kind P) runs) (list_any-append (λ (parcel : Parcel). P (parcel.place / units kind)) run parcels)
    ∙ sym (or-apart (any_parcel kind P run) (any_parcel kind P parcels) (list_any (any_parcel kind P) runs))
    ∙ or-swap (any_parcel kind P run) (any_parcel kind P parcels) (list_any (any_parcel kind P) runs)

-- the runs of a block
any-runs : (kind : DeckKind) (P : ℕ → Bool) (linking : Linking) (block : List ℕ) (all : List Coded) →
    list_any (any_parcel kind P) (runs_of kind linking block all)
    ≡ list_any (λ (coded : Coded). same_text coded.settled.block block && (not coded.settled.begins_run && any_parcel kind P (parcels_of kind linking coded))) all
any-runs kind P linking block [] = refl
any-runs kind P linking block (coded ∷ earlier) = by_test (any-runs kind P linking block earlier) (same_text coded.settled.block block)
  where
    by_test : list_any (any_parcel kind P) (runs_of kind linking block earlier)
        ≡ list_any (λ (other : Coded). same_text other.settled.block block && (not other.settled.begins_run && any_parcel kind P (parcels_of kind linking other))) earlier →
        (t : Bool) →
        list_any (any_parcel kind P) (elim t [
          | true ↦ onto_runs coded.settled.begins_run (parcels_of kind linking coded) (runs_of kind linking block earlier)
          | false ↦ runs_of kind linking block earlier
        ]) ≡ ((t && (not coded.settled.begins_run && any_parcel kind P (parcels_of kind linking coded)))
        || list_any (λ (other : Coded). same_text other.settled.block block && (not other.settled.begins_run && any_parcel kind P (parcels_of kind linking other))) earlier)
    by_test rest true =
        any-onto kind P coded.settled.begins_run (parcels_of kind linking coded) (runs_of kind linking block earlier)
        ∙ ap (λ (b : Bool). (not coded.settled.begins_run && any_parcel kind P (parcels_of kind linking coded)) || b) rest
    by_test rest false = rest

-- stored words by their offsets
any-stored : (P : ℕ → Bool) (kind : DeckKind) (runs : List (List Parcel)) (words : List ℕ) → list_any (λ (word : StoredWord). P word.offset) (stored kind runs words) ≡ list_any P words
any-stored P kind runs [] = refl
any-stored P kind runs (word ∷ words) = ap (λ (b : Bool). P word || b) (any-stored P kind runs words)

-- the pieces of a number
length-cut : (width count number : ℕ) → length (cut width count number) ≡ count
length-cut width zero number = refl
length-cut width (suc count) number =
    length-append (cut width count (number / 2 ^ width)) (number % 2 ^ width ∷ []) ∙ (let rest = length-cut width count (number / 2 ^ width) in omega (arith, rest))

-- a later place lies in the same word or a later one
later-word : (kind : DeckKind) (m n : ℕ) → m ≤ n → m / units kind ≤ n / units kind
later-word Rel m n h = omega arith
later-word Abs m n h = omega arith
later-word Periph m n h = omega arith

-- a test that holds of all words behind one of which it holds
abbrev beyond : DeckKind → ℕ → ℕ → Bool
beyond kind base word = nat_le (memory_end kind) (base + word)

beyond-later : (kind : DeckKind) (base m n : ℕ) → m ≤ n → beyond kind base (m / units kind) ≡ true → beyond kind base (n / units kind) ≡ true
beyond-later kind base m n h b = le-test (memory_end kind) base (m / units kind) (n / units kind) (later-word kind m n h) b
  where
    le-test : (limit base m n : ℕ) → m ≤ n → nat_le limit (base + m) ≡ true → nat_le limit (base + n) ≡ true
    le-test limit base m n h b = grind (arith, nat_tests)

-- some parcels reach as far as the last of them, and none nowhere
stores-some : (kind : DeckKind) (base place end : ℕ) → place < end → stores_beyond kind base place end ≡ beyond kind base ((end - 1) / units kind)
stores-some kind base place end h = ap (λ (t : Bool). t && reaches_beyond kind base end) (lt-true place end h)

stores-none : (kind : DeckKind) (base place end : ℕ) → end ≤ place → stores_beyond kind base place end ≡ false
stores-none kind base place end h = ap (λ (t : Bool). t && reaches_beyond kind base end) (lt-false place end h)

-- one parcel more in front
stores-step : (kind : DeckKind) (base place n : ℕ) →
    (beyond kind base (place / units kind) || stores_beyond kind base (place + 1) (place + 1 + n)) ≡ stores_beyond kind base place (place + suc n)
stores-step kind base place zero =
    ap (λ (b : Bool). beyond kind base (place / units kind) || b) (stores-none kind base (place + 1) (place + 1 + 0) (omega arith))
    ∙ or-false (beyond kind base (place / units kind))
    ∙ ap (λ (k : ℕ). beyond kind base (k / units kind)) (one-more place)
    ∙ sym (stores-some kind base place (place + suc zero) (omega arith))
  where
    one-more : (place : ℕ) → place ≡ place + suc zero - 1
    one-more place = omega arith
stores-step kind base place (suc n) =
    ap (λ (b : Bool). beyond kind base (place / units kind) || b) (stores-some kind base (place + 1) (place + 1 + suc n) (omega arith))
    ∙ or-later (beyond kind base (place / units kind)) (beyond kind base ((place + 1 + suc n - 1) / units kind)) (beyond-later kind base place (place + 1 + suc n - 1) (omega arith))
    ∙ ap (λ (k : ℕ). beyond kind base (k / units kind)) (one-more place n)
    ∙ sym (stores-some kind base place (place + suc (suc n)) (omega arith))
  where
    one-more : (place n : ℕ) → place + 1 + suc n - 1 ≡ place + suc (suc n) - 1
    one-more place n = omega arith

-- parcels from a place on
any-parcels : (kind : DeckKind) (base : ℕ) (instruction : Bool) (place : ℕ) (bits : List ℕ) →
    any_parcel kind (beyond kind base) (parcels_from instruction place bits) ≡ stores_beyond kind base place (place + length bits)
any-parcels kind base instruction place [] = sym (stores-none kind base place (place + 0) (omega arith))
any-parcels kind base instruction place (b ∷ bits) =
    ap (λ (t : Bool). beyond kind base (place / units kind) || t) (any-parcels kind base instruction (place + 1) bits)
    ∙ stores-step kind base place (length bits)

-- from a place to an end, as far as the end lies behind
to-end : (kind : DeckKind) (base place end : ℕ) → stores_beyond kind base place (place + (end - place)) ≡ stores_beyond kind base place end
to-end kind base place end = ⊎_elim
    (λ (h : place < end). let same : place + (end - place) ≡ end = omega arith in ap (λ (n : ℕ). stores_beyond kind base place n) same)
    (λ (h : end ≤ place). stores-none kind base place (place + (end - place)) (omega arith) ∙ sym (stores-none kind base place end h))
    (cases_lt place end)

-- the parcels of a statement
any-coded : (kind : DeckKind) (base : ℕ) (linking : Linking) (coded : Coded) →
    any_parcel kind (beyond kind base) (parcels_of kind linking coded) ≡ (has_items coded.fields && stores_beyond kind base coded.settled.place coded.settled.end)
any-coded kind base linking coded = by_fields (joined linking coded.fields) coded.fields
  where
    by_fields : (number : ℕ) (fields : List Item) → any_parcel kind (beyond kind base) (elim fields [
      | [] ↦ []
      | item ∷ items ↦ parcels_from (is_instruction coded.settled.read.operation) coded.settled.place (cut (unit_bits kind) (coded.settled.end - coded.settled.place) number)
    ]) ≡ (has_items fields && stores_beyond kind base coded.settled.place coded.settled.end)
    by_fields number [] = refl
    by_fields number (item ∷ items) =
        any-parcels kind base (is_instruction coded.settled.read.operation) coded.settled.place (cut (unit_bits kind) (coded.settled.end - coded.settled.place) number)
        ∙ ap (λ (n : ℕ). stores_beyond kind base coded.settled.place (coded.settled.place + n)) (length-cut (unit_bits kind) (coded.settled.end - coded.settled.place) number)
        ∙ to-end kind base coded.settled.place coded.settled.end

-- a test that gives the same for each gives the same for all
pub list_any-same : {X : Type 0} (p q : X → Bool) → ((x : X) → p x ≡ q x) → (xs : List X) → list_any p xs ≡ list_any q xs
list_any-same p q h [] = refl
list_any-same p q h (x ∷ xs) = ap₂ (λ (a b : Bool). a || b) (h x) (list_any-same p q h xs)

-- the stored words of a block
pub any-block : (kind : DeckKind) (row : BlockRow) (linking : Linking) (all : List Coded) →
    list_any (λ (word : StoredWord). nat_le (memory_end kind) (row.base + word.offset)) (stored_words kind linking row.name all) ≡ list_any (coded_beyond kind row) all
any-block kind row linking all =
    any-stored (beyond kind row.base) kind (runs_of kind linking row.name all) (words_in kind (runs_of kind linking row.name all))
    ∙ any-in kind (beyond kind row.base) (runs_of kind linking row.name all)
    ∙ any-runs kind (beyond kind row.base) linking row.name all
    ∙ list_any-same
    (λ (coded : Coded). same_text coded.settled.block row.name && (not coded.settled.begins_run && any_parcel kind (beyond kind row.base) (parcels_of kind linking coded)))
    (coded_beyond kind row)
    (λ (coded : Coded). ap (λ (b : Bool). same_text coded.settled.block row.name && (not coded.settled.begins_run && b)) (any-coded kind row.base linking coded))
    all
