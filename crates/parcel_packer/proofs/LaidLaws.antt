-- Lists of words, one over the other, are what the definitions lay.
use Rattle.std.{proofs.Common.{◌≡◌, ℕ, zero, suc, ◌+◌, ◌<◌, ◌≤◌, Bool, true, false, ◌||◌, nat_eq, List, [], ◌∷◌, ◌++◌, Option, Some, None, map, refl, sym, ap, ap₂, subst, ◌∙◌, arith, inl, inr}, specs.Prelude.{flat_map, unwrap_or, if◌then◌else◌}, specs.List.AllByRecursion, proofs.lemmas.Bool.Decides.eqb_tells, specs.Option.option_or}
use Rattle.definitions.{specs.Image.{stored_at, last_at, laid}, specs.Words.{StoredWord, rising}, proofs.TestLaws.{option_or-assoc, option_or-none}}
use Rattle.parcel_packer.{specs.Joins.Spans.RiseWithin, specs.Joins.Laying.{with_all_stored, over_all}, proofs.RiseLaws.{rise-wider}, proofs.FillLaws.{among, among-with_number, is_there, is_there-or, stored_offsets, unique, with_number-rise}, proofs.OverLaws.{over-found, over-rise}}

-- words rise, up to some offset
abbrev pub DoesRise : List StoredWord → Type 0
DoesRise words = (top : ℕ) × RiseWithin 0 (stored_offsets words) top

-- the offsets of all words of these lists
abbrev offsets : List (List StoredWord) → List ℕ
offsets lists = flat_map (λ (words : List StoredWord). map (λ (word : StoredWord). word.offset) words) lists

-- lists that rise, one over the other, rise
over-rises : (words others : List StoredWord) → DoesRise words → DoesRise others → DoesRise (with_all_stored words others)
over-rises words others h k =
    let top = h.0 + k.0 in
    (top, over-rise 0 words others top (rise-wider 0 (stored_offsets others) k.0 top k.1 (omega arith)) (rise-wider 0 (stored_offsets words) h.0 top h.1 (omega arith)))

all-rise : (lists : List (List StoredWord)) (others : List StoredWord) → AllByRecursion DoesRise lists → DoesRise others → DoesRise (over_all lists others)
all-rise [] others h k = k
all-rise (words ∷ later) others h k = all-rise later (with_all_stored words others) h.1 (over-rises words others h.0 k)

-- at each offset they have what the last list with a word there has
all-found : (offset : ℕ) (lists : List (List StoredWord)) (others : List StoredWord) → AllByRecursion DoesRise lists →
    stored_at offset (over_all lists others) ≡ option_or (last_at offset lists) (stored_at offset others)
all-found offset [] others h = refl
all-found offset (words ∷ later) others h =
    all-found offset later (with_all_stored words others) h.1
    ∙ ap (option_or (last_at offset later)) (over-found offset 0 h.0.0 words others h.0.1)
    ∙ sym (option_or-assoc (last_at offset later) (stored_at offset words) (stored_at offset others))

-- which offsets there are
or-order : (a b : Bool) → (a || b) ≡ (b || a)
or-order true true = refl
or-order true false = refl
or-order false true = refl
or-order false false = refl

or-assoc : (a b c : Bool) → ((a || b) || c) ≡ (a || (b || c))
or-assoc true b c = refl
or-assoc false b c = refl

among-rising : (offset : ℕ) (ns : List ℕ) → among offset (rising ns) ≡ among offset ns
among-rising offset [] = refl
among-rising offset (n ∷ ns) = among-with_number offset n (rising ns) ∙ ap (λ (b : Bool). nat_eq n offset || b) (among-rising offset ns)

among-append : (offset : ℕ) (ms ns : List ℕ) → among offset (ms ++ ns) ≡ (among offset ms || among offset ns)
among-append offset [] ns = refl
among-append offset (m ∷ ms) ns =
    ap (λ (b : Bool). nat_eq m offset || b) (among-append offset ms ns) ∙ sym (or-assoc (nat_eq m offset) (among offset ms) (among offset ns))

there-if : (b : Bool) (value : ℕ) (rest : Option ℕ) → is_there (if b then Some value else rest) ≡ (b || is_there rest)
there-if true value rest = refl
there-if false value rest = refl

among-words : (offset : ℕ) (words : List StoredWord) → among offset (map (λ (word : StoredWord). word.offset) words) ≡ is_there (stored_at offset words)
among-words offset [] = refl
among-words offset (word ∷ words) =
    ap (λ (b : Bool). nat_eq word.offset offset || b) (among-words offset words)
    ∙ sym (there-if (nat_eq word.offset offset) word.value (stored_at offset words))

among-lists : (offset : ℕ) (lists : List (List StoredWord)) → among offset (offsets lists) ≡ is_there (last_at offset lists)
among-lists offset [] = refl
among-lists offset (words ∷ later) =
    among-append offset (map (λ (word : StoredWord). word.offset) words) (offsets later)
    ∙ ap₂ (λ (a b : Bool). a || b) (among-words offset words) (among-lists offset later)
    ∙ or-order (is_there (stored_at offset words)) (is_there (last_at offset later))
    ∙ sym (is_there-or (last_at offset later) (stored_at offset words))

-- the words of a value at each of these offsets
abbrev of_values : (ℕ → ℕ) → List ℕ → List StoredWord
of_values value ns = map (λ (offset : ℕ). record { offset = offset; value = value offset }) ns

values-offsets : (value : ℕ → ℕ) (ns : List ℕ) → stored_offsets (of_values value ns) ≡ ns
values-offsets value [] = refl
values-offsets value (n ∷ ns) = ap (λ (ms : List ℕ). n ∷ ms) (values-offsets value ns)

values-found : (value : ℕ → ℕ) (ns : List ℕ) (offset : ℕ) → stored_at offset (of_values value ns) ≡ (if among offset ns then Some (value offset) else None)
values-found value [] offset = refl
values-found value (n ∷ ns) offset = elim (eqb_tells n offset) [
  | inl e ↦ rw e.0 (rw e.1 refl)
  | inr e ↦ rw e.0 (values-found value ns offset)
]

there : (b : Bool) (value : Option ℕ) → b ≡ is_there value → (if b then Some (unwrap_or value 0) else None) ≡ value
there b None e = rw e refl
there b (Some value) e = rw e refl

laid-found : (lists : List (List StoredWord)) (offset : ℕ) → stored_at offset (laid lists) ≡ last_at offset lists
laid-found lists offset =
    values-found (λ (at : ℕ). unwrap_or (last_at at lists) 0) (rising (offsets lists)) offset
    ∙ there (among offset (rising (offsets lists))) (last_at offset lists) (among-rising offset (offsets lists) ∙ among-lists offset lists)

-- and they rise
rising-rise : (ns : List ℕ) → (top : ℕ) × RiseWithin 0 (rising ns) top
rising-rise [] = (0, omega arith)
rising-rise (n ∷ ns) =
    let rest = rising-rise ns in
    let top = rest.0 + n + 1 in
    (top, with_number-rise n 0 (rising ns) top (rise-wider 0 (rising ns) rest.0 top rest.1 (omega arith)) (omega arith) (omega arith))

laid-rise : (lists : List (List StoredWord)) → DoesRise (laid lists)
laid-rise lists =
    let rises = rising-rise (offsets lists) in
    (rises.0, subst (λ (ns : List ℕ). RiseWithin 0 ns rises.0) (sym (values-offsets (λ (at : ℕ). unwrap_or (last_at at lists) 0) (rising (offsets lists)))) rises.1)

-- rising lists, one over the other from nothing on, are these lists laid
pub over-laid : (lists : List (List StoredWord)) → AllByRecursion DoesRise lists → over_all lists [] ≡ laid lists
over-laid lists h =
    let over = all-rise lists [] h (0, omega arith) in
    let whole = laid-rise lists in
    unique (over_all lists []) (laid lists) 0 over.0 whole.0 over.1 whole.1
    (λ offset. all-found offset lists [] h ∙ option_or-none (last_at offset lists) None refl ∙ sym (laid-found lists offset))
