-- Edits carried one behind the other.
use Rattle.std.proofs.{Common.{ℕ, zero, suc, ◌≡◌, ◌+◌, ◌*◌, ◌^◌, ◌≤◌, ◌<◌, ◌⊎◌, inl, inr, List, [], ◌∷◌, ◌++◌, length, take, drop, get_or, Result, Ok, Err, refl, sym, ap, ◌∙◌, arith, append_assoc}, Math.ListN.{set, length-set}, lemmas.List.{drop_more, take-set, get_or-set_same}}
use Rattle.cards.specs.{declared.edits.Edit.Edit, declared.carrying.Origin.Origin, declared.carrying.Touched.Touched, Carrying.{Whereabouts, carried_place, placed, origin_of, stands_from, stands_after, in_front, carried}, Joins.CarrySteps.{stands_through, placed_all, AreNear, in_front_all}}

-- where the cards stand once one edit more is made
pub stands-more : (edits : List Edit) (places : List ℕ) (n : ℕ) (edit : Edit) (now : ℕ) (stands : Whereabouts) → n < length edits → n < length places → edit ≡ get_or edits n edit → now ≡ get_or places n now →
    stands_through (take (suc n) edits) (take (suc n) places) stands ≡ stands_after edit now (stands_through (take n edits) (take n places) stands)
stands-more [] places n edit now stands within room is here = absurd (omega arith)
stands-more (first ∷ edits) [] n edit now stands within room is here = absurd (omega arith)
stands-more (first ∷ edits) (place ∷ places) zero edit now stands within room is here =
    ap (λ (one : Edit). stands_after one place stands) (sym is) ∙ ap (λ (k : ℕ). stands_after edit k stands) (sym here)
stands-more (first ∷ edits) (place ∷ places) (suc n) edit now stands within room is here =
    stands-more edits places n edit now (stands_after first place stands) (omega arith) (omega arith) is here

-- where the card of a place stands, by where it stood before the latest of the edits
pub stands-latest : (edits : List Edit) (places : List ℕ) (count n : ℕ) (edit : Edit) (now place : ℕ) (origin : Origin) (stands : Whereabouts) → count ≡ suc n → n < length edits → n < length places →
    edit ≡ get_or edits n edit → now ≡ get_or places n now → origin ≡ origin_of edit place →
    stands_through (take count edits) (take count places) stands place ≡ stands_from origin now (stands_through (take n edits) (take n places) stands)
stands-latest edits places count n edit now place origin stands more within room is here from =
    ap (λ (k : ℕ). stands_through (take k edits) (take k places) stands place) more
    ∙ ap (λ (told : Whereabouts). told place) (stands-more edits places n edit now stands within room is here)
    ∙ ap (λ (o : Origin). stands_from o now (stands_through (take n edits) (take n places) stands)) (sym from)

-- one edit more at its place
pub placed-more : (edits : List Edit) (places : List ℕ) (n : ℕ) (edit : Edit) (now : ℕ) → n < length edits → n < length places → edit ≡ get_or edits n edit → now ≡ get_or places n now →
    placed_all (take (suc n) edits) (take (suc n) places) ≡ placed_all (take n edits) (take n places) ++ placed now edit ∷ []
placed-more [] places n edit now within room is here = absurd (omega arith)
placed-more (first ∷ edits) [] n edit now within room is here = absurd (omega arith)
placed-more (first ∷ edits) (place ∷ places) zero edit now within room is here =
    ap (λ (one : Edit). placed place one ∷ []) (sym is) ∙ ap (λ (k : ℕ). placed k edit ∷ []) (sym here)
placed-more (first ∷ edits) (place ∷ places) (suc n) edit now within room is here =
    ap (λ (more : List Edit). placed place first ∷ more) (placed-more edits places n edit now (omega arith) (omega arith) is here)

-- no edit at another place
pub placed-none : (edits : List Edit) → placed_all edits [] ≡ edits
placed-none [] = refl
placed-none (edit ∷ edits) = refl

-- one edit more is moved
pub moved-more : (edits : List Edit) (places : List ℕ) (n : ℕ) (edit : Edit) (now : ℕ) → n < length edits → n < length places → edit ≡ get_or (placed_all edits (take n places)) n edit → now ≡ get_or places n now →
    set (placed_all edits (take n places)) n (placed now edit) ≡ placed_all edits (take (suc n) places)
moved-more [] places n edit now within room is here = absurd (omega arith)
moved-more (first ∷ edits) [] n edit now within room is here = absurd (omega arith)
moved-more (first ∷ edits) (place ∷ places) zero edit now within room is here =
    ap (λ (one : Edit). placed now one ∷ edits) is ∙ ap (λ (k : ℕ). placed k first ∷ edits) here ∙ ap (λ (rest : List Edit). placed place first ∷ rest) (sym (placed-none edits))
moved-more (first ∷ edits) (place ∷ places) (suc n) edit now within room is here =
    ap (λ (more : List Edit). placed place first ∷ more) (moved-more edits places n edit now (omega arith) (omega arith) is here)

-- what is in front of an edit and of those behind it
regroup : (front : List Edit) (edit : Edit) (found : Result (List Edit) Touched) → in_front_all front (in_front edit found) ≡ in_front_all (front ++ edit ∷ []) found
regroup front edit (Ok edits) = rw append_assoc
regroup front edit (Err touched) = refl

-- one edit more is carried
carried-more : (front : List Edit) (stands : Whereabouts) (edit : Edit) (rest : List Edit) (now : ℕ) → carried_place stands edit ≡ Ok now →
    in_front_all front (carried stands (edit ∷ rest)) ≡ in_front_all (front ++ placed now edit ∷ []) (carried (stands_after edit now stands) rest)
carried-more front stands edit rest now ok =
    ap (λ (found : Result ℕ Touched). in_front_all front (elim found as (λ x. Result (List Edit) Touched) [ Ok k ↦ in_front (placed k edit) (carried (stands_after edit k stands) rest) | Err touched ↦ Err touched ])) ok
    ∙ regroup front (placed now edit) (carried (stands_after edit now stands) rest)

-- the edit at a place, and those behind it
rest-from : (edits : List Edit) (k : ℕ) (edit : Edit) → k < length edits → edit ≡ get_or edits k edit → drop k edits ≡ edit ∷ drop (k + 1) edits
rest-from edits k edit within is = drop_more edits k edit within ∙ ap (λ (one : Edit). one ∷ drop (k + 1) edits) (sym is)

-- what is carried so far, and what is left
abbrev pub so_far : List Edit → List ℕ → Whereabouts → ℕ → Result (List Edit) Touched
so_far edits places stands k = in_front_all (placed_all (take k edits) (take k places)) (carried (stands_through (take k edits) (take k places) stands) (drop k edits))

-- one edit more is carried, and its place is kept
pub carries-on : (edits : List Edit) (places : List ℕ) (stands : Whereabouts) (k now : ℕ) (edit : Edit) → k < length edits → k < length places → edit ≡ get_or edits k edit →
    carried_place (stands_through (take k edits) (take k places) stands) edit ≡ Ok now → so_far edits places stands k ≡ so_far edits (set places k now) stands (k + 1)
carries-on edits places stands k now edit within room is ok =
    let ps : List ℕ = set places k now in
    let front : List Edit = placed_all (take k edits) (take k places) in
    let stand : Whereabouts = stands_through (take k edits) (take k places) stands in
    let rest : List Edit = drop (k + 1) edits in
    let one : k + 1 ≡ suc k = omega arith in
    let same : take k ps ≡ take k places = take-set places k now in
    let here : now ≡ get_or ps k now = sym (get_or-set_same places k now now room) in
    let wide : k < length ps = omega (arith, length-set places k now) in
    let fronts : placed_all (take (k + 1) edits) (take (k + 1) ps) ≡ front ++ placed now edit ∷ [] =
    ap (λ (n : ℕ). placed_all (take n edits) (take n ps)) one ∙ placed-more edits ps k edit now within wide is here ∙ ap (λ (ns : List ℕ). placed_all (take k edits) ns ++ placed now edit ∷ []) same in
    let after : stands_through (take (k + 1) edits) (take (k + 1) ps) stands ≡ stands_after edit now stand =
    ap (λ (n : ℕ). stands_through (take n edits) (take n ps) stands) one ∙ stands-more edits ps k edit now stands within wide is here ∙ ap (λ (ns : List ℕ). stands_after edit now (stands_through (take k edits) ns stands)) same in
    ap (λ (left : List Edit). in_front_all front (carried stand left)) (rest-from edits k edit within is)
    ∙ carried-more front stand edit rest now ok
    ∙ ap (λ (es : List Edit). in_front_all es (carried (stands_after edit now stand) rest)) (sym fronts)
    ∙ ap (λ (st : Whereabouts). in_front_all (placed_all (take (k + 1) edits) (take (k + 1) ps)) (carried st rest)) (sym after)

-- an edit of a card that was changed
pub carries-none : (edits : List Edit) (places : List ℕ) (stands : Whereabouts) (k : ℕ) (edit : Edit) (touched : Touched) → k < length edits → edit ≡ get_or edits k edit →
    carried_place (stands_through (take k edits) (take k places) stands) edit ≡ Err touched → so_far edits places stands k ≡ Err touched
carries-none edits places stands k edit touched within is err =
    let front : List Edit = placed_all (take k edits) (take k places) in
    let stand : Whereabouts = stands_through (take k edits) (take k places) stands in
    let rest : List Edit = drop (k + 1) edits in
    ap (λ (left : List Edit). in_front_all front (carried stand left)) (rest-from edits k edit within is)
    ∙ ap (λ (found : Result ℕ Touched). in_front_all front (elim found as (λ x. Result (List Edit) Touched) [ Ok j ↦ in_front (placed j edit) (carried (stands_after edit j stand) rest) | Err touched ↦ Err touched ])) err

-- a place is the one that is set, or not
set-either : (xs : List ℕ) (i x k : ℕ) → i < length xs → ((k ≡ i) × (get_or (set xs i x) k 0 ≡ x)) ⊎ ((k ≡ i → ⊥) × (get_or (set xs i x) k 0 ≡ get_or xs k 0))
set-either [] i x k within = absurd (omega arith)
set-either (y ∷ xs) zero x zero within = inl (refl, refl)
set-either (y ∷ xs) zero x (suc k) within = inr (λ e. omega arith, refl)
set-either (y ∷ xs) (suc i) x zero within = inr (λ e. omega arith, refl)
set-either (y ∷ xs) (suc i) x (suc k) within = elim (set-either xs i x k (omega arith)) [ inl both ↦ inl (ap suc both.0, both.1) | inr both ↦ inr (λ e. both.0 (omega arith), both.1) ]

-- one place more that is near
pub near-more : (count made now : ℕ) (places : List ℕ) → count < length places → AreNear count made places → now ≤ 2 ^ 32 + made + 2 * count + 1 → AreNear (count + 1) made (set places count now)
near-more count made now places within near here = λ k below. elim (set-either places count now k within) [
  | inl both ↦ (let is = both.0 in let got = both.1 in omega arith)
  | inr both ↦ (let other = both.0 in let got = both.1 in let old : get_or places k 0 ≤ 2 ^ 32 + made + 2 * k + 2 = near k (omega arith) in omega arith)
]
