-- The first edit that does not apply is known by the number of cards.
use Rattle.std.{specs.Prelude.remove, proofs.Common.{ℕ, zero, suc, ◌≡◌, ◌+◌, ◌-◌, ◌≤◌, ◌<◌, Bool, true, false, not, List, [], ◌∷◌, ◌++◌, length, take, drop, get_or, Option, Some, None, refl, sym, ap, subst, ◌∙◌, arith, option_map, nat_le}, proofs.lemmas.Bool.{leb-true, leb-false, and_parts}, proofs.lemmas.List.{length-set, at_drop_more, take-set, take-take, take-append-le, length-take-le}, proofs.lemmas.List.Edits.{length-insert, length-remove}}
use Rattle.definitions.specs.Cards.{Card}
use Rattle.cards.specs.{declared.edits.Edit.Edit, declared.edits.Edit.TheVariants.{Insert, Replace, Remove}, declared.edits.EditFault.EditFault, Causes.{when, first_cause}, Counts.{fault_at, count_after, fault_from}, Edits.{is_place, fault_of, edited, edited_by, first_fault}, Joins.CarrySteps.place_in, Converging.{HasPlace, HavePlaces}}

-- a cause that is absent
absent : {A : Type 0} (b : Bool) (cause : A) → when (not b) cause ≡ None → b ≡ true
absent true cause none = refl
absent false cause none = cc

-- the first of two causes is absent
first-absent : {A : Type 0} (b : Bool) (cause : A) (later : Option A) → first_cause (when (not b) cause ∷ later ∷ []) ≡ None → b ≡ true
first-absent true cause later none = refl
first-absent false cause later none = cc

-- a place is one of so many
placed : (count place : ℕ) → is_place count place ≡ true → (1 ≤ place) × (place ≤ count)
placed count place is = let both = and_parts (nat_le 1 place) (nat_le place count) is in (leb-true 1 place both.0, leb-true place count both.1)

-- how many cards an edit that applies leaves
pub edited-length : (edit : Edit) (cards : List Card) → fault_of edit cards ≡ None → length (edited cards edit) ≡ count_after edit (length cards)
edited-length (Insert place card) cards none =
    let within = placed (length cards + 1) place (first-absent _ _ _ none) in length-insert cards (place - 1) card (omega arith)
edited-length (Replace place card) cards none = length-set cards (place - 1) card
edited-length (Remove place) cards none =
    let within = placed (length cards) place (absent _ _ none) in
    let less = length-remove cards (place - 1) (omega arith) in omega arith

-- the cards before the one that an edit is of stay
front-stays : (n : ℕ) (cards rest : List Card) → n ≤ length cards → take n (take n cards ++ rest) ≡ take n cards
front-stays n cards rest h = let full = length-take-le n cards h in take-append-le n (take n cards) rest (omega (arith, full)) ∙ take-take n n cards (omega arith)

pub insert-front : (place : ℕ) (card : Card) (cards : List Card) → fault_of (Insert place card) cards ≡ None → take (place - 1) (edited cards (Insert place card)) ≡ take (place - 1) cards
insert-front place card cards none =
    let within = placed (length cards + 1) place (first-absent _ _ _ none) in front-stays (place - 1) cards (card ∷ drop (place - 1) cards) (omega arith)

pub replace-front : (place : ℕ) (card : Card) (cards : List Card) → take (place - 1) (edited cards (Replace place card)) ≡ take (place - 1) cards
replace-front place card cards = take-set cards (place - 1) card

take-removed : (n : ℕ) (cards : List Card) → take n (remove cards n) ≡ take n cards
take-removed zero cards = refl
take-removed (suc n) [] = refl
take-removed (suc n) (card ∷ cards) = ap (λ l. card ∷ l) (take-removed n cards)

pub remove-front : (place : ℕ) (cards : List Card) → take (place - 1) (edited cards (Remove place)) ≡ take (place - 1) cards
remove-front place cards = take-removed (place - 1) cards

-- what keeps an edit from applying is known by the number of cards
pub fault-of-count : (edit : Edit) (cards : List Card) → fault_of edit cards ≡ fault_at edit (length cards)
fault-of-count (Insert place card) cards = refl
fault-of-count (Replace place card) cards = refl
fault-of-count (Remove place) cards = refl

-- a fault, by its number so many edits further on
abbrev pub later_by : ℕ → ℕ × EditFault → ℕ × EditFault
later_by n fault = (fault.0 + n, fault.1)

-- one further on, and n more
later-twice : (n : ℕ) (found : Option (ℕ × EditFault)) → option_map (later_by n) (option_map (later_by 1) found) ≡ option_map (later_by (n + 1)) found
later-twice n None = refl
later-twice n (Some fault) = ap (λ (k : ℕ). Some (k, fault.1)) (omega arith)

-- the first fault, by that of the first edit
found-first : (found same : Option EditFault) (n : ℕ) (later counted : Option (ℕ × EditFault)) → same ≡ found →
    (found ≡ None → option_map (later_by (n + 1)) later ≡ counted) →
    option_map (later_by n) (elim same as (λ x. Option (ℕ × EditFault)) [ Some fault ↦ Some (1, fault) | None ↦ option_map (later_by 1) later ])
    ≡ elim found as (λ x. Option (ℕ × EditFault)) [ Some fault ↦ Some (n + 1, fault) | None ↦ counted ]
found-first None None n later counted e rest = later-twice n later ∙ rest refl
found-first None (Some fault) n later counted e rest = cc
found-first (Some fault) None n later counted e rest = cc
found-first (Some fault) (Some other) n later counted e rest =
    let same : other ≡ fault = cc in let one : 1 + n ≡ n + 1 = omega arith in cc

-- the first fault from a number on is the first fault, so much later
from-number : (edits : List Edit) (n : ℕ) (cards : List Card) → option_map (later_by n) (first_fault edits cards) ≡ fault_from (n + 1) (length cards) edits
from-number [] n cards = refl
from-number (edit ∷ edits) n cards =
    found-first (fault_at edit (length cards)) (fault_of edit cards) n (first_fault edits (edited cards edit)) _ (fault-of-count edit cards)
    (λ none. from-number edits (n + 1) (edited cards edit) ∙ ap (λ (count : ℕ). fault_from (n + 1 + 1) count edits) (edited-length edit cards (fault-of-count edit cards ∙ none)))

-- no edits further on
later-none : (found : Option (ℕ × EditFault)) → option_map (later_by 0) found ≡ found
later-none None = refl
later-none (Some fault) = ap (λ (k : ℕ). Some (k, fault.1)) (omega arith)

-- the first fault
pub first-fault : (edits : List Edit) (cards : List Card) → first_fault edits cards ≡ fault_from 1 (length cards) edits
first-fault edits cards = sym (later-none (first_fault edits cards)) ∙ from-number edits 0 cards

-- the first fault from a place on, where the edit there applies
pub applies-at : (edits : List Edit) (place number count : ℕ) (edit : Edit) → place < length edits → edit ≡ get_or edits place edit → fault_at edit count ≡ None →
    fault_from number count (drop place edits) ≡ fault_from (number + 1) (count_after edit count) (drop (place + 1) edits)
applies-at edits place number count edit within is none =
    at_drop_more (fault_from number count) edits place edit within
    ∙ ap (λ (one : Edit). fault_from number count (one ∷ drop (place + 1) edits)) (sym is)
    ∙ ap (λ (found : Option EditFault). elim found as (λ x. Option (ℕ × EditFault)) [ Some fault ↦ Some (number, fault) | None ↦ fault_from (number + 1) (count_after edit count) (drop (place + 1) edits) ]) none

-- the first fault from a place on, where the edit there does not apply
pub fault-at-place : (edits : List Edit) (place number count : ℕ) (edit : Edit) (fault : EditFault) → place < length edits → edit ≡ get_or edits place edit → fault_at edit count ≡ Some fault →
    fault_from number count (drop place edits) ≡ Some (number, fault)
fault-at-place edits place number count edit fault within is some =
    at_drop_more (fault_from number count) edits place edit within
    ∙ ap (λ (one : Edit). fault_from number count (one ∷ drop (place + 1) edits)) (sym is)
    ∙ ap (λ (found : Option EditFault). elim found as (λ x. Option (ℕ × EditFault)) [ Some fault ↦ Some (number, fault) | None ↦ fault_from (number + 1) (count_after edit count) (drop (place + 1) edits) ]) some

-- the second of two causes is absent
second-absent : {A : Type 0} (b : Bool) (cause : A) (later : Option A) → first_cause (when (not b) cause ∷ later ∷ []) ≡ None → later ≡ None
second-absent true cause None none = refl
second-absent true cause (Some other) none = cc
second-absent false cause later none = cc

-- a cause that is absent has no reason
reasonless : {A : Type 0} (b : Bool) (cause : A) → when b cause ≡ None → b ≡ false
reasonless true cause none = cc
reasonless false cause none = refl

-- an edit that applies leaves no more cards than a deck may have
pub edited-few : (edit : Edit) (cards : List Card) → fault_of edit cards ≡ None → length cards ≤ 20000 → length (edited cards edit) ≤ 20000
edited-few (Insert place card) cards none few =
    let same = edited-length (Insert place card) cards none in
    let room = leb-false 20000 (length cards) (reasonless _ _ (second-absent _ _ _ none)) in omega arith
edited-few (Replace place card) cards none few = let same = edited-length (Replace place card) cards none in omega arith
edited-few (Remove place) cards none few = let same = edited-length (Remove place) cards none in omega arith

-- the first of edits of which each applies
first-applies : (found : Option EditFault) (later : Option (ℕ × EditFault)) →
    elim found as (λ x. Option (ℕ × EditFault)) [ Some fault ↦ Some (1, fault) | None ↦ option_map (later_by 1) later ] ≡ None → (found ≡ None) × (later ≡ None)
first-applies None None e = (refl, refl)
first-applies None (Some fault) e = cc
first-applies (Some fault) later e = cc

-- the first of edits of which each applies, by its place
pub applies-in : (edits : List Edit) (place : ℕ) (edit : Edit) (cards : List Card) → place < length edits → edit ≡ get_or edits place edit → first_fault (drop place edits) cards ≡ None →
    (fault_of edit cards ≡ None) × (first_fault (drop (place + 1) edits) (edited cards edit) ≡ None)
applies-in edits place edit cards within is none =
    let more = at_drop_more (λ (es : List Edit). first_fault es cards) edits place edit within in
    let same = ap (λ (one : Edit). first_fault (one ∷ drop (place + 1) edits) cards) (sym is) in
    first-applies (fault_of edit cards) (first_fault (drop (place + 1) edits) (edited cards edit)) (sym (more ∙ same) ∙ none)

-- one edit more is made
pub made-in : (edits : List Edit) (place : ℕ) (edit : Edit) (cards : List Card) → place < length edits → edit ≡ get_or edits place edit →
    edited_by (drop place edits) cards ≡ edited_by (drop (place + 1) edits) (edited cards edit)
made-in edits place edit cards within is =
    let more = at_drop_more (λ (es : List Edit). edited_by es cards) edits place edit within in
    more ∙ ap (λ (one : Edit). edited_by (one ∷ drop (place + 1) edits) cards) (sym is)

-- the place of an edit that applies is one of a deck's, or the one behind them
pub place-low : (edit : Edit) (cards : List Card) → fault_of edit cards ≡ None → length cards ≤ 20000 → place_in edit ≤ 20001
place-low (Insert place card) cards none few = let within = placed (length cards + 1) place (first-absent _ _ _ none) in omega arith
place-low (Replace place card) cards none few = let within = placed (length cards) place (absent _ _ none) in omega arith
place-low (Remove place) cards none few = let within = placed (length cards) place (absent _ _ none) in omega arith

-- so are those of edits of which each applies to what the ones before it leave
pub places-low : (edits : List Edit) (cards : List Card) → first_fault edits cards ≡ None → length cards ≤ 20000 → (k : ℕ) (edit : Edit) → k < length edits → edit ≡ get_or edits k edit → place_in edit ≤ 20001
places-low [] cards none few k edit within is = absurd (omega arith)
places-low (first ∷ edits) cards none few zero edit within is =
    let both = first-applies (fault_of first cards) (first_fault edits (edited cards first)) none in
    subst (λ (one : Edit). place_in one ≤ 20001) (sym is) (place-low first cards both.0 few)
places-low (first ∷ edits) cards none few (suc k) edit within is =
    let both = first-applies (fault_of first cards) (first_fault edits (edited cards first)) none in
    places-low edits (edited cards first) both.1 (edited-few first cards both.0 few) k edit (omega arith) is

-- an edit that applies names a place
has-place : (edit : Edit) (cards : List Card) → fault_of edit cards ≡ None → HasPlace edit cards
has-place (Insert place card) cards none = placed (length cards + 1) place (first-absent _ _ _ none)
has-place (Replace place card) cards none = placed (length cards) place (absent _ _ none)
has-place (Remove place) cards none = placed (length cards) place (absent _ _ none)

-- so does each of edits of which each applies to what the ones before it leave
pub have-places : (edits : List Edit) (cards : List Card) → first_fault edits cards ≡ None → HavePlaces edits cards
have-places [] cards none = tt
have-places (edit ∷ edits) cards none =
    let both = first-applies (fault_of edit cards) (first_fault edits (edited cards edit)) none in
    (has-place edit cards both.0, have-places edits (edited cards edit) both.1)
