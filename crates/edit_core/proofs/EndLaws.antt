-- The cards behind the one that an edit is of stay.
use Rattle.std.{specs.Prelude.{remove, slice_set, insert, nat_le}, proofs.Common.{ℕ, zero, suc, ◌≡◌, ◌+◌, ◌-◌, ◌≤◌, ◌<◌, inl, inr, List, [], ◌∷◌, length, drop, get_or, All, Bool, true, false, not, ◌==◌, Option, None, refl, sym, ap, ◌∙◌, subst, arith}, proofs.lemmas.Bool.{and_parts, cases_lt, leb-true}, proofs.lemmas.List.{length-drop, drop_all, drop-set-lt, drop_more}, proofs.lemmas.List.Elements.{All-head, All-tail}}
use Rattle.definitions.specs.Cards.{Card}
use Rattle.cards.{specs.Counts.count_after, specs.Causes.{when, first_cause}, specs.Edits.{is_place, fault_of, edited, edited_by, first_fault}, specs.declared.edits.Edit.Edit, specs.declared.edits.Edit.TheVariants.{Insert, Replace, Remove}, proofs.FaultLaws.{applies-in, edited-few, edited-length, made-in}}
use Rattle.deck_assembler.{specs.Joins.Agreements.HaveSameEnd, proofs.OntoLaws.drop-more}
use Rattle.edit_core.specs.Edited.{count_behind, front_of, StandBehind}

drop-inserted : (n : ℕ) (card : Card) (cards : List Card) → n ≤ length cards → drop (suc n) (insert cards n card) ≡ drop n cards
drop-inserted zero card cards h = refl
drop-inserted (suc n) card [] h = absurd (omega (arith, h))
drop-inserted (suc n) card (first ∷ cards) h = drop-inserted n card cards (omega (arith, h))

drop-removed : (n : ℕ) (cards : List Card) → n < length cards → drop (suc n) cards ≡ drop n (remove cards n)
drop-removed zero [] h = absurd (omega (arith, h))
drop-removed zero (card ∷ cards) h = refl
drop-removed (suc n) [] h = absurd (omega (arith, h))
drop-removed (suc n) (card ∷ cards) h = drop-removed n cards (omega (arith, h))

-- of no cards the last ones are the same
none-behind : (count : ℕ) (old cards : List Card) → count ≡ 0 → HaveSameEnd count old cards
none-behind count old cards none = drop_all (length old - count) old (omega (arith, none)) ∙ sym (drop_all (length cards - count) cards (omega (arith, none)))

-- the last cards are the same from these places on
end-from : (count n m : ℕ) (old cards : List Card) → drop n old ≡ drop m cards → n + count ≡ length old → m + count ≡ length cards → HaveSameEnd count old cards
end-from count n m old cards e first second =
    ap (λ k. drop k old) (omega (arith, first)) ∙ e ∙ ap (λ k. drop k cards) (omega (arith, second))

-- of one edit
end-one : (edit : Edit) (cards : List Card) → fault_of edit cards ≡ None → HaveSameEnd (count_behind edit (length cards)) cards (edited cards edit)
end-one (Insert place card) cards none =
    let n = place - 1 in
    let after = edited-length (Insert place card) cards none in
    elim (cases_lt (length cards) n) [
      | inl over ↦ none-behind (length cards - n) cards (insert cards n card) (omega (arith, over))
      | inr within ↦ end-from (length cards - n) n (suc n) cards (insert cards n card) (sym (drop-inserted n card cards within)) (omega (arith, within)) (omega (arith, within, after))
    ]
end-one (Replace place card) cards none =
    let n = place - 1 in
    let after = edited-length (Replace place card) cards none in
    elim (cases_lt n (length cards)) [
      | inl within ↦ end-from (length cards - n - 1) (suc n) (suc n) cards (slice_set cards n card) (sym (drop-set-lt (suc n) cards n card (omega arith))) (omega (arith, within)) (omega (arith, within, after))
      | inr over ↦ none-behind (length cards - n - 1) cards (slice_set cards n card) (omega (arith, over))
    ]
end-one (Remove place) cards none =
    let n = place - 1 in
    let after = edited-length (Remove place) cards none in
    elim (cases_lt n (length cards)) [
      | inl within ↦ end-from (length cards - n - 1) (suc n) n cards (remove cards n) (drop-removed n cards within) (omega (arith, within)) (omega (arith, within, after))
      | inr over ↦ none-behind (length cards - n - 1) cards (remove cards n) (omega (arith, over))
    ]

-- and so are fewer of them
end-fewer : (few many : ℕ) (old cards : List Card) → few ≤ many → HaveSameEnd many old cards → HaveSameEnd few old cards
end-fewer few many old cards fewer e =
    let from = length old - many in
    let there = length cards - many in
    let gap = (length old - few) - from in
    let first = length-drop from old in
    let second = length-drop there cards in
    let both = ap length e in
    let here : from + gap ≡ length old - few = omega (arith, fewer) in
    let at : there + gap ≡ length cards - few = omega (arith, fewer, first, second, both) in
    ap (λ k. drop k old) (sym here) ∙ sym (drop-more gap from old) ∙ ap (drop gap) e ∙ drop-more gap there cards ∙ ap (λ k. drop k cards) at

-- after some of the edits these cards are left, of which so many of the last are those that there were
pub record IsLeft (edits : List Edit) (place left behind : ℕ) (cards : List Card) : Type 0 where
  pub current : List Card
  pub count : left ≡ length current
  pub few : left ≤ 20000
  pub none : first_fault (drop place edits) current ≡ None
  pub made : edited_by edits cards ≡ edited_by (drop place edits) current
  pub same : HaveSameEnd behind cards current
  pub most : (n : ℕ) → n ≤ length cards → StandBehind n edits (length cards) → (n ≤ behind) × StandBehind n (drop place edits) left

-- no fewer of the last cards stay behind one edit more
most-more : (edits : List Edit) (place left behind now fewer n : ℕ) (edit : Edit) → place < length edits → edit ≡ get_or edits place edit →
    now ≡ count_after edit left → (n ≤ behind → n ≤ count_behind edit left → n ≤ fewer) → (n ≤ behind) × StandBehind n (drop place edits) left →
    (n ≤ fewer) × StandBehind n (drop (place + 1) edits) now
most-more edits place left behind now fewer n edit within is after least so_far =
    let split = drop_more edits place edit within ∙ ap (λ (one : Edit). one ∷ drop (place + 1) edits) (sym is) in
    let both = subst (λ (es : List Edit). StandBehind n es left) split so_far.1 in
    (least so_far.0 both.0, subst (StandBehind n (drop (place + 1) edits)) (sym after) both.1)

-- one edit more
pub left-more : (edits : List Edit) (place left behind now fewer : ℕ) (edit : Edit) (cards : List Card) → place < length edits → edit ≡ get_or edits place edit → IsLeft edits place left behind cards →
    now ≡ count_after edit left → fewer ≤ behind → fewer ≤ count_behind edit left → ((n : ℕ) → n ≤ behind → n ≤ count_behind edit left → n ≤ fewer) → IsLeft edits (place + 1) now fewer cards
left-more edits place left behind now fewer edit cards within is so_far after few here least =
    let current = so_far.current in
    let both = applies-in edits place edit current within is so_far.none in
    let length_now = edited-length edit current both.0 in
    let count = so_far.count in
    let room = edited-few edit current both.0 (omega (arith, count, so_far.few)) in
    record {
      current = edited current edit;
      count = after ∙ ap (count_after edit) count ∙ sym length_now;
      few = let same = after ∙ ap (count_after edit) count ∙ sym length_now in omega (arith, same, room);
      none = both.1;
      made = so_far.made ∙ made-in edits place edit current within is;
      same = end-fewer fewer behind cards current few so_far.same
          ∙ end-fewer fewer (count_behind edit (length current)) current (edited current edit) (subst (λ n. fewer ≤ count_behind edit n) count here) (end-one edit current both.0);
      most = λ n within_cards stand. most-more edits place left behind now fewer n edit within is after (least n) (so_far.most n within_cards stand);
    }

absent : {A : Type 0} (b : Bool) (cause : A) → when (not b) cause ≡ None → b ≡ true
absent true cause none = refl
absent false cause none = cc

first-absent : {A : Type 0} (b : Bool) (cause : A) (later : Option A) → first_cause (when (not b) cause ∷ later ∷ []) ≡ None → b ≡ true
first-absent true cause later none = refl
first-absent false cause later none = cc

placed : (count place : ℕ) → is_place count place ≡ true → (1 ≤ place) × (place ≤ count)
placed count place is = let both = and_parts (nat_le 1 place) (nat_le place count) is in (leb-true 1 place both.0, leb-true place count both.1)

-- cards before the one that an edit is of and cards behind it are no more than all, before the edit and after it
pub apart-one : (edit : Edit) (cards : List Card) (before behind : ℕ) → fault_of edit cards ≡ None → before ≤ front_of edit → behind ≤ count_behind edit (length cards) →
    (before + behind ≤ length cards) × (before + behind ≤ length (edited cards edit))
apart-one (Insert place card) cards before behind none few many =
    let within = placed (length cards + 1) place (first-absent _ _ _ none) in
    let after = edited-length (Insert place card) cards none in
    let first = within.0 in
    let last = within.1 in
    (omega (arith, first, last, few, many), omega (arith, first, last, few, many, after))
apart-one (Replace place card) cards before behind none few many =
    let within = placed (length cards) place (absent _ _ none) in
    let after = edited-length (Replace place card) cards none in
    let first = within.0 in
    let last = within.1 in
    (omega (arith, first, last, few, many), omega (arith, first, last, few, many, after))
apart-one (Remove place) cards before behind none few many =
    let within = placed (length cards) place (absent _ _ none) in
    let after = edited-length (Remove place) cards none in
    let first = within.0 in
    let last = within.1 in
    (omega (arith, first, last, few, many), omega (arith, first, last, few, many, after))

-- of some edits
apart-more : (edits : List Edit) (cards : List Card) (before behind : ℕ) → first_fault edits cards ≡ None → All (λ edit. before ≤ front_of edit) edits → StandBehind behind edits (length cards) →
    before + behind ≤ length cards → before + behind ≤ length (edited_by edits cards)
apart-more [] cards before behind none few many within = within
apart-more (edit ∷ edits) cards before behind none few many within =
    let both = applies-in (edit ∷ edits) 0 edit cards (omega arith) refl none in
    let one = apart-one edit cards before behind both.0 (All-head (λ e. before ≤ front_of e) edit edits few) many.0 in
    apart-more edits (edited cards edit) before behind both.1 (All-tail (λ e. before ≤ front_of e) edit edits few) (subst (StandBehind behind edits) (sym (edited-length edit cards both.0)) many.1) one.1

pub apart-all : (edits : List Edit) (cards : List Card) (before behind : ℕ) → (length edits == 0) ≡ false → first_fault edits cards ≡ None → All (λ edit. before ≤ front_of edit) edits → StandBehind behind edits (length cards) →
    (before + behind ≤ length cards) × (before + behind ≤ length (edited_by edits cards))
apart-all [] cards before behind some none few many = cc
apart-all (edit ∷ edits) cards before behind some none few many =
    let both = applies-in (edit ∷ edits) 0 edit cards (omega arith) refl none in
    let within = (apart-one edit cards before behind both.0 (All-head (λ e. before ≤ front_of e) edit edits few) many.0).0 in
    (within, apart-more (edit ∷ edits) cards before behind none few many within)
