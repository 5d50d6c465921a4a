-- What edits count that are made in groups, one behind the other.
use Rattle.std.{proofs.Common.{◌≡◌, ◌+◌, ◌-◌, ◌*◌, ◌≤◌, ◌<◌, ℕ, Bool, true, false, List, [], ◌∷◌, ◌++◌, take, drop, length, None, refl, sym, ap, ap₂, ◌∙◌, subst, arith, append_assoc, length-append, take-append-drop}, proofs.lemmas.List.{append-nil, length-take-le}, specs.Prelude.option_map}
use Rattle.definitions.specs.Cards.{Card}
use Rattle.cards.{specs.Edits.{edited, edited_by, first_fault}, specs.declared.edits.Edit.Edit, specs.declared.edits.EditFault.EditFault, proofs.FaultLaws.applies-in}
use Rattle.statement_coder.specs.Meters.{Counts}
use Rattle.edit_core.{specs.Edited.{edits_bound, IsRecordOf, RisesToAnew, RisesToRebound}, specs.Faults.{against_all, record_fault}, specs.Joins.Groups.IsFirstMade, specs.Records.Record, specs.Sums.{DueForEach, fronts_sum, ends_sum, cards_between, edits_in, statements_sum, CountsInOrder, RisesByGroups, RisesInGroups, RisesWithinSum, RisesWithinSumCode}, proofs.NearLaws.{sum-append, sum-append-code, apply-split}, proofs.SumLaws.{single, applies-all}}

pub edited-append : (some others : List Edit) (cards : List Card) → edited_by (some ++ others) cards ≡ edited_by others (edited_by some cards)
edited-append [] others cards = refl
edited-append (edit ∷ some) others cards = edited-append some others (edited cards edit)

sum-of-both : (some others : List Edit) (cards : List Card) → statements_sum (some ++ others) cards ≡ statements_sum some cards + statements_sum others (edited_by some cards)
sum-of-both [] others cards = omega arith
sum-of-both (edit ∷ some) others cards = let rest = sum-of-both some others (edited cards edit) in omega (arith, rest)

-- edits made at once count no more statements than those of the last deck
last-within : (edits : List Edit) (cards : List Card) → edits_bound edits cards ≤ statements_sum edits cards
last-within [] cards = omega arith
last-within (edit ∷ []) cards = omega arith
last-within (edit ∷ next ∷ edits) cards = let rest = last-within (next ∷ edits) (edited cards edit) in omega (arith, rest)

-- no front has more statements than stand in front of the end
ordered : (edits : List Edit) (cards : List Card) → first_fault edits cards ≡ None → (each : DueForEach edits cards) → fronts_sum edits cards each ≤ ends_sum edits cards each
ordered [] cards none each = omega arith
ordered (edit ∷ edits) cards none each =
    let applies = applies-in (edit ∷ edits) 0 edit cards (omega arith) refl none in
    let first = (single edit cards applies.0 each.0).ordered in
    let rest = ordered edits (edited cards edit) applies.1 each.1 in
    omega (arith, first, rest)

-- some edits, and others behind them
pub in-order-append : (some others : List Edit) (cards : List Card) (old mid new : Counts) → CountsInOrder some cards old mid → CountsInOrder others (edited_by some cards) mid new → CountsInOrder (some ++ others) cards old new
in-order-append some others cards old mid new one two =
    let both = length-append some others in
    let sums = sum-of-both some others cards in
    let one_sized = one.sized_few in
    let two_sized = two.sized_few in
    let one_coded = one.coded_few in
    let two_coded = two.coded_few in
    let one_rises = one.sized_rises in
    let two_rises = two.sized_rises in
    let one_more = one.coded_rises in
    let two_more = two.coded_rises in
    record {
      sized = λ each.
          let bound = sum-append some others cards (128 * length some) (128 * length others) old.sized mid.sized new.sized one.sized two.sized each in
          omega (arith, bound, both);
      coded = λ each.
          let bound = sum-append-code some others cards (128 * length some) (128 * length others) old.coded mid.coded new.coded one.coded two.coded each in
          omega (arith, bound, both);
      sized_rises = omega (arith, one_rises, two_rises);
      sized_few = omega (arith, one_sized, two_sized, sums);
      coded_rises = omega (arith, one_more, two_more);
      coded_few = omega (arith, one_coded, two_coded, sums);
    }

-- edits that are not made
pub in-order-none : (edits : List Edit) (cards : List Card) (meter : Counts) → first_fault edits cards ≡ None → CountsInOrder edits cards meter meter
in-order-none edits cards meter none = record {
  sized = λ each. let few = ordered edits cards none each in omega (arith, few);
  coded = λ each. let few = ordered edits cards none each in omega (arith, few);
  sized_rises = omega arith;
  sized_few = omega arith;
  coded_rises = omega arith;
  coded_few = omega arith;
}

-- edits that lie near each other, made at once
pub in-order-once : (edits : List Edit) (cards : List Card) (old new : Counts) → 0 < length edits → cards_between edits (length cards) ≤ 128 * (length edits - 1) →
    RisesWithinSum (128 + cards_between edits (length cards)) edits cards old.sized new.sized → RisesWithinSumCode (128 + cards_between edits (length cards)) edits cards old.coded new.coded →
    old.sized ≤ new.sized → new.sized ≤ old.sized + edits_bound edits cards → old.coded ≤ new.coded → new.coded ≤ old.coded + edits_bound edits cards → CountsInOrder edits cards old new
in-order-once edits cards old new some near sized coded sized_rises sized_few coded_rises coded_few =
    let last = last-within edits cards in
    record {
      sized = λ each. let bound = sized each in omega (arith, bound, some, near);
      coded = λ each. let bound = coded each in omega (arith, bound, some, near);
      sized_rises = sized_rises;
      sized_few = omega (arith, sized_few, last);
      coded_rises = coded_rises;
      coded_few = omega (arith, coded_few, last);
    }

-- what keeps a record from no edit
against-none : (edits : List Edit) (is_spent : Bool) (cards own : List Card) → is_spent ≡ false → own ≡ cards → first_fault edits cards ≡ None → against_all edits is_spent own ≡ None
against-none edits is_spent cards own unspent same none =
    ap₂ (λ (spent : Bool) (l : List Card). against_all edits spent l) unspent same ∙ ap (option_map (λ (found : ℕ × EditFault). record_fault found.1)) none

unspent-of : (edits : List Edit) (is_spent : Bool) (cards : List Card) → against_all edits is_spent cards ≡ None → is_spent ≡ false
unspent-of edits false cards none = refl
unspent-of edits true cards none = cc

-- where edits apply, so do the first of them, and the others to what these leave
pub first-apply : (edits : List Edit) (count : ℕ) (is_spent : Bool) (cards : List Card) → against_all edits is_spent cards ≡ None → against_all (take count edits) is_spent cards ≡ None
first-apply edits count is_spent cards none =
    let split = subst (λ (l : List Edit). first_fault l cards ≡ None) (sym (take-append-drop count edits)) (applies-all edits is_spent cards none) in
    against-none (take count edits) is_spent cards cards (unspent-of edits is_spent cards none) refl (apply-split (take count edits) (drop count edits) cards split).0

others-apply : (edits : List Edit) (count : ℕ) (is_spent : Bool) (cards : List Card) → against_all edits is_spent cards ≡ None → first_fault (drop count edits) (edited_by (take count edits) cards) ≡ None
others-apply edits count is_spent cards none =
    let split = subst (λ (l : List Edit). first_fault l cards ≡ None) (sym (take-append-drop count edits)) (applies-all edits is_spent cards none) in
    (apply-split (take count edits) (drop count edits) cards split).1

-- what the first of some edits count, made at once
pub first-counts : (edits : List Edit) (count : ℕ) (cards : List Card) (old new : Counts) → 0 < count → count ≤ length edits → cards_between (take count edits) (length cards) ≤ 128 * (count - 1) →
    RisesWithinSum (128 + cards_between (take count edits) (length cards)) (take count edits) cards old.sized new.sized →
    RisesWithinSumCode (128 + cards_between (take count edits) (length cards)) (take count edits) cards old.coded new.coded →
    old.sized ≤ new.sized → new.sized ≤ old.sized + edits_bound (take count edits) cards → old.coded ≤ new.coded → new.coded ≤ old.coded + edits_bound (take count edits) cards →
    CountsInOrder (take count edits) cards old new
first-counts edits count cards old new some within near sized coded sized_rises sized_few coded_rises coded_few =
    let same = length-take-le count edits within in
    in-order-once (take count edits) cards old new (omega (arith, same, some)) (omega (arith, same, near)) sized coded sized_rises sized_few coded_rises coded_few

pub whole-counts : (edits : List Edit) (count : ℕ) (is_spent : Bool) (cards : List Card) (old new : Counts) → against_all edits is_spent cards ≡ None → CountsInOrder (take count edits) cards old new → CountsInOrder edits cards old new
whole-counts edits count is_spent cards old new none first =
    subst (λ (l : List Edit). CountsInOrder l cards old new) (take-append-drop count edits)
    (in-order-append (take count edits) (drop count edits) cards old new new first (in-order-none (drop count edits) (edited_by (take count edits) cards) new (others-apply edits count is_spent cards none)))

pub first-made : (edits others : List Edit) (count : ℕ) (old new : Record) (before behind : Counts) → others ≡ drop count edits → against_all edits old.is_spent old.cards ≡ None →
    IsRecordOf old.name (edited_by (take count edits) old.cards) new → CountsInOrder (take count edits) old.cards before behind → RisesToAnew (take count edits) old.cards before.sized behind.sized →
    RisesToRebound (take count edits) old.cards before.coded behind.coded → IsFirstMade count edits others old new before behind
first-made edits others count old new before behind are none made counts anew rebound = record {
  others_are = are;
  made = made;
  apply = against-none others new.is_spent (edited_by (take count edits) old.cards) new.cards made.unspent made.cards_are
      (subst (λ (l : List Edit). first_fault l (edited_by (take count edits) old.cards) ≡ None) (sym are) (others-apply edits count old.is_spent old.cards none));
  counts = counts;
  anew = anew;
  rebound = rebound;
}

-- one group more
groups-more : (Rises : List Edit → List Card → ℕ → ℕ → Type 0) (groups : List (List Edit)) (more : List Edit) (cards : List Card) (count between now : ℕ) → RisesByGroups Rises groups cards count between → between ≤ now →
    Rises more (edited_by (edits_in groups) cards) between now → RisesByGroups Rises (groups ++ more ∷ []) cards count now
groups-more Rises [] more cards count between now rises few last = (now, (omega (arith, rises, few), (subst (λ n. Rises more cards n now) (sym rises) last, refl)))
groups-more Rises (group ∷ groups) more cards count between now rises few last = (
  rises.0,
  (
    rises.1.0,
    (
      rises.1.1.0,
      groups-more Rises groups more (edited_by group cards) rises.0 between now rises.1.1.1 few
          (subst (λ (l : List Card). Rises more l between now) (edited-append group (edits_in groups) cards) last),
    ),
  ),
)

groups-all : (groups : List (List Edit)) (more : List Edit) → edits_in (groups ++ more ∷ []) ≡ edits_in groups ++ more
groups-all [] more = append-nil more
groups-all (group ∷ groups) more = ap (λ (l : List Edit). group ++ l) (groups-all groups more) ∙ sym (append_assoc group (edits_in groups) more)

in-groups-more : (Rises : List Edit → List Card → ℕ → ℕ → Type 0) (done more : List Edit) (cards : List Card) (count between now : ℕ) → RisesInGroups Rises done cards count between → between ≤ now →
    Rises more (edited_by done cards) between now → RisesInGroups Rises (done ++ more) cards count now
in-groups-more Rises done more cards count between now so_far few last = record {
  groups = so_far.groups ++ more ∷ [];
  all = groups-all so_far.groups more ∙ ap (λ (l : List Edit). l ++ more) so_far.all;
  rises = groups-more Rises so_far.groups more cards count between now so_far.rises few (subst (λ (l : List Edit). Rises more (edited_by l cards) between now) (sym so_far.all) last);
}

-- some of the edits are made, and these are left
pub record IsOnWay (edits left : List Edit) (old now : Record) (before behind : Counts) : Type 0 where
  pub done : List Edit
  pub all : edits ≡ done ++ left
  pub made : IsRecordOf old.name (edited_by done old.cards) now
  pub apply : against_all left now.is_spent now.cards ≡ None
  pub counts : CountsInOrder done old.cards before behind
  pub anew : RisesInGroups RisesToAnew done old.cards before.sized behind.sized
  pub rebound : RisesInGroups RisesToRebound done old.cards before.coded behind.coded

pub on-way-more : (edits left others : List Edit) (count : ℕ) (old now new : Record) (before mid behind : Counts) → IsOnWay edits left old now before mid → IsFirstMade count left others now new mid behind →
    IsOnWay edits others old new before behind
on-way-more edits left others count old now new before mid behind so_far first =
    let done = so_far.done in
    let more = take count left in
    let split : left ≡ more ++ others = sym (take-append-drop count left) ∙ ap (λ (l : List Edit). more ++ l) (sym first.others_are) in
    let cards_are : edited_by more now.cards ≡ edited_by (done ++ more) old.cards = ap (edited_by more) so_far.made.cards_are ∙ sym (edited-append done more old.cards) in
    record {
      done = done ++ more;
      all = so_far.all ∙ ap (λ (l : List Edit). done ++ l) split ∙ sym (append_assoc done more others);
      made = subst (λ (l : List Card). IsRecordOf old.name l new) cards_are (subst (λ (n : List ℕ). IsRecordOf n (edited_by more now.cards) new) so_far.made.name_is first.made);
      apply = first.apply;
      counts = in-order-append done more old.cards before mid behind so_far.counts (subst (λ (l : List Card). CountsInOrder more l mid behind) so_far.made.cards_are first.counts);
      anew = in-groups-more RisesToAnew done more old.cards before.sized mid.sized behind.sized so_far.anew first.counts.sized_rises (subst (λ (l : List Card). RisesToAnew more l mid.sized behind.sized) so_far.made.cards_are first.anew);
      rebound = in-groups-more RisesToRebound done more old.cards before.coded mid.coded behind.coded so_far.rebound first.counts.coded_rises (subst (λ (l : List Card). RisesToRebound more l mid.coded behind.coded) so_far.made.cards_are first.rebound);
    }

-- memory ran out
pub on-way-lost : (edits left : List Edit) (old now : Record) (before mid behind : Counts) → IsOnWay edits left old now before mid → CountsInOrder left now.cards mid behind → CountsInOrder edits old.cards before behind
on-way-lost edits left old now before mid behind so_far last =
    subst (λ (l : List Edit). CountsInOrder l old.cards before behind) (sym so_far.all)
    (in-order-append so_far.done left old.cards before mid behind so_far.counts (subst (λ (l : List Card). CountsInOrder left l mid behind) so_far.made.cards_are last))

-- what the first of some edits count, stated of the list that they are cut off as
pub cut-counts : (edits first : List Edit) (count : ℕ) (is_spent : Bool) (cards : List Card) (old new : Counts) → first ≡ take count edits → against_all edits is_spent cards ≡ None →
    0 < count → count ≤ length edits → cards_between (take count edits) (length cards) ≤ 128 * (count - 1) →
    (against_all first is_spent cards ≡ None → RisesWithinSum (128 + cards_between first (length cards)) first cards old.sized new.sized) →
    (against_all first is_spent cards ≡ None → RisesWithinSumCode (128 + cards_between first (length cards)) first cards old.coded new.coded) →
    old.sized ≤ new.sized → new.sized ≤ old.sized + edits_bound first cards → old.coded ≤ new.coded → new.coded ≤ old.coded + edits_bound first cards → CountsInOrder (take count edits) cards old new
cut-counts edits first count is_spent cards old new is none some within near sized coded sized_rises sized_few coded_rises coded_few =
    let accepted = subst (λ (l : List Edit). against_all l is_spent cards ≡ None) (sym is) (first-apply edits count is_spent cards none) in
    first-counts edits count cards old new some within near
    (subst (λ (l : List Edit). RisesWithinSum (128 + cards_between l (length cards)) l cards old.sized new.sized) is (sized accepted))
    (subst (λ (l : List Edit). RisesWithinSumCode (128 + cards_between l (length cards)) l cards old.coded new.coded) is (coded accepted))
    sized_rises (subst (λ (l : List Edit). new.sized ≤ old.sized + edits_bound l cards) is sized_few) coded_rises (subst (λ (l : List Edit). new.coded ≤ old.coded + edits_bound l cards) is coded_few)

-- a cut off list is refused for want of memory alone
pub cut-accepted : (edits first : List Edit) (count : ℕ) (is_spent : Bool) (cards : List Card) → first ≡ take count edits → against_all edits is_spent cards ≡ None → against_all first is_spent cards ≡ None
cut-accepted edits first count is_spent cards is none = subst (λ (l : List Edit). against_all l is_spent cards ≡ None) (sym is) (first-apply edits count is_spent cards none)
