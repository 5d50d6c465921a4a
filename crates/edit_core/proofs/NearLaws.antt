-- Edits that lie near each other are made at once, and others behind them.
use Rattle.std.{proofs.Common.{◌≡◌, ◌+◌, ◌≤◌, ℕ, List, [], ◌∷◌, ◌++◌, take, length, Option, Some, None, refl, ap, ap₂, ◌∙◌, arith}, specs.Prelude.option_map, proofs.lemmas.List.{append-nil, take_all}}
use Rattle.definitions.specs.Cards.{Card}
use Rattle.cards.{specs.Edits.{edited, edited_by, fault_of, first_fault}, specs.declared.edits.Edit.Edit, specs.declared.edits.EditFault.EditFault, proofs.FaultLaws.applies-in}
use Rattle.edit_core.specs.{Sums.{DueForEach, fronts_sum, ends_sum, rebound_sum, between_from, cards_between, RisesWithinSum, RisesWithinSumCode}}

-- an edit and so many others have so many cards between them; whatever edits follow are known by what these touch
pub record AreTouched (first : Edit) (others : List Edit) (k count between before behind left : ℕ) : Type 0 where
  pub all : (later : List Edit) → cards_between (first ∷ (take k others ++ later)) count ≡ between + between_from before behind later left

-- what stands between all of them
pub touched-all : (first : Edit) (others : List Edit) (k count between before behind left : ℕ) → length others ≤ k → AreTouched first others k count between before behind left → cards_between (first ∷ others) count ≡ between
touched-all first others k count between before behind left all so_far =
    let whole = so_far.all [] in
    let same = ap (λ (l : List Edit). cards_between (first ∷ l) count) (append-nil (take k others) ∙ take_all k others all) in
    omega (arith, whole, same)

-- what is stated of some edits and of others behind them
record IsTold (some others : List Edit) (cards : List Card) (each : DueForEach (some ++ others) cards) : Type 0 where
  one : DueForEach some cards
  two : DueForEach others (edited_by some cards)
  fronts : fronts_sum (some ++ others) cards each ≡ fronts_sum some cards one + fronts_sum others (edited_by some cards) two
  ends : ends_sum (some ++ others) cards each ≡ ends_sum some cards one + ends_sum others (edited_by some cards) two
  rebound : rebound_sum (some ++ others) cards each ≡ rebound_sum some cards one + rebound_sum others (edited_by some cards) two

told : (some others : List Edit) (cards : List Card) (each : DueForEach (some ++ others) cards) → IsTold some others cards each
told [] others cards each = record { one = tt; two = each; fronts = omega arith; ends = omega arith; rebound = omega arith }
told (edit ∷ some) others cards each =
    let rest = told some others (edited cards edit) each.1 in
    let fronts = rest.fronts in
    let ends = rest.ends in
    let rebound = rest.rebound in
    record { one = (each.0, rest.one); two = rest.two; fronts = omega (arith, fronts); ends = omega (arith, ends); rebound = omega (arith, rebound) }

-- sums, one behind the other
pub sum-append : (some others : List Edit) (cards : List Card) (more other count mid now : ℕ) → RisesWithinSum more some cards count mid → RisesWithinSum other others (edited_by some cards) mid now →
    RisesWithinSum (more + other) (some ++ others) cards count now
sum-append some others cards more other count mid now first second = λ each.
    let parts = told some others cards each in
    let one = first parts.one in
    let two = second parts.two in
    let fronts = parts.fronts in
    let ends = parts.ends in
    omega (arith, one, two, fronts, ends)

pub sum-append-code : (some others : List Edit) (cards : List Card) (more other count mid now : ℕ) → RisesWithinSumCode more some cards count mid → RisesWithinSumCode other others (edited_by some cards) mid now →
    RisesWithinSumCode (more + other) (some ++ others) cards count now
sum-append-code some others cards more other count mid now first second = λ each.
    let parts = told some others cards each in
    let one = first parts.one in
    let two = second parts.two in
    let fronts = parts.fronts in
    let ends = parts.ends in
    let rebound = parts.rebound in
    omega (arith, one, two, fronts, ends, rebound)

fault-joined : (found : Option EditFault) (later : Option (ℕ × EditFault)) → found ≡ None → later ≡ None →
    (elim found as (λ x. Option (ℕ × EditFault)) [ Some fault ↦ Some (1, fault) | None ↦ option_map (λ (l : ℕ × EditFault). (l.0 + 1, l.1)) later ]) ≡ None
fault-joined found later e f =
    ap₂ (λ (x : Option EditFault) (y : Option (ℕ × EditFault)). elim x as (λ x. Option (ℕ × EditFault)) [ Some fault ↦ Some (1, fault) | None ↦ option_map (λ (l : ℕ × EditFault). (l.0 + 1, l.1)) y ]) e f

-- where edits apply, so do the first of them, and the others behind those
pub apply-split : (some others : List Edit) (cards : List Card) → first_fault (some ++ others) cards ≡ None → (first_fault some cards ≡ None) × (first_fault others (edited_by some cards) ≡ None)
apply-split [] others cards none = (refl, none)
apply-split (edit ∷ some) others cards none =
    let applies = applies-in (edit ∷ (some ++ others)) 0 edit cards (omega arith) refl none in
    let rest = apply-split some others (edited cards edit) applies.1 in
    (fault-joined (fault_of edit cards) (first_fault some (edited cards edit)) applies.0 rest.0, rest.1)
