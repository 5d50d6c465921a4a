-- What is sized for edits is within what is due.
use Rattle.std.proofs.{Common.{◌≡◌, ℕ, ◌+◌, ◌-◌, ◌<◌, ◌≤◌, ◌⊎◌, ◌==◌, true, false, List, [], ◌∷◌, length, All, None, refl, sym, ap, ◌∙◌, subst, arith}, lemmas.Bool.eqb-true}
use Rattle.definitions.specs.{Cards.Card, DeckKinds.kind_of_statements, Laws.Edits.{DoAgree, Edited, IsUntouched, Split}, Statements.Statement}
use Rattle.cards.specs.{declared.edits.Edit.Edit, Edits.{edited_by, first_fault}}
use Rattle.deck_assembler.{specs.Joins.DueCodes.{CodePlan, IsPlanOf, code_due_of}, specs.Joins.Formers.known_in, specs.Joins.Meetings.StandApart, specs.Joins.Tails.{HasTailIfAny, HasTailWithin}, specs.declared.former.Former.Former, proofs.AgreementLaws.untouched-before, proofs.DueCodeCounts.{due-code-weaker, within-due-code}}
use Rattle.deck_assembler.proofs.FrontLaws.{front-still as still}
use Rattle.edit_core.{specs.Edited.{front_of, AreDecksOf, RisesToDue, RisesToDueCode, RisesWithinDue, RisesWithinDueCode, StandBehind, StandUnchanged}, proofs.EditLaws.decks-before, proofs.EndLaws.apart-all}

-- the cards that the code takes for those before edits and behind them
pub record AreTaken (edits : List Edit) (cards : List Card) (before behind : ℕ) : Type 0 where
  pub some : (length edits == 0) ≡ false
  pub apply : first_fault edits cards ≡ None
  pub few : length cards ≤ 20000
  pub all : All (λ edit. before ≤ front_of edit) edits
  pub most : (count : ℕ) → count ≤ 20000 → All (λ edit. count ≤ front_of edit) edits → count ≤ before
  pub most_behind : (count : ℕ) → count ≤ length cards → StandBehind count edits (length cards) → count ≤ behind

-- those of the own cards, which are these
pub are-taken : (edits : List Edit) (own cards : List Card) (before behind : ℕ) → own ≡ cards → (length edits == 0) ≡ false → first_fault edits cards ≡ None → length cards ≤ 20000 →
    All (λ edit. before ≤ front_of edit) edits → ((count : ℕ) → count ≤ 20000 → All (λ edit. count ≤ front_of edit) edits → count ≤ before) →
    ((of : List Card) (count : ℕ) → length of ≡ length own → length own ≤ 20000 → first_fault edits of ≡ None → count ≤ length own → StandBehind count edits (length own) → count ≤ behind) → AreTaken edits cards before behind
are-taken edits own cards before behind same some apply few all most most_behind =
    let count = ap length same in
    record {
      some = some;
      apply = apply;
      few = few;
      all = all;
      most = most;
      most_behind = λ n within stand. most_behind cards n (sym count) (omega (arith, few, count)) apply (omega (arith, within, count)) (subst (StandBehind n edits) (sym count) stand);
    }

-- the decks of an edit
apart-of : (edits : List Edit) (own cards made : List Card) (before behind : ℕ) (decks : Edited) → own ≡ cards → made ≡ edited_by edits own → AreTaken edits cards before behind → AreDecksOf edits cards decks → StandUnchanged edits cards decks →
    StandApart own made before behind decks
apart-of edits own cards made before behind decks same after taken are ends =
    let apart = apart-all edits cards before ends.behind taken.some taken.apply taken.all ends.stand in
    let of_old = ends.of_old in
    let of_new = ends.of_new in
    record {
      of_old = are.old ∙ ap known_in (sym same);
      of_new = are.new ∙ ap (λ (l : List Card). known_in (edited_by edits l)) (sym same) ∙ ap known_in (sym after);
      old_before = let all = apart.0 in omega (arith, all, of_old);
      new_before = let all = apart.1 in omega (arith, all, of_new);
      count = ends.behind;
      old_count = of_old ∙ ap length (sym same);
      new_count = of_new ∙ ap (λ (l : List Card). length (edited_by edits l)) (sym same) ∙ ap length (sym after);
      few = taken.most_behind ends.behind ends.few ends.stand;
    }

-- what is counted from one time to another, where it is bounded behind each untouched front
pub due-edited : (edits : List Edit) (own cards made : List Card) (before behind count now : ℕ) → own ≡ cards → made ≡ edited_by edits own → AreTaken edits cards before behind → count ≤ now →
    ((decks : Edited) (front : List Statement) → decks.old ≡ known_in own → decks.new ≡ known_in made → decks.before ≤ before → IsUntouched decks front →
    length front + now ≤ length decks.new + count) →
    ((decks : Edited) (front : List Statement) (split : Split) → StandApart own made before behind decks → decks.before ≤ before → IsUntouched decks front → DoAgree decks split → length front + now ≤ (length split.new_front + 128) + count) →
    RisesToDue edits cards count now
due-edited edits own cards made before behind count now same after taken rises front due = λ decks are ends.
    let apart = apart-of edits own cards made before behind decks same after taken are ends in
    let few = decks-before edits cards before decks taken.most are taken.few in
    record {
      to_end = λ untouched is. let bound = front decks untouched apart.of_old apart.of_new few is in omega (arith, bound, rises);
      to_agreement = λ untouched split is agree. let bound = due decks untouched split apart few is agree in omega (arith, bound, rises);
    }

-- where nothing is counted
pub due-still : (edits : List Edit) (cards : List Card) (before behind count : ℕ) → AreTaken edits cards before behind → RisesToDue edits cards count count
due-still edits cards before behind count taken =
    due-edited edits cards cards (edited_by edits cards) before behind count count refl refl taken (omega arith) (λ decks front old new few is. still decks front count is)
    (λ decks front split apart few is agree. let before_split = untouched-before cards (edited_by edits cards) before behind decks front split apart few is agree in omega (arith, before_split))

-- some edits
pub due-some : (edits : List Edit) (cards : List Card) (count now : ℕ) → (length edits == 0) ≡ false → RisesToDue edits cards count now → RisesWithinDue edits cards count now
due-some [] cards count now some due = cc
due-some (edit ∷ edits) cards count now some due = due

-- no edits
pub due-none : (edits : List Edit) (cards : List Card) (count : ℕ) → (length edits == 0) ≡ true → RisesWithinDue edits cards count count
due-none [] cards count none = refl
due-none (edit ∷ edits) cards count none = let zero = eqb-true (length (edit ∷ edits)) 0 none in absurd (omega (arith, zero))

-- what is coded, where it is bounded by what is due of each plan
pub due-code-edited : (edits : List Edit) (own cards made : List Card) (before behind : ℕ) (former : Former) (count now : ℕ) → own ≡ cards → made ≡ edited_by edits own → AreTaken edits cards before behind → count ≤ now →
    former.before ≡ before → (former.kind ≡ kind_of_statements (known_in made)) ⊎ (former.tail ≡ 0) → HasTailIfAny (kind_of_statements (known_in made)) own made former.tail (known_in made) →
    ((decks : Edited) (front : List Statement) (split : Split) → StandApart own made before behind decks → decks.before ≤ before → IsUntouched decks front → DoAgree decks split → length split.new_front + 128 < length (known_in made) →
    HasTailWithin (kind_of_statements (known_in made)) own made former.tail (known_in made) (length split.new_front + 128)) →
    ((plan : CodePlan) → IsPlanOf (kind_of_statements (known_in made)) own made former plan → now ≤ count + code_due_of made plan) → RisesToDueCode edits cards count now
due-code-edited edits own cards made before behind former count now same after taken rises same_before same_kind tail within due = λ decks are ends.
    let apart = apart-of edits own cards made before behind decks same after taken are ends in
    let few = decks-before edits cards before decks taken.most are taken.few in
    within-due-code own made before behind former decks (now - count) apart few same_before same_kind tail (λ front split is agree. within decks front split apart few is agree)
    (λ plan of. let bound = due plan of in omega (arith, bound))

-- the same, where the bound is stated of other lists that are these cards, and from another count that is this one
pub due-code-object : (edits : List Edit) (own cards made shown items : List Card) (before behind : ℕ) (former : Former) (count start now : ℕ) → own ≡ cards → made ≡ edited_by edits own → AreTaken edits cards before behind →
    own ≡ shown → made ≡ items → start ≡ count → start ≤ now → former.before ≡ before → (former.kind ≡ kind_of_statements (known_in made)) ⊎ (former.tail ≡ 0) → HasTailIfAny (kind_of_statements (known_in made)) own made former.tail (known_in made) →
    ((decks : Edited) (front : List Statement) (split : Split) → StandApart own made before behind decks → decks.before ≤ before → IsUntouched decks front → DoAgree decks split → length split.new_front + 128 < length (known_in made) →
    HasTailWithin (kind_of_statements (known_in made)) own made former.tail (known_in made) (length split.new_front + 128)) →
    ((plan : CodePlan) → IsPlanOf (kind_of_statements (known_in items)) shown items former plan → now ≤ start + code_due_of items plan) → RisesToDueCode edits cards count now
due-code-object edits own cards made shown items before behind former count start now same after taken object copied at rises same_before same_kind tail within due =
    due-code-edited edits own cards made before behind former count now same after taken (omega (arith, at, rises)) same_before same_kind tail within
    (λ plan of.
    let bound = due plan (subst (λ (both : List Card × List Card). IsPlanOf (kind_of_statements (known_in both.1)) both.0 both.1 former plan) (λ i. (object i, copied i)) of) in
    let same_due = ap (λ (l : List Card). code_due_of l plan) copied in
    omega (arith, bound, same_due, at))

-- where nothing is coded
pub due-code-still : (edits : List Edit) (cards : List Card) (before behind count : ℕ) → AreTaken edits cards before behind → RisesToDueCode edits cards count count
due-code-still edits cards before behind count taken = λ decks are ends. due-code-weaker decks 128 (count - count) (due-still edits cards before behind count taken decks are ends)

pub due-code-some : (edits : List Edit) (cards : List Card) (count now : ℕ) → (length edits == 0) ≡ false → RisesToDueCode edits cards count now → RisesWithinDueCode edits cards count now
due-code-some [] cards count now some due = cc
due-code-some (edit ∷ edits) cards count now some due = due

pub due-code-none : (edits : List Edit) (cards : List Card) (count : ℕ) → (length edits == 0) ≡ true → RisesWithinDueCode edits cards count count
due-code-none [] cards count none = refl
due-code-none (edit ∷ edits) cards count none = let zero = eqb-true (length (edit ∷ edits)) 0 none in absurd (omega (arith, zero))
