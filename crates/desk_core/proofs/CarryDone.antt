-- What the code does to the deck at a place with edits that were carried is what the answer says of the deck of its name.
use Rattle.std.{proofs.Common.{◌≡◌, ℕ, ◌+◌, Bool, List, [], ◌∷◌, refl, sym, ap, ◌∙◌, subst, inl, not, true, Option, Some, None, option_map, Result, Ok}, specs.Prelude.slice_get, specs.Option.ForSome}
use Rattle.cards.specs.declared.carrying.Touched.{Touched}
use Rattle.desk_core.{specs.Joins.Edits.{Edit, first_fault}, specs.Desks.{Desk, DeskDeck, is_named}, specs.Joins.OwnNames.{IsPlaceOf, changed_at}, specs.Joins.Calls.{Refused, Refusal, Carried, BatchSize, OutOfMemory}, specs.Joins.Causes.when, specs.Earlier.against_since, specs.Answers.{Answer, against_next}, specs.Changing.{edited_deck, is_batch, bad_edit, shown}, specs.Carrying.{cards_of, carried_since, against_carried, against_carry, accept_carried, edit_since, edit_since_of}, specs.Steps.is_made, specs.Joins.Turns.{IsAnswer, MayAnswer}, proofs.AnswerLaws.{told, done, lacking, all-clear, map-clear}, proofs.PlaceLaws.element-at, proofs.ChangeDone.{next_with, edited-same}}

-- where nothing speaks against edits, they apply to the cards that were seen, and as they were carried; and there is a version more
pub record IsClear (seen : ℕ) (edits moved : List Edit) (desk : Desk) (deck : DeskDeck) : Type 0 where
  pub apply : first_fault edits (cards_of seen deck) ≡ None
  pub apply_now : first_fault moved deck.cards ≡ None
  pub room : against_next desk.version ≡ None

pub carry-clear : (seen : ℕ) (edits moved : List Edit) (desk : Desk) (deck : DeskDeck) → against_carry seen edits desk deck ≡ None → carried_since seen edits deck ≡ Ok moved → IsClear seen edits moved desk deck
carry-clear seen edits moved desk deck clear carried =
    let now : Option Refusal = against_carried (carried_since seen edits deck) deck.cards in
    let before : Option Refusal = option_map bad_edit (first_fault edits (cards_of seen deck)) in
    let none = all-clear (against_since seen deck ∷ when (not (is_batch edits)) BatchSize ∷ before ∷ now ∷ against_next desk.version ∷ []) clear in
    record {
      apply = map-clear bad_edit (first_fault edits (cards_of seen deck)) none.1.1.0;
      apply_now = map-clear bad_edit (first_fault moved deck.cards) (sym (ap (λ (r : Result (List Edit) Touched). against_carried r deck.cards) carried) ∙ none.1.1.1.0);
      room = none.1.1.1.1.0;
    }

module _ (single : Bool) (name who : List ℕ) (seen : ℕ) (desk : Desk) (place : ℕ) (is : IsPlaceOf (is_named name) (Some place) desk.decks) where
  pub there : (deck : DeskDeck) × (slice_get desk.decks place ≡ Some deck)
  there = element-at desk.decks place (is.some place refl).1

  -- a fact of the deck at the place
  pub of-deck : (P : DeskDeck → Type 0) → ForSome (slice_get desk.decks place) P → P there.0
  of-deck P fact = fact there.0 there.1

  pub at-place : (P : DeskDeck → Type 0) → P there.0 → ForSome (slice_get desk.decks place) P
  at-place P fact = λ deck is. let same : Some there.0 ≡ Some deck = sym there.1 ∙ is in let decks : there.0 ≡ deck = cc in subst P decks fact

  -- nothing is shown where nothing speaks against them
  shown-none : (against : Option Refusal) → against ≡ None → option_map (shown single) against ≡ None
  shown-none against e = ap (option_map (shown single)) e

  -- a change by edits that were carried
  accepted : (moved : List Edit) (before : ℕ) (carried : Result (List Edit) Touched) → carried ≡ Ok moved → before ≡ there.0.version →
      IsAnswer (accept_carried name who desk there.0 carried) (Carried (desk.version + 1) before moved) (changed_at place (edited_deck (desk.version + 1) who moved) (next_with desk desk.decks))
  accepted moved before carried e same =
      subst (λ (r : Result (List Edit) Touched). IsAnswer (accept_carried name who desk there.0 r) (Carried (desk.version + 1) before moved) (changed_at place (edited_deck (desk.version + 1) who moved) (next_with desk desk.decks)))
      (sym e) (ap (λ (v : ℕ). Carried (desk.version + 1) v moved) same, sym (edited-same name who moved desk place is))

  is-made : (moved : List Edit) (carried : Result (List Edit) Touched) → carried ≡ Ok moved → is_made (accept_carried name who desk there.0 carried).reply ≡ true
  is-made moved carried e = subst (λ (r : Result (List Edit) Touched). is_made (accept_carried name who desk there.0 r).reply ≡ true) (sym e) refl

  module _ (edits : List Edit) where
    edit-over : edit_since single name seen edits who desk ≡ edit_since_of single name seen edits who desk (Some there.0)
    edit-over = ap (edit_since_of single name seen edits who desk) ((is.some place refl).0 ∙ there.1)

    pub edit-refused : (result : Option Refusal) (refusal : Refusal) → ForSome (slice_get desk.decks place) (λ deck. result ≡ against_carry seen edits desk deck) → result ≡ Some refusal →
        MayAnswer desk (edit_since single name seen edits who desk) (Refused (shown single refusal)) desk
    edit-refused result refusal given e =
        subst (λ (a : Answer). MayAnswer desk a (Refused (shown single refusal)) desk) (sym edit-over)
        (inl (told _ (shown single refusal) desk _ (ap (option_map (shown single)) (sym (of-deck (λ deck. result ≡ against_carry seen edits desk deck) given) ∙ e))))

    pub edit-done : (result : Option Refusal) (moved : List Edit) (before : ℕ) → ForSome (slice_get desk.decks place) (λ deck. result ≡ against_carry seen edits desk deck) → result ≡ None →
        ForSome (slice_get desk.decks place) (λ deck. carried_since seen edits deck ≡ Ok moved) → ForSome (slice_get desk.decks place) (λ deck. before ≡ deck.version) →
        IsAnswer (edit_since single name seen edits who desk) (Carried (desk.version + 1) before moved) (changed_at place (edited_deck (desk.version + 1) who moved) (next_with desk desk.decks))
    edit-done result moved before given clear carried same =
        subst (λ (a : Answer). IsAnswer a (Carried (desk.version + 1) before moved) (changed_at place (edited_deck (desk.version + 1) who moved) (next_with desk desk.decks))) (sym edit-over)
        (done _ desk _ _ _ (shown-none _ (sym (of-deck (λ deck. result ≡ against_carry seen edits desk deck) given) ∙ clear))
        (accepted moved before _ (of-deck (λ deck. carried_since seen edits deck ≡ Ok moved) carried) (of-deck (λ deck. before ≡ deck.version) same)))

    pub edit-starved : (result : Option Refusal) (moved : List Edit) → ForSome (slice_get desk.decks place) (λ deck. result ≡ against_carry seen edits desk deck) → result ≡ None →
        ForSome (slice_get desk.decks place) (λ deck. carried_since seen edits deck ≡ Ok moved) → MayAnswer desk (edit_since single name seen edits who desk) (Refused OutOfMemory) desk
    edit-starved result moved given clear carried =
        subst (λ (a : Answer). MayAnswer desk a (Refused OutOfMemory) desk) (sym edit-over)
        (lacking (option_map (shown single) (against_carry seen edits desk there.0)) desk (accept_carried name who desk there.0 (carried_since seen edits there.0))
        (shown-none _ (sym (of-deck (λ deck. result ≡ against_carry seen edits desk deck) given) ∙ clear))
        (is-made moved (carried_since seen edits there.0) (of-deck (λ deck. carried_since seen edits deck ≡ Ok moved) carried)))

    -- where nothing speaks against them, they apply
    pub carried-applies : (result : Option Refusal) (moved : List Edit) → ForSome (slice_get desk.decks place) (λ deck. result ≡ against_carry seen edits desk deck) → result ≡ None →
        ForSome (slice_get desk.decks place) (λ deck. carried_since seen edits deck ≡ Ok moved) →
        ForSome (slice_get desk.decks place) (λ deck. first_fault moved deck.cards ≡ None) × (against_next desk.version ≡ None)
    carried-applies result moved given clear carried =
        let both = carry-clear seen edits moved desk there.0 (sym (of-deck (λ deck. result ≡ against_carry seen edits desk deck) given) ∙ clear) (of-deck (λ deck. carried_since seen edits deck ≡ Ok moved) carried) in
        (at-place (λ deck. first_fault moved deck.cards ≡ None) both.apply_now, both.room)
