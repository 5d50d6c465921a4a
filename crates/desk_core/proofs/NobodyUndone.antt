-- Edits that were carried undo nothing of others, in every run.
use Rattle.std.proofs.Common.{◌≡◌, ℕ, Bool, false, List, [], ◌∷◌, inl, inr, Option, Some, None, option_map, Ok, refl, ap, ◌∙◌}
use Rattle.cards.{specs.declared.carrying.MadeEdit.MadeEdit, specs.Carrying.seen_before, specs.Converging.edits_in, proofs.FaultLaws.have-places, proofs.Batches.{seen-tells, converges}}
use Rattle.desk_core.{specs.Joins.Language.Card, specs.Joins.Edits.{Edit, fault_of, edited, first_fault}, specs.Past.KeptEdit, specs.Led.HaveLed, specs.Desks.{Desk, DeskDeck, deck_named}, specs.Joins.Calls.{Since, Edits, EditDeck, Undo, Make, Carried, Refused, OutOfMemory}, specs.Answers.Answer, specs.Earlier.edits_behind, specs.Carrying.{made_in, cards_of, carried_since, against_carry, accept_carried, edit_since_of, is_alone, edits_of}, specs.Changing.shown, specs.Undoing.{backs_at, against_change, undo_where}, specs.Steps.Steps, specs.Runs.{History, LosesNothing, Runs}, proofs.AnswerLaws.{unrefused, map-clear}, proofs.CarryDone.carry-clear, proofs.PastLaws.fault-later, proofs.PastAlways.{HasPast, past-named, led-behind}, proofs.UndoTakesBack.accepts-made}

-- edits that led from cards to others apply there
led-apply : (before : List Card) (kept : List KeptEdit) (now : List Card) → HaveLed before kept now → first_fault (edits_in (made_in kept)) before ≡ None
led-apply before [] now led = refl
led-apply before (one ∷ kept) now led = fault-later (fault_of one.edit before) (first_fault (edits_in (made_in kept)) (edited before one.edit)) led.0 (led-apply (edited before one.edit) kept now led.2)

-- nothing spoke against the edits, and they were carried
of-carried : (seen : ℕ) (edits moved : List Edit) (desk : Desk) (deck : DeskDeck) → HasPast desk.version deck.cards deck.past → against_carry seen edits desk deck ≡ None → carried_since seen edits deck ≡ Ok moved → LosesNothing seen deck edits moved
of-carried seen edits moved desk deck has clear carried =
    let apply = (carry-clear seen edits moved desk deck clear carried).apply in
    let made : List MadeEdit = made_in (edits_behind seen deck) in
    let made_apply = led-apply (cards_of seen deck) (edits_behind seen deck) deck.cards (led-behind desk.version seen deck has) in
    converges edits (seen_before made) (edits_in made) (cards_of seen deck) moved (seen-tells made) (have-places (edits_in made) (cards_of seen deck) made_apply) (have-places edits (cards_of seen deck) apply) carried

module _ (begun : ℕ) (history : History) (desk next : Desk) (name who : List ℕ) (deck : DeskDeck) (seen version before : ℕ) (moved : List Edit) (runs : Runs begun history desk) (found : deck_named name desk ≡ Some deck) where
  has : HasPast desk.version deck.cards deck.past
  has = past-named begun history desk name deck runs found

  -- by an answer to edits that were to be carried
  by-answer : (single : Bool) (edits : List Edit) → Carried version before moved ≡ (edit_since_of single name seen edits who desk (Some deck)).reply → LosesNothing seen deck edits moved
  by-answer single edits told =
      let both = unrefused (option_map (shown single) (against_carry seen edits desk deck)) desk (accept_carried name who desk deck (carried_since seen edits deck)) (Carried version before moved) (λ refusal e. cc) told in
      let made = accepts-made name who desk deck (carried_since seen edits deck) version before moved (told ∙ ap (λ (a : Answer). a.reply) both.1) in
      of-carried seen edits moved desk deck has (map-clear (shown single) (against_carry seen edits desk deck) both.0) made.0

  -- of edits, and of what takes a change back
  pub edits_undo_nothing : (edits : Edits) → Steps desk (Make who (EditDeck name (Since seen) edits)) (Carried version before moved) next → LosesNothing seen deck (edits_of edits) moved
  edits_undo_nothing edits (inl gave) = by-answer (is_alone edits) (edits_of edits) (gave.0 ∙ ap (λ (d : Option DeskDeck). (edit_since_of (is_alone edits) name seen (edits_of edits) who desk d).reply) found)
  edits_undo_nothing edits (inr starved) = absurd (let e : Carried version before moved ≡ Refused OutOfMemory = starved.1 in cc)

  pub undo_undoes_nothing : Steps desk (Make who (Undo name seen)) (Carried version before moved) next → LosesNothing seen deck (backs_at seen deck) moved
  undo_undoes_nothing (inl gave) =
      let told : Carried version before moved ≡ (undo_where name seen who desk (Some deck)).reply = gave.0 ∙ ap (λ (d : Option DeskDeck). (undo_where name seen who desk d).reply) found in
      let both = unrefused (against_change seen deck) desk (edit_since_of false name seen (backs_at seen deck) who desk (Some deck)) (Carried version before moved) (λ refusal e. cc) told in
      by-answer false (backs_at seen deck) (told ∙ ap (λ (a : Answer). a.reply) both.1)
  undo_undoes_nothing (inr starved) = absurd (let e : Carried version before moved ≡ Refused OutOfMemory = starved.1 in cc)
