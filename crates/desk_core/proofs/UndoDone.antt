-- What the code does to the deck at a place to take a change back is what the answer says of the deck of its name.
use Rattle.std.{proofs.Common.{◌≡◌, ◌≤◌, ℕ, List, [], ◌∷◌, length, false, not, nat_le, nat_lt, refl, arith, sym, ap, ◌∙◌, subst, inl, Option, Some, None}, specs.Prelude.slice_get, proofs.lemmas.Bool.{and_parts, not-false, leb-true}, proofs.lemmas.List.length-append}
use Rattle.desk_core.{specs.Joins.Causes.when, specs.Joins.Edits.Edit, specs.Desks.{Desk, DeskDeck, is_named}, specs.Joins.OwnNames.IsPlaceOf, specs.Joins.Calls.{Reply, Refused, Refusal, OldVersion, Forgotten, NoChange}, specs.Answers.{Answer, unless}, specs.Changing.{is_batch, most_edits}, specs.Carrying.{edit_since, edit_since_of}, specs.Undoing.{backs_at, against_change, undo, undo_where}, specs.Joins.Stored.backs_from, specs.declared.past.Back.Back, specs.Joins.Turns.MayAnswer, proofs.AnswerLaws.{told, no-reason, all-clear}}

-- there are as many edits that take back as there are of what takes back
pub backs-length : (backs : List Back) → length (backs_from backs) ≡ length backs
backs-length [] = refl
backs-length (back ∷ later) =
    let more = length-append (backs_from later) (back.edit ∷ []) in
    let same = backs-length later in
    omega (arith, more, same)

-- where nothing speaks against what is asked of a version's change, it has no more edits than a batch
pub few-backs : (version : ℕ) (deck : DeskDeck) → against_change version deck ≡ None → length (backs_at version deck) ≤ 100
few-backs version deck clear =
    let none = all-clear (when (nat_lt deck.version version) (OldVersion deck.version) ∷ when (nat_le version deck.past.since) (Forgotten deck.past.since) ∷ when (not (is_batch (backs_at version deck))) NoChange ∷ []) clear in
    let fits = and_parts (nat_le 1 (length (backs_at version deck))) (nat_le (length (backs_at version deck)) most_edits) (not-false (is_batch (backs_at version deck)) (no-reason (not (is_batch (backs_at version deck))) NoChange none.1.1.0)) in
    leb-true (length (backs_at version deck)) most_edits fits.1

unless-clear : (against : Option Refusal) (desk : Desk) (a : Answer) → against ≡ None → unless against desk a ≡ a
unless-clear None desk a e = refl
unless-clear (Some refusal) desk a e = cc

module _ (name who : List ℕ) (version : ℕ) (desk : Desk) (place : ℕ) (is : IsPlaceOf (is_named name) (Some place) desk.decks) (deck : DeskDeck) (found : slice_get desk.decks place ≡ Some deck) where
  undo-over : undo name version who desk ≡ undo_where name version who desk (Some deck)
  undo-over = ap (undo_where name version who desk) ((is.some place refl).0 ∙ found)

  edit-over : (edits : List Edit) → edit_since false name version edits who desk ≡ edit_since_of false name version edits who desk (Some deck)
  edit-over edits = ap (edit_since_of false name version edits who desk) ((is.some place refl).0 ∙ found)

  pub undo-refused : (result : Option Refusal) (refusal : Refusal) → result ≡ against_change version deck → result ≡ Some refusal → MayAnswer desk (undo name version who desk) (Refused refusal) desk
  undo-refused result refusal given e = subst (λ (a : Answer). MayAnswer desk a (Refused refusal) desk) (sym undo-over) (inl (told _ refusal desk _ (sym given ∙ e)))

  -- an undo is the edits that take the change back
  pub undo-done : (result : Option Refusal) (edits : List Edit) (reply : Reply) (next : Desk) → result ≡ against_change version deck → result ≡ None → edits ≡ backs_at version deck →
      MayAnswer desk (edit_since false name version edits who desk) reply next → MayAnswer desk (undo name version who desk) reply next
  undo-done result edits reply next given clear same may =
      let over : undo name version who desk ≡ edit_since false name version edits who desk =
      undo-over
      ∙ (unless-clear (against_change version deck) desk (edit_since_of false name version (backs_at version deck) who desk (Some deck)) (sym given ∙ clear)
      ∙ sym (edit-over edits ∙ ap (λ (es : List Edit). edit_since_of false name version es who desk (Some deck)) same)) in
      subst (λ (a : Answer). MayAnswer desk a reply next) (sym over) may
