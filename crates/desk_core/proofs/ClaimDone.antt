-- Claims of the deck at the place where it was found.
use Rattle.std.{proofs.Common.{◌≡◌, ℕ, ◌+◌, true, cond, List, inl, Some, None, find, refl, sym, ap, ◌∙◌, subst}, specs.Prelude.slice_get, specs.List.list_any}
use Rattle.desk_core.{specs.Desks.{Desk, DeskDeck}, specs.Joins.Calls.{Refused, Refusal, OutOfMemory, DeckJob, DeckWork}, specs.Answers.{Answer, unless, against_next}, specs.Claiming.{is_behind, is_free, given, deck_work, hand_out, claim_deck, claim_link, claim}, specs.Joins.OwnNames.{IsPlaceOf, changed_at}, specs.Joins.Turns.MayAnswer, proofs.AnswerLaws.{told, done, lacking}, proofs.PlaceLaws.{element-at, named-with}}

module _ (desk : Desk) (place : ℕ) (behind : list_any is_behind desk.decks ≡ true) (is : IsPlaceOf is_free (Some place) desk.decks) where
  -- the deck that is due
  due : (deck : DeskDeck) × (slice_get desk.decks place ≡ Some deck)
  due = element-at desk.decks place (is.some place refl).1

  claimed : claim desk ≡ unless (against_next desk.leases) desk (hand_out due.0 desk)
  claimed =
      ap (λ b. cond b (claim_deck desk (find is_free desk.decks)) (claim_link desk)) behind
      ∙ ap (claim_deck desk) ((is.some place refl).0 ∙ due.1)

  -- a lease too many
  pub claim-told : (refusal : Refusal) → against_next desk.leases ≡ Some refusal → MayAnswer desk (claim desk) (Refused refusal) desk
  claim-told refusal e = subst (λ (a : Answer). MayAnswer desk a (Refused refusal) desk) (sym claimed) (inl (told _ refusal desk (hand_out due.0 desk) e))

  -- no memory
  pub claim-lacking : against_next desk.leases ≡ None → MayAnswer desk (claim desk) (Refused OutOfMemory) desk
  claim-lacking e = subst (λ (a : Answer). MayAnswer desk a (Refused OutOfMemory) desk) (sym claimed) (lacking _ desk (hand_out due.0 desk) e refl)

  -- the job
  pub claim-done : (work : DeckWork) → against_next desk.leases ≡ None → ((deck : DeskDeck) → slice_get desk.decks place ≡ Some deck → work ≡ deck_work (desk.leases + 1) deck) →
      MayAnswer desk (claim desk) (DeckJob work) (changed_at place (given (desk.leases + 1)) (record desk { leases = desk.leases + 1 }))
  claim-done work e job =
      let same = named-with (given (desk.leases + 1)) desk.decks place due.0 is.own due.1 in
      subst (λ (a : Answer). MayAnswer desk a (DeckJob work) (changed_at place (given (desk.leases + 1)) (record desk { leases = desk.leases + 1 }))) (sym claimed)
      (inl (done _ desk (hand_out due.0 desk) _ _ e (ap (λ (w : DeckWork). DeckJob w) (job due.0 due.1), ap (λ (decks : List DeskDeck). record desk { leases = desk.leases + 1; decks = decks }) (sym same))))
