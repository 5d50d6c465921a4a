-- What each step does to the desk: the kinds of steps, each with what is known where it is made.
use Rattle.std.{proofs.Common.{◌≡◌, ℕ, ◌+◌, ◌≤◌, ◌==◌, nat_le, nat_lt, Bool, true, false, cond, not, ◌||◌, ◌&&◌, is_none, List, [], ◌∷◌, length, find, is_some, Option, Some, None, Result, Ok, Err, option_map, refl, inl, inr, eqb-true}, specs.List.list_any, proofs.lemmas.Bool.{cond_both, or_parts, not-false, ltb-false}}
use Rattle.cards.specs.declared.carrying.Touched.{Touched}
use Rattle.desk_core.{specs.Joins.Language.{Card, Deck}, specs.Joins.Causes.when, specs.Joins.Edits.{Edit, most_cards, first_fault}, specs.Desks.{Desk, DeskDeck, Kept, Publication, most_decks, deck_named, with_deck, is_leased, is_leased_at, decks_of}, specs.Joins.Calls.{Exactly, Since, Edits, AddDeck, PutDeck, DropDeck, EditDeck, Undo, Changes, CardsAt, Cards, Show, Status, Claim, DeliverDeck, DeliverLink, Publish, GiveUp, Call, Make, Ask, Do, Done, Reply, Changed, Carried, DeckJob, LinkJob, Stored, Published, Cleared, Refused, Refusal, OutOfMemory, NameTaken, TooManyDecks, DeckFull, NoDeck, BatchSize, Foreign, Stale}, specs.Answers.{Answer, unless, against_next}, specs.Changing.{accepted, against_add, added, against_put, put, put_where, against_drop, dropped, edited, against_edits, is_batch, bad_edit, shown, against_seen}, specs.Carrying.{carried_since, against_carry, accept_carried, edit_since_of, is_alone, edits_of}, specs.Undoing.{backs_at, against_change, undo_where}, specs.Reading.{cards_reply, show_reply}, specs.Earlier.{against_since, changes_of, cards_at_of}, specs.Claiming.{claim, claim_deck, hand_out, hand_out_link, is_behind, is_free, is_published}, specs.Delivering.{deliver_to, deck_leased, lost, given_back, stored, is_for, is_sound, same_decks, deliver_link, publish, own_publication, give_up_of, unlinked}, specs.Steps.{answer, starved, Steps}, specs.Runs.{History, accepts, change_asked}, specs.Changes.Edited, specs.Jobs.{identity_of, leased_in, Accepts, effect_if, effect_on}, proofs.AnswerLaws.{no-reason, all-clear, map-clear}, proofs.CarryDone.carry-clear, proofs.Same.equal_lists, proofs.JobsTold.AddsNone}

-- whether a reply to a worker gives a lease, or loses a record
abbrev pub does : Call → Reply → Bool
does (Do Claim) (DeckJob job) = true
does (Do Claim) (LinkJob job) = true
does (Do (DeliverDeck done)) (Refused Foreign) = true
does (Do (GiveUp number)) Cleared = true
does _ _ = false

-- whether a call with its reply means something for decks, leases or records
abbrev pub means : Call → Reply → Bool
means call reply = accepts reply || does call reply

-- whether a reply shows that decks are published
abbrev pub shows_decks : Reply → Bool
shows_decks Stored = true
shows_decks (Published before) = true
shows_decks _ = false

abbrev pub is_work : Call → Bool
is_work (Do work) = true
is_work _ = false

-- whether a call with its reply publishes decks
abbrev pub publishes : Call → Reply → Bool
publishes call reply = shows_decks reply && is_work call

-- a call whose reply accepts these edits of the deck of a name
pub record IsEdit (call : Call) (reply : Reply) (name : List ℕ) (edits : List Edit) : Type 0 where
  pub told : accepts reply ≡ true
  pub asked : change_asked call reply ≡ Some (Edited name edits)
  pub adds_none : AddsNone call reply
  pub leases_none : (number : ℕ) → leased_in number call reply ≡ None
  pub effects : (history : History) (deck : ℕ) → effect_on deck history call reply ≡ effect_if deck (identity_of name history) (Accepts edits)

-- the desk is as it was, or the lease of its link ends; its decks are published; a job is handed out; the record of a deck is lost, comes back, or is stored with an object; or a change is made
pub data Kind (desk : Desk) : Call → Reply → Desk → Type 0 where
  leaves_desk : (call : Call) (reply : Reply) → means call reply ≡ false → Kind desk call reply desk
  ends_link : (call : Call) (reply : Reply) → means call reply ≡ false → Kind desk call reply (unlinked desk)
  gives_link_up : (number : ℕ) → is_leased number desk.link ≡ true → Kind desk (Do (GiveUp number)) Cleared (unlinked desk)
  publishes_decks : (call : Call) (reply : Reply) (publication : Publication) → means call reply ≡ false → publishes call reply ≡ true → publication.version ≡ desk.version → publication.decks ≡ decks_of desk →
      Kind desk call reply (record (unlinked desk) { publication = Some publication })
  hands_link : Kind desk (Do Claim) (hand_out_link desk).reply (hand_out_link desk).desk
  hands_deck : (deck : DeskDeck) → find is_free desk.decks ≡ Some deck → Kind desk (Do Claim) (hand_out deck desk).reply (hand_out deck desk).desk
  gives_deck_up : (number : ℕ) (deck : DeskDeck) → deck_leased number desk ≡ Some deck → Kind desk (Do (GiveUp number)) Cleared (with_deck deck.name lost desk)
  is_foreign : (done : Done) (deck : DeskDeck) → deck_leased done.lease desk ≡ Some deck → Kind desk (Do (DeliverDeck done)) (Refused Foreign) (with_deck deck.name lost desk)
  gives_back : (done : Done) (deck : DeskDeck) → deck_leased done.lease desk ≡ Some deck → is_some done.kept ≡ true →
      Kind desk (Do (DeliverDeck done)) (Refused (Stale deck.version)) (with_deck deck.name (given_back done.kept) desk)
  stores : (done : Done) (deck : DeskDeck) → deck_leased done.lease desk ≡ Some deck → is_some done.kept ≡ true → Kind desk (Do (DeliverDeck done)) Stored (with_deck deck.name (stored done.kept) desk)
  adds : (who : List ℕ) (deck : Deck) → deck_named deck.name desk ≡ None → length deck.cards ≤ 20000 → Kind desk (Make who (AddDeck deck)) (Changed (desk.version + 1)) (added deck desk)
  puts_new : (who : List ℕ) (deck : Deck) (seen : ℕ) → deck_named deck.name desk ≡ None → length deck.cards ≤ 20000 → Kind desk (Make who (PutDeck deck seen)) (Changed (desk.version + 1)) (added deck desk)
  puts_over : (who : List ℕ) (deck : Deck) (seen : ℕ) (before : DeskDeck) → deck_named deck.name desk ≡ Some before → length deck.cards ≤ 20000 →
      Kind desk (Make who (PutDeck deck seen)) (Changed (desk.version + 1)) (put deck desk (Some before))
  drops : (who name : List ℕ) (seen : ℕ) → Kind desk (Make who (DropDeck name seen)) (Changed (desk.version + 1)) (dropped name desk)
  edits_deck : (call : Call) (reply : Reply) (name who : List ℕ) (edits : List Edit) (deck : DeskDeck) → deck_named name desk ≡ Some deck → first_fault edits deck.cards ≡ None → IsEdit call reply name edits →
      Kind desk call reply (edited name who edits desk)

nothing-there : (found : Option DeskDeck) → when (is_some found) NameTaken ≡ None → found ≡ None
nothing-there None e = refl
nothing-there (Some deck) e = cc

not-full : (cards : List Card) → when (nat_lt most_cards (length cards)) DeckFull ≡ None → length cards ≤ 20000
not-full cards none = ltb-false 20000 (length cards) (no-reason (nat_lt most_cards (length cards)) DeckFull none)

is-there : (kept : Option Kept) → is_none kept ≡ false → is_some kept ≡ true
is-there None e = cc
is-there (Some kept) e = refl

module _ (desk : Desk) where
  -- what an answer does
  abbrev Does : Call → Answer → Type 0
  Does call answer = Kind desk call answer.reply answer.desk

  unless-does : (call : Call) (against : Option Refusal) (a : Answer) → ((refusal : Refusal) → means call (Refused refusal) ≡ false) → (against ≡ None → Does call a) → Does call (unless against desk a)
  unless-does call None a silent next = next refl
  unless-does call (Some refusal) a silent next = leaves_desk call (Refused refusal) (silent refusal)

  -- a deck that may be added has a name of its own, and not too many cards
  may-add : (deck : Deck) → against_add deck desk ≡ None → (deck_named deck.name desk ≡ None) × (length deck.cards ≤ 20000)
  may-add deck clear =
      let none = all-clear (when (is_some (deck_named deck.name desk)) NameTaken ∷ when (nat_le most_decks (length desk.decks)) TooManyDecks ∷ when (nat_lt most_cards (length deck.cards)) DeckFull ∷ against_next desk.version ∷ []) clear in
      (nothing-there (deck_named deck.name desk) none.0, not-full deck.cards none.1.1.0)

  add-does : (who : List ℕ) (deck : Deck) → Does (Make who (AddDeck deck)) (unless (against_add deck desk) desk (accepted (added deck desk)))
  add-does who deck = unless-does _ (against_add deck desk) _ (λ r. refl) (λ clear. let may = may-add deck clear in adds who deck may.0 may.1)

  few-put : (new : Deck) (zero : Bool) → cond zero (against_add new desk) (Some NoDeck) ≡ None → length new.cards ≤ 20000
  few-put new true clear = (may-add new clear).1
  few-put new false clear = cc

  put-does : (who : List ℕ) (new : Deck) (seen : ℕ) (found : Option DeskDeck) → deck_named new.name desk ≡ found → Does (Make who (PutDeck new seen)) (put_where new seen desk found)
  put-does who new seen None none = unless-does _ (against_put seen new desk None) _ (λ r. refl) (λ clear. puts_new who new seen none (few-put new (seen == 0) clear))
  put-does who new seen (Some before) found = unless-does _ (against_put seen new desk (Some before)) _ (λ r. refl)
      (λ clear. puts_over who new seen before found (not-full new.cards (all-clear (against_seen seen before ∷ when (nat_lt most_cards (length new.cards)) DeckFull ∷ against_next desk.version ∷ []) clear).1.0))

  edit-does : (who name : List ℕ) (seen : ℕ) (edits : Edits) (found : Option DeskDeck) → deck_named name desk ≡ found →
      Does (Make who (EditDeck name (Exactly seen) edits)) (unless (option_map (shown (is_alone edits)) (against_edits seen (edits_of edits) desk found)) desk (accepted (edited name who (edits_of edits) desk)))
  edit-does who name seen edits None none = leaves_desk _ _ refl
  edit-does who name seen edits (Some deck) found = unless-does _ (option_map (shown (is_alone edits)) (against_edits seen (edits_of edits) desk (Some deck))) _ (λ r. refl)
      (λ clear.
      let fault : Option Refusal = option_map bad_edit (first_fault (edits_of edits) deck.cards) in
      let none = all-clear (against_seen seen deck ∷ when (not (is_batch (edits_of edits))) BatchSize ∷ fault ∷ against_next desk.version ∷ []) (map-clear (shown (is_alone edits)) (against_edits seen (edits_of edits) desk (Some deck)) clear) in
      edits_deck _ _ name who (edits_of edits) deck found (map-clear bad_edit (first_fault (edits_of edits) deck.cards) none.1.1.0)
      (record { told = refl; asked = refl; adds_none = record { identities = λ n. refl; names = λ i. refl }; leases_none = λ n. refl; effects = λ h d. refl }))

  -- edits that are carried
  module _ (call : Call) (name who : List ℕ) (seen : ℕ) (edits : List Edit) (silent : (refusal : Refusal) → means call (Refused refusal) ≡ false) (is_edit : (version before : ℕ) (made : List Edit) → IsEdit call (Carried version before made) name made) where
    carried-does : (deck : DeskDeck) (moved : Result (List Edit) Touched) → deck_named name desk ≡ Some deck → against_carry seen edits desk deck ≡ None → carried_since seen edits deck ≡ moved → Does call (accept_carried name who desk deck moved)
    carried-does deck (Ok made) found clear is = edits_deck call _ name who made deck found (carry-clear seen edits made desk deck clear is).apply_now (is_edit _ _ made)
    carried-does deck (Err touched) found clear is = leaves_desk call _ (silent _)

    since-does : (single : Bool) (found : Option DeskDeck) → deck_named name desk ≡ found → Does call (edit_since_of single name seen edits who desk found)
    since-does single None none = leaves_desk call _ (silent _)
    since-does single (Some deck) found = unless-does call (option_map (shown single) (against_carry seen edits desk deck)) _ silent
        (λ clear. carried-does deck (carried_since seen edits deck) found (map-clear (shown single) (against_carry seen edits desk deck) clear) refl)

  undo-does : (who name : List ℕ) (version : ℕ) (found : Option DeskDeck) → deck_named name desk ≡ found → Does (Make who (Undo name version)) (undo_where name version who desk found)
  undo-does who name version None none = leaves_desk _ _ refl
  undo-does who name version (Some deck) found = unless-does _ (against_change version deck) _ (λ r. refl)
      (λ clear. since-does (Make who (Undo name version)) name who version (backs_at version deck) (λ r. refl)
      (λ v b made. record { told = refl; asked = refl; adds_none = record { identities = λ n. refl; names = λ i. refl }; leases_none = λ n. refl; effects = λ h d. refl }) false (Some deck) found)

  changes-does : (name : List ℕ) (since : ℕ) (found : Option DeskDeck) → Does (Ask (Changes name since)) (changes_of since desk found)
  changes-does name since None = leaves_desk _ _ refl
  changes-does name since (Some deck) = unless-does _ (against_since since deck) _ (λ r. refl) (λ clear. leaves_desk _ _ refl)

  cards-at-does : (name : List ℕ) (version : ℕ) (found : Option DeskDeck) → Does (Ask (CardsAt name version)) (cards_at_of version desk found)
  cards-at-does name version None = leaves_desk _ _ refl
  cards-at-does name version (Some deck) = unless-does _ (against_since version deck) _ (λ r. refl) (λ clear. leaves_desk _ _ refl)

  cards-does : (name : List ℕ) (found : Option DeskDeck) → Kind desk (Ask (Cards name)) (cards_reply found) desk
  cards-does name None = leaves_desk _ _ refl
  cards-does name (Some deck) = leaves_desk _ _ refl

  show-does : (publication : Option Publication) → Kind desk (Ask Show) (show_reply publication) desk
  show-does None = leaves_desk _ _ refl
  show-does (Some publication) = leaves_desk _ _ refl

  claim-deck-does : (found : Option DeskDeck) → find is_free desk.decks ≡ found → Does (Do Claim) (claim_deck desk found)
  claim-deck-does None none = leaves_desk _ _ refl
  claim-deck-does (Some deck) found = unless-does _ (against_next desk.leases) _ (λ r. refl) (λ left. hands_deck deck found)

  claim-does : Does (Do Claim) (claim desk)
  claim-does =
      cond_both (list_any is_behind desk.decks) _ _ (Does (Do Claim)) (λ behind. claim-deck-does (find is_free desk.decks) refl)
      (λ built. cond_both (is_published desk.version desk.publication) _ _ (Does (Do Claim)) (λ shown. leaves_desk _ _ refl)
      (λ old. cond_both (is_leased_at desk.version desk.link) _ _ (Does (Do Claim)) (λ out. leaves_desk _ _ refl) (λ free. unless-does _ (against_next desk.leases) _ (λ r. refl) (λ left. hands_link))))

  deliver-does : (done : Done) (found : Option DeskDeck) → deck_leased done.lease desk ≡ found → Does (Do (DeliverDeck done)) (deliver_to done desk found)
  deliver-does done None none = leaves_desk _ _ refl
  deliver-does done (Some deck) found =
      let P = Does (Do (DeliverDeck done)) in
      cond_both (not (is_for done deck) || is_none done.kept) _ _ P (λ other. is_foreign done deck found)
      (λ ours.
      let there = is-there done.kept (or_parts (not (is_for done deck)) (is_none done.kept) ours).1 in
      cond_both (not (done.version == deck.version)) _ _ P (λ stale. gives_back done deck found there)
      (λ present. cond_both (not (is_sound done deck)) _ _ P (λ other. is_foreign done deck found) (λ sound. stores done deck found there)))

  link-does : (number : ℕ) (publication : Publication) → Does (Do (DeliverLink number publication)) (deliver_link number publication desk)
  link-does number publication =
      let P = Does (Do (DeliverLink number publication)) in
      cond_both (is_leased number desk.link) _ _ P
      (λ out. cond_both (not (is_leased_at publication.version desk.link)) _ _ P (λ other. ends_link _ _ refl)
      (λ ours. cond_both (not (publication.version == desk.version)) _ _ P (λ old. ends_link _ _ refl)
      (λ present. cond_both (not (same_decks publication.decks (decks_of desk))) _ _ P (λ other. ends_link _ _ refl)
      (λ same. publishes_decks _ _ publication refl refl (eqb-true publication.version desk.version (not-false (publication.version == desk.version) present)) (equal_lists publication.decks (decks_of desk) (not-false (same_decks publication.decks (decks_of desk)) same))))))
      (λ unknown. leaves_desk _ _ refl)

  publish-does : (number : ℕ) → Does (Do (Publish number)) (publish number desk)
  publish-does number =
      let P = Does (Do (Publish number)) in
      cond_both (is_leased number desk.link) _ _ P
      (λ out. cond_both (not (is_leased_at desk.version desk.link)) _ _ P (λ old. ends_link _ _ refl)
      (λ present. cond_both (list_any is_behind desk.decks) _ _ P (λ behind. ends_link _ _ refl) (λ built. publishes_decks _ _ (own_publication desk) refl refl refl refl)))
      (λ unknown. leaves_desk _ _ refl)

  give-up-does : (number : ℕ) (found : Option DeskDeck) → deck_leased number desk ≡ found → Does (Do (GiveUp number)) (give_up_of number desk found)
  give-up-does number None none = cond_both (is_leased number desk.link) _ _ (Does (Do (GiveUp number))) (λ out. gives_link_up number out) (λ unknown. leaves_desk _ _ refl)
  give-up-does number (Some deck) found = gives_deck_up number deck found

  answer-does : (call : Call) → Does call (answer call desk)
  answer-does (Make who (AddDeck deck)) = add-does who deck
  answer-does (Make who (PutDeck deck seen)) = put-does who deck seen (deck_named deck.name desk) refl
  answer-does (Make who (DropDeck name seen)) = unless-does _ (against_drop seen desk (deck_named name desk)) _ (λ r. refl) (λ clear. drops who name seen)
  answer-does (Make who (EditDeck name (Exactly seen) edits)) = edit-does who name seen edits (deck_named name desk) refl
  answer-does (Make who (EditDeck name (Since seen) edits)) = since-does (Make who (EditDeck name (Since seen) edits)) name who seen (edits_of edits) (λ r. refl)
      (λ v b made. record { told = refl; asked = refl; adds_none = record { identities = λ n. refl; names = λ i. refl }; leases_none = λ n. refl; effects = λ h d. refl }) (is_alone edits) (deck_named name desk) refl
  answer-does (Make who (Undo name version)) = undo-does who name version (deck_named name desk) refl
  answer-does (Ask (Changes name since)) = changes-does name since (deck_named name desk)
  answer-does (Ask (CardsAt name version)) = cards-at-does name version (deck_named name desk)
  answer-does (Ask (Cards name)) = cards-does name (deck_named name desk)
  answer-does (Ask Show) = show-does desk.publication
  answer-does (Ask Status) = leaves_desk _ _ refl
  answer-does (Do Claim) = claim-does
  answer-does (Do (DeliverDeck done)) = deliver-does done (deck_leased done.lease desk) refl
  answer-does (Do (DeliverLink number publication)) = link-does number publication
  answer-does (Do (Publish number)) = publish-does number
  answer-does (Do (GiveUp number)) = give-up-does number (deck_leased number desk) refl

  -- want of memory
  starved-does : (call : Call) → Kind desk call (Refused OutOfMemory) (starved call desk)
  starved-does (Do (Publish number)) = ends_link _ _ refl
  starved-does _ = leaves_desk _ _ refl

-- the kind of each step
pub step-kind : (desk : Desk) (call : Call) (reply : Reply) (next : Desk) → Steps desk call reply next → Kind desk call reply next
step-kind desk call reply next (inl gave) = rw (gave.0, gave.1) (answer-does desk call)
step-kind desk call reply next (inr left) = rw (left.1, left.2) (starved-does desk call)
