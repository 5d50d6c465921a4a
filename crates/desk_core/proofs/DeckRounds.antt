-- A round at a desk without leases where a deck is behind: the deck is built, or loses a record of other cards.
use Rattle.std.{proofs.Common.{◌≡◌, inl, inr, ℕ, ◌+◌, ◌==◌, ◌<◌, ◌≤◌, Bool, true, false, cond, not, ◌&&◌, List, length, find, is_none, Option, Some, None, refl, sym, ap, ◌∙◌, subst, arith, eq-eqb}, specs.Prelude.slice_get, specs.List.list_any, proofs.lemmas.Bool.{cases_Bool, cond_both, cond-true, cond-false, and_from, and_parts, not-true, le-ltb}, proofs.lemmas.Option.slice_get_within}
use Rattle.desk_core.{specs.Joins.Language.Deck, specs.Joins.Causes.when, specs.Joins.Edits.{edited_by, first_fault}, specs.Desks.{Desk, DeskDeck, Kept, deck_of, greatest_number}, specs.Joins.Calls.{DeliverDeck, GiveUp, Call, Do, DeckWork, Reply, Stored, Refused, Refusal, Foreign, VersionsSpent}, specs.Answers.{Answer, answers, unless, against_next}, specs.Claiming.{claim, claim_deck, claim_link, hand_out, is_behind, is_free, given, deck_work, start_of, edits_for}, specs.Delivering.{same_deck, lost, stored, is_for}, specs.Joins.Delivered.{foreign_at, result_at}, specs.Steps.answer, specs.Making.{start_deck, start_cards, done_of}, specs.Rounds.{end_of_deck, after_job, after_round}, specs.Joins.OwnNames.{HaveOwnNames, IsPlaceOf, has_lease, changed_at}, specs.Progress.is_given, specs.Joins.Turns.IsAnswer, proofs.Same.same_deck-itself, proofs.PlaceLaws.{named-with, own-with, each}, proofs.TellingDecks.found_told, proofs.Progress.found, proofs.RoundsLeft.{rounds_with, rounds_of, rounds_left, some_of, place_found, get-with, with-twice, rounds-with, ungiven-with, found-leased}}
use Rattle.desk_core.proofs.DeliverDone as deliver_done

-- no lease is out, and each deck has a name of its own
pub record IsResting (desk : Desk) : Type 0 where
  pub own : HaveOwnNames desk.decks
  pub ungiven : list_any is_given desk.decks ≡ false
  pub unlinked : desk.link ≡ None

-- a round after which fewer are left
pub record Goes (desk next : Desk) : Type 0 where
  pub resting : IsResting next
  pub version : next.version ≡ desk.version
  pub leases : next.leases ≤ desk.leases + 1
  pub fewer : rounds_left next + 1 ≤ rounds_left desk

-- there is a number for one lease more
pub none_against : (number : ℕ) → number + 1 ≤ greatest_number → against_next number ≡ None
none_against number room = ap (λ b. when b VersionsSpent) (le-ltb greatest_number (number + 1) room)

two_with : (built : Bool) (kept : Option Kept) → built ≡ false → (kept ≡ None → ⊥) → rounds_with built kept ≡ 2
two_with true kept unbuilt held = cc
two_with false None unbuilt held = absurd (held refl)
two_with false (Some kept) unbuilt held = refl

one_lost : (built : Bool) → built ≡ false → rounds_with built None ≡ 1
one_lost true unbuilt = cc
one_lost false unbuilt = refl

module _ (desk : Desk) (resting : IsResting desk) (place : ℕ) (deck : DeskDeck) (at_place : slice_get desk.decks place ≡ Some deck) (unbuilt : deck.built ≡ false) where
  -- the lease that is given
  abbrev number : ℕ
  number = desk.leases + 1

  -- the desk whose deck at the place is out
  abbrev out : Desk
  out = changed_at place (given number) (record desk { leases = number })

  -- a form at the place, by which the lease ends and fewer rounds are left
  went : (form : DeskDeck → DeskDeck) (next : Desk) → ((d : DeskDeck) → (form d).name ≡ d.name) → ((d : DeskDeck) → is_given (form d) ≡ false) → rounds_of (form (given number deck)) + 1 ≤ rounds_of deck →
      changed_at place form out ≡ next → Goes desk next
  went form next names free fewer is =
      let both : DeskDeck → DeskDeck = λ (d : DeskDeck). form (given number d) in
      let base : Desk = record desk { leases = number } in
      let same : changed_at place form out ≡ changed_at place both base = ap (λ (decks : List DeskDeck). record base { decks = decks }) (with-twice (given number) form desk.decks place) in
      let counted = rounds-with both desk.decks place deck at_place in
      subst (λ (d : Desk). Goes desk d) (sym same ∙ is)
      (record {
        resting = record {
          own = own-with both desk.decks place (λ d. names (given number d)) resting.own;
          ungiven = ungiven-with both desk.decks place (λ d. free (given number d)) resting.ungiven;
          unlinked = resting.unlinked;
        };
        version = refl;
        leases = omega arith;
        fewer = omega arith;
      })

  there : slice_get out.decks place ≡ Some (given number deck)
  there = get-with (given number) desk.decks place deck at_place

  found_there : find (has_lease number) out.decks ≡ slice_get out.decks place
  found_there = found-leased number (given number) desk.decks place deck (λ d. eq-eqb number number refl) resting.ungiven at_place ∙ sym there

  is_place : IsPlaceOf (has_lease number) (Some place) out.decks
  is_place = record {
    own = own-with (given number) desk.decks place (λ d. refl) resting.own;
    none = λ e. cc;
    some = λ p e.
        let same : place ≡ p = cc in
        subst (λ (q : ℕ). (find (has_lease number) out.decks ≡ slice_get out.decks q) × (q < length out.decks)) same (found_there, slice_get_within out.decks place (given number deck) there);
  }

  -- the record is lost: it was there
  went_lost : (next : Desk) → (deck.kept ≡ None → ⊥) → changed_at place lost out ≡ next → Goes desk next
  went_lost next held is =
      let two = two_with deck.built deck.kept unbuilt held in
      let one = one_lost deck.built unbuilt in
      went lost next (λ d. refl) (λ d. refl) (omega arith) is

  -- the object is stored
  went_stored : (kept : Kept) (next : Desk) → changed_at place (stored (Some kept)) out ≡ next → Goes desk next
  went_stored kept next is =
      let some = some_of deck unbuilt in
      went (stored (Some kept)) next (λ d. refl) (λ d. refl) (omega arith) is

  -- what the job makes, by the record that it begins with
  abbrev made_from : Option Kept → Deck
  made_from kept = record { name = (start_deck deck.name (start_of deck kept)).name; cards = edited_by (edits_for deck kept) (start_deck deck.name (start_of deck kept)).cards }

  -- whether that is the deck
  abbrev sound_from : Option Kept → Bool
  sound_from kept = same_deck (made_from kept) (deck_of deck) && same_deck (made_from kept) (deck_of deck)

  -- whether its edits apply
  abbrev apply_from : Option Kept → Bool
  apply_from kept = is_none (first_fault (edits_for deck kept) (start_cards (start_of deck kept)))

  -- from the cards it is the deck, and there are no edits
  sound_from_cards : sound_from None ≡ true
  sound_from_cards = let same = same_deck-itself (deck_of deck) in and_from (same_deck (made_from None) (deck_of deck)) (same_deck (made_from None) (deck_of deck)) same same

  unsound_held : (kept : Option Kept) → sound_from kept ≡ false → kept ≡ None → ⊥
  unsound_held None unsound none = let sound = sound_from_cards in cc
  unsound_held (Some kept) unsound none = cc

  faulty_held : (kept : Option Kept) → apply_from kept ≡ false → kept ≡ None → ⊥
  faulty_held None faulty none = cc
  faulty_held (Some kept) faulty none = cc

  abbrev work : DeckWork
  work = deck_work number deck

  abbrev made : Kept
  made = record { deck = made_from deck.kept }

  -- the result is for the deck, at its version
  result_is : result_at place (done_of work) out (given number deck) ≡ cond (not (sound_from deck.kept)) (foreign_at place out) (answers Stored (changed_at place (stored (Some made)) out))
  result_is =
      let for_deck : is_for (done_of work) (given number deck) ≡ true = and_from (deck.identity == deck.identity) (deck.version == deck.version) (eq-eqb deck.identity deck.identity refl) (eq-eqb deck.version deck.version refl) in
      let present : (deck.version == deck.version) ≡ true = eq-eqb deck.version deck.version refl in
      cond-false (not (is_for (done_of work) (given number deck))) _ _ (ap not for_deck) ∙ cond-false (not (deck.version == deck.version)) _ _ (ap not present)

  -- it is delivered
  delivered : (reply : Reply) (next : Desk) → IsAnswer (result_at place (done_of work) out (given number deck)) reply next → next ≡ (answer (Do (DeliverDeck (done_of work))) out).desk
  delivered reply next is =
      (deliver_done.delivered number out place is_place (done_of work) reply next refl (λ d at.
      let same : given number deck ≡ d = let e : Some (given number deck) ≡ Some d = sym there ∙ at in cc in
      subst (λ (one : DeskDeck). IsAnswer (result_at place (done_of work) out one) reply next) same is)).1

  goes_delivered : Goes desk (answer (Do (DeliverDeck (done_of work))) out).desk
  goes_delivered = elim (cases_Bool (sound_from deck.kept)) [
    | inl sound ↦ (
        let here = result_is ∙ cond-false (not (sound_from deck.kept)) _ _ (ap not sound) in
        went_stored made _ (delivered Stored (changed_at place (stored (Some made)) out) (ap (λ (a : Answer). a.reply) (sym here), ap (λ (a : Answer). a.desk) (sym here))))
    | inr unsound ↦ (
        let here = result_is ∙ cond-true (not (sound_from deck.kept)) _ _ (ap not unsound) in
        went_lost _ (unsound_held deck.kept unsound) (delivered (Refused Foreign) (changed_at place lost out) (ap (λ (a : Answer). a.reply) (sym here), ap (λ (a : Answer). a.desk) (sym here))))
  ]

  -- the job ends
  goes_ended : Goes desk (answer (end_of_deck work) out).desk
  goes_ended =
      cond_both (apply_from deck.kept) (Do (DeliverDeck (done_of work))) (Do (GiveUp number)) (λ (call : Call). Goes desk (answer call out).desk) (λ applies. goes_delivered)
      (λ faulty. went_lost _ (faulty_held deck.kept faulty) (deliver_done.given-up number out place is_place).1)

-- a claim where a deck is behind
claimed : (desk : Desk) (deck : DeskDeck) → list_any is_behind desk.decks ≡ true → find is_free desk.decks ≡ Some deck → desk.leases + 1 ≤ greatest_number → claim desk ≡ hand_out deck desk
claimed desk deck behind free room =
    cond-true (list_any is_behind desk.decks) (claim_deck desk (find is_free desk.decks)) (claim_link desk) behind
    ∙ ap (claim_deck desk) free
    ∙ ap (λ (against : Option Refusal). unless against desk (hand_out deck desk)) (none_against desk.leases room)

-- the round
pub deck_round : (desk : Desk) → IsResting desk → list_any is_behind desk.decks ≡ true → desk.leases + 1 ≤ greatest_number → Goes desk (after_round desk)
deck_round desk resting behind room =
    let one = found desk.decks behind resting.ungiven in
    let deck = one.0 in
    let spot = place_found is_free desk.decks deck one.1 in
    let free = (found_told (λ d. Unit {0}) is_free desk.decks deck (each desk.decks) one.1).1 in
    let unbuilt = not-true deck.built (and_parts (is_behind deck) (is_none deck.lease) free).0 in
    let n = desk.leases + 1 in
    let base : Desk = record desk { leases = n } in
    let placed : (hand_out deck desk).desk ≡ changed_at spot.0 (given n) base = ap (λ (decks : List DeskDeck). record base { decks = decks }) (named-with (given n) desk.decks spot.0 deck resting.own spot.1) in
    let ended = goes_ended desk resting spot.0 deck spot.1 unbuilt in
    subst (λ (a : Answer). Goes desk (after_job a.reply a.desk)) (sym (claimed desk deck behind one.1 room))
    (subst (λ (d : Desk). Goes desk (answer (end_of_deck (deck_work n deck)) d).desk) (sym placed) ended)
