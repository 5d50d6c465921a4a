-- Results for the deck at the place where its lease was found.
use Rattle.std.{proofs.Common.{◌≡◌, ℕ, ◌==◌, not, ◌&&◌, ◌||◌, is_none, Bool, true, false, cond, List, length, Option, Some, None, find, refl, sym, ap, ◌∙◌, subst, inl, inr, eq-eqb, map}, specs.Prelude.slice_get, proofs.lemmas.Bool.cases_Bool, proofs.lemmas.List.length-map}
use Rattle.desk_core.{specs.Joins.Language.{Card, Deck}, specs.Desks.{Desk, DeskDeck, Kept, deck_of, with_deck}, specs.Joins.Calls.{Reply, Refused, Foreign, Stale, Stored, Cleared, Done}, specs.Answers.{Answer, answers}, specs.Joins.Delivered.{foreign_at, kept_at, result_at}, specs.Delivering.{same_cards, same_decks, same_deck, is_record_of, lost, given_back, stored, is_for, take_result, deliver_to, deliver_deck, give_up_of, give_up}, specs.Joins.OwnNames.{IsPlaceOf, has_lease, changed_at}, specs.Joins.Turns.IsAnswer, proofs.PlaceLaws.{element-at, named-with}, proofs.Same.{equal_cards, equal_lists}}

-- lists of other lengths are not the same
pub other-cards : (a b : List Card) → (length a == length b) ≡ false → same_cards a b ≡ false
other-cards a b differ = elim (cases_Bool (same_cards a b)) [
  | inl same ↦ absurd (let e : length a ≡ length b = ap (λ (cards : List Card). length cards) (equal_cards a b same) in let told = eq-eqb (length a) (length b) e in cc)
  | inr other ↦ other
]

pub other-decks : (a : List Deck) (b : List DeskDeck) → (length a == length b) ≡ false → same_decks a (map deck_of b) ≡ false
other-decks a b differ = elim (cases_Bool (same_decks a (map deck_of b))) [
  | inl same ↦ absurd (let e : length a ≡ length b = ap (λ (decks : List Deck). length decks) (equal_lists a (map deck_of b) same) ∙ length-map b deck_of in let told = eq-eqb (length a) (length b) e in cc)
  | inr other ↦ other
]

module _ (lease : ℕ) (desk : Desk) (place : ℕ) (is : IsPlaceOf (has_lease lease) (Some place) desk.decks) where
  -- the deck whose lease it is
  leased : (deck : DeskDeck) × (slice_get desk.decks place ≡ Some deck)
  leased = element-at desk.decks place (is.some place refl).1

  leased-with : (form : DeskDeck → DeskDeck) → changed_at place form desk ≡ with_deck leased.0.name form desk
  leased-with form = ap (λ (decks : List DeskDeck). record desk { decks = decks }) (sym (named-with form desk.decks place leased.0 is.own leased.1))

  -- a lease given up
  pub given-up : IsAnswer (give_up lease desk) Cleared (changed_at place lost desk)
  given-up = subst (λ (found : Option DeskDeck). IsAnswer (give_up_of lease desk found) Cleared (changed_at place lost desk)) (sym ((is.some place refl).0 ∙ leased.1)) (refl, leased-with lost)

  -- three ways on, each with its desk
  three : (one two : Bool) (first second third : Reply) (a b c d e f : Desk) → d ≡ a → e ≡ b → f ≡ c →
      cond one (answers first a) (cond two (answers second b) (answers third c)) ≡ cond one (answers first d) (cond two (answers second e) (answers third f))
  three one two first second third a b c d e f p q r = cc

  -- a result, by whether it is for the deck and what its record is
  by-kept : (for_deck : Bool) (kept : Option Kept) (version : ℕ) (object : Deck) →
      cond (not for_deck || is_none kept) (answers (Refused Foreign) (with_deck leased.0.name lost desk))
      (cond (not (version == leased.0.version)) (answers (Refused (Stale leased.0.version)) (with_deck leased.0.name (given_back kept) desk))
      (cond (not (is_record_of (deck_of leased.0) kept && same_deck object (deck_of leased.0))) (answers (Refused Foreign) (with_deck leased.0.name lost desk))
      (answers Stored (with_deck leased.0.name (stored kept) desk))))
      ≡ cond (not for_deck) (foreign_at place desk) (kept_at place version kept object desk leased.0)
  by-kept false kept version object = ap (answers (Refused Foreign)) (sym (leased-with lost))
  by-kept true None version object = ap (answers (Refused Foreign)) (sym (leased-with lost))
  by-kept true (Some kept) version object =
      three (not (version == leased.0.version)) (not (same_deck kept.deck (deck_of leased.0) && same_deck object (deck_of leased.0))) (Refused (Stale leased.0.version)) (Refused Foreign) Stored _ _ _ _ _ _
      (leased-with (given_back (Some kept))) (leased-with lost) (leased-with (stored (Some kept)))

  -- a result that is taken
  taken : (done : Done) → take_result done desk leased.0 ≡ result_at place done desk leased.0
  taken done = by-kept (is_for done leased.0) done.kept done.version done.object

  pub delivered : (done : Done) (reply : Reply) (next : Desk) → done.lease ≡ lease → ((deck : DeskDeck) → slice_get desk.decks place ≡ Some deck → IsAnswer (result_at place done desk deck) reply next) →
      IsAnswer (deliver_deck done desk) reply next
  delivered done reply next of_lease at_place =
      let found : find (has_lease done.lease) desk.decks ≡ Some leased.0 = ap (λ (number : ℕ). find (has_lease number) desk.decks) of_lease ∙ (is.some place refl).0 ∙ leased.1 in
      subst (λ (one : Option DeskDeck). IsAnswer (deliver_to done desk one) reply next) (sym found)
      (subst (λ (a : Answer). IsAnswer a reply next) (sym (taken done)) (at_place leased.0 leased.1))
