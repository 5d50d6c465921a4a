-- Changes made at the place where a deck was found.
use Rattle.std.{proofs.Common.{◌≡◌, ℕ, ◌+◌, ◌==◌, Bool, true, false, cond, List, remove, inl, Option, Some, None, option_map, refl, sym, ap, ◌∙◌, subst, eq-eqb, ne_eqb}, specs.Prelude.slice_get}
use Rattle.desk_core.{specs.Joins.Language.Deck, specs.Joins.Edits.Edit, specs.Desks.{Desk, DeskDeck, is_named, deck_named}, specs.Joins.Calls.{Reply, Changed, Refused, Refusal, NoDeck}, specs.Answers.{Answer, unless}, specs.Changing.{accepted, against_add, added, add_deck, against_put, replaced_deck, put, put_where, put_deck, against_drop, dropped, drop_deck, edited_deck, edited, against_edits, shown, edit_deck}, specs.Joins.OwnNames.{IsPlaceOf, changed_at}, specs.Joins.Turns.{IsAnswer, MayAnswer}, proofs.AnswerLaws.{done, told}, proofs.PlaceLaws.{element-at, found-with, found-removed}}

-- a desk with other decks, one version on
abbrev pub next_with : Desk → List DeskDeck → Desk
next_with desk decks = record desk { version = desk.version + 1; decks = decks }

-- a drop
pub drop-done : (name : List ℕ) (seen : ℕ) (desk : Desk) (place : ℕ) → IsPlaceOf (is_named name) (Some place) desk.decks → against_drop seen desk (slice_get desk.decks place) ≡ None →
    IsAnswer (drop_deck name seen desk) (Changed (desk.version + 1)) (next_with desk (remove desk.decks place))
drop-done name seen desk place is clear =
    let both = is.some place refl in
    let there = element-at desk.decks place both.1 in
    let same = found-removed name desk.decks place there.0 is.own (both.0 ∙ there.1) there.1 in
    done _ desk (accepted (dropped name desk)) _ _ (ap (against_drop seen desk) both.0 ∙ clear) (refl, ap (next_with desk) (sym same))

-- the decks with edits
pub edited-same : (name who : List ℕ) (edits : List Edit) (desk : Desk) (place : ℕ) → IsPlaceOf (is_named name) (Some place) desk.decks →
    edited name who edits desk ≡ changed_at place (edited_deck (desk.version + 1) who edits) (next_with desk desk.decks)
edited-same name who edits desk place is =
    let both = is.some place refl in
    let there = element-at desk.decks place both.1 in
    ap (next_with desk) (found-with name (edited_deck (desk.version + 1) who edits) desk.decks place there.0 is.own (both.0 ∙ there.1) there.1)

-- edits
module _ (single : Bool) (name : List ℕ) (seen : ℕ) (edits : List Edit) (who : List ℕ) (desk : Desk) (place : ℕ) (is : IsPlaceOf (is_named name) (Some place) desk.decks) where
  against-there : (cause : Option Refusal) → against_edits seen edits desk (slice_get desk.decks place) ≡ cause → option_map (shown single) (against_edits seen edits desk (deck_named name desk)) ≡ option_map (shown single) cause
  against-there cause e = ap (λ (d : Option DeskDeck). option_map (shown single) (against_edits seen edits desk d)) (is.some place refl).0 ∙ ap (option_map (shown single)) e

  pub edit-refused : (refusal : Refusal) → against_edits seen edits desk (slice_get desk.decks place) ≡ Some refusal → MayAnswer desk (edit_deck single name seen edits who desk) (Refused (shown single refusal)) desk
  edit-refused refusal e = inl (told _ (shown single refusal) desk _ (against-there (Some refusal) e))

  pub edit-done : against_edits seen edits desk (slice_get desk.decks place) ≡ None →
      IsAnswer (edit_deck single name seen edits who desk) (Changed (desk.version + 1)) (changed_at place (edited_deck (desk.version + 1) who edits) (next_with desk desk.decks))
  edit-done e = done _ desk (accepted (edited name who edits desk)) _ _ (against-there None e) (refl, sym (edited-same name who edits desk place is))

-- what is put where no deck has the name: one more where none was seen
module _ (new : Deck) (seen : ℕ) (desk : Desk) (none : deck_named new.name desk ≡ None) where
  put-where : (zero : Bool) → (seen == 0) ≡ zero → put_deck new seen desk ≡ unless (cond zero (against_add new desk) (Some NoDeck)) desk (accepted (added new desk))
  put-where zero is = ap (put_where new seen desk) none ∙ ap (λ b. unless (cond b (against_add new desk) (Some NoDeck)) desk (accepted (added new desk))) is

  pub put-new : (reply : Reply) (next : Desk) → seen ≡ 0 → MayAnswer desk (add_deck new desk) reply next → MayAnswer desk (put_deck new seen desk) reply next
  put-new reply next is may = subst (λ (a : Answer). MayAnswer desk a reply next) (sym (put-where true (eq-eqb seen 0 is))) may

  pub put-gone : (seen ≡ 0 → ⊥) → MayAnswer desk (put_deck new seen desk) (Refused NoDeck) desk
  put-gone is = subst (λ (a : Answer). MayAnswer desk a (Refused NoDeck) desk) (sym (put-where false (ne_eqb seen 0 is))) (inl (refl, refl))

-- what is put in the place of the deck of its name
module _ (new : Deck) (seen : ℕ) (desk : Desk) (place : ℕ) (is : IsPlaceOf (is_named new.name) (Some place) desk.decks) where
  there : (deck : DeskDeck) × (slice_get desk.decks place ≡ Some deck)
  there = element-at desk.decks place (is.some place refl).1

  over : put_deck new seen desk ≡ put_where new seen desk (Some there.0)
  over = ap (put_where new seen desk) ((is.some place refl).0 ∙ there.1)

  pub put-done : against_put seen new desk (slice_get desk.decks place) ≡ None →
      IsAnswer (put_deck new seen desk) (Changed (desk.version + 1)) (changed_at place (replaced_deck (desk.version + 1) new.cards) (next_with desk desk.decks))
  put-done clear =
      let next = changed_at place (replaced_deck (desk.version + 1) new.cards) (next_with desk desk.decks) in
      let same = found-with new.name (replaced_deck (desk.version + 1) new.cards) desk.decks place there.0 is.own ((is.some place refl).0 ∙ there.1) there.1 in
      subst (λ (a : Answer). IsAnswer a (Changed (desk.version + 1)) next) (sym over)
      (done _ desk (accepted (put new desk (Some there.0))) _ _ (ap (against_put seen new desk) (sym there.1) ∙ clear) (refl, ap (next_with desk) (sym same)))
