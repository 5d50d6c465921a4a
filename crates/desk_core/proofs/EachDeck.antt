-- What holds of each deck after each step: a property of its name, cards and past that the changes of a desk keep.
use Rattle.std.{proofs.Common.{◌≡◌, ℕ, ◌+◌, ◌≤◌, Bool, true, false, cond, not, List, [], ◌∷◌, length, map, find, Some, None, refl, sym, ap, ◌∙◌, subst}, specs.List.AllByRecursion}
use Rattle.turn_office.specs.Histories.{Leads}
use Rattle.desk_core.{specs.Joins.Language.{Card, Deck}, specs.Joins.Edits.{Edit, first_fault, edited_by}, specs.Past.{Past, begun_at, past_after}, specs.Desks.{Desk, DeskDeck, new_desk_at, is_named, deck_named, put_if_named}, specs.Joins.Calls.{Call, Reply}, specs.Changing.{added_deck, added, replaced_deck, edited_deck, edited}, specs.Claiming.given, specs.Delivering.{lost, given_back, stored}, specs.Joins.OwnNames.HaveOwnNames, specs.Steps.Steps, specs.Runs.{History, Runs}, proofs.OwnAlways.own-kind, proofs.Same.equal_texts, proofs.StepKinds.{Kind, hands_deck, gives_deck_up, is_foreign, gives_back, stores, adds, puts_new, puts_over, drops, edits_deck, step-kind}, proofs.TellingDecks.{none_found, all_next, all_weaker, all_filtered, all_added, all_put}}

named-head : (name : List ℕ) (d : DeskDeck) (decks : List DeskDeck) (named : Bool) → is_named name d ≡ named → find (is_named d.name) decks ≡ None →
    AllByRecursion (λ (x : DeskDeck). is_named name x ≡ true → find (is_named name) decks ≡ Some x) decks →
    AllByRecursion (λ (x : DeskDeck). is_named name x ≡ true → cond named (Some d) (find (is_named name) decks) ≡ Some x) (d ∷ decks)
named-head name d decks true is none later =
    let names : name ≡ d.name = equal_texts name d.name is in (
      λ named. refl,
      all_weaker (λ (x : DeskDeck). is_named d.name x ≡ false) (λ (x : DeskDeck). is_named name x ≡ true → Some d ≡ Some x)
          (λ x differs named. absurd (let told : is_named name x ≡ false = ap (λ (n : List ℕ). is_named n x) names ∙ differs in let e : true ≡ false = sym named ∙ told in cc)) decks (none_found (is_named d.name) decks none),
    )
named-head name d decks false is none later = (λ named. absurd (let e : true ≡ false = sym named ∙ is in cc), later)

-- of decks with names of their own, one of a name is the one that is found
pub named-found : (name : List ℕ) (decks : List DeskDeck) → HaveOwnNames decks → AllByRecursion (λ (x : DeskDeck). is_named name x ≡ true → find (is_named name) decks ≡ Some x) decks
named-found name [] own = tt
named-found name (d ∷ decks) own = named-head name d decks (is_named name d) refl own.0 (named-found name decks own.1)

-- what is stated of a deck at a version of its desk
abbrev pub OfDeck : (ℕ → List ℕ → List Card → Past → Type 0) → ℕ → DeskDeck → Type 0
OfDeck R version deck = R version deck.name deck.cards deck.past

-- what the changes at a version keep: it holds of a deck that begins, of one with edits that apply, and of the others one version on
pub record IsKept (R : ℕ → List ℕ → List Card → Past → Type 0) (version : ℕ) : Type 0 where
  pub begins : (name : List ℕ) (cards : List Card) → length cards ≤ 20000 → R (version + 1) name cards (begun_at (version + 1))
  pub edits : (name by : List ℕ) (made : List Edit) (cards : List Card) (past : Past) → R version name cards past → first_fault made cards ≡ None →
      R (version + 1) name (edited_by made cards) (past_after (version + 1) by made cards past)
  pub later : (name : List ℕ) (cards : List Card) (past : Past) → R version name cards past → R (version + 1) name cards past

module _ (R : ℕ → List ℕ → List Card → Past → Type 0) (desk : Desk) (keeps : IsKept R desk.version) (own : HaveOwnNames desk.decks) (all : AllByRecursion (OfDeck R desk.version) desk.decks) where
  abbrev Told : Desk → Type 0
  Told next = AllByRecursion (OfDeck R next.version) next.decks

  -- the decks that are as they were, at the next version
  all-later : AllByRecursion (OfDeck R (desk.version + 1)) desk.decks
  all-later = all_weaker (OfDeck R desk.version) (OfDeck R (desk.version + 1)) (λ d so. keeps.later d.name d.cards d.past so) desk.decks all

  told-added : (deck : Deck) → length deck.cards ≤ 20000 → Told (added deck desk)
  told-added deck few = all_added (OfDeck R (desk.version + 1)) desk.decks (added_deck (desk.version + 1) deck) all-later (keeps.begins deck.name deck.cards few)

  told-edited : (name who : List ℕ) (edits : List Edit) (deck : DeskDeck) → deck_named name desk ≡ Some deck → first_fault edits deck.cards ≡ None → Told (edited name who edits desk)
  told-edited name who edits deck found none =
      let Found : DeskDeck → Type 0 = λ d. is_named name d ≡ true → find (is_named name) desk.decks ≡ Some d in
      all_put (λ (d : DeskDeck). OfDeck R desk.version d × Found d) (OfDeck R (desk.version + 1)) name (edited_deck (desk.version + 1) who edits)
      (λ d both named.
      let same : deck ≡ d = let e : Some deck ≡ Some d = sym found ∙ both.1 named in cc in
      keeps.edits d.name who edits d.cards d.past both.0 (subst (λ (x : DeskDeck). first_fault edits x.cards ≡ None) same none))
      (λ d both other. keeps.later d.name d.cards d.past both.0)
      desk.decks (all_next (OfDeck R desk.version) Found (λ (d : DeskDeck). OfDeck R desk.version d × Found d) (λ d so is. (so, is)) desk.decks all (named-found name desk.decks own))

  -- a form under the same name, with the same cards and past
  told-form : (name : List ℕ) (form : DeskDeck → DeskDeck) → ((d : DeskDeck) → OfDeck R desk.version d → OfDeck R desk.version (form d)) → AllByRecursion (OfDeck R desk.version) (map (put_if_named name form) desk.decks)
  told-form name form same = all_put (OfDeck R desk.version) (OfDeck R desk.version) name form (λ d so named. same d so) (λ d so other. so) desk.decks all

  -- after each kind of step
  pub told-kind : (call : Call) (reply : Reply) (next : Desk) → Kind desk call reply next → Told next
  told-kind call reply next (hands_deck deck free) = told-form deck.name (given (desk.leases + 1)) (λ d so. so)
  told-kind call reply next (gives_deck_up number deck out) = told-form deck.name lost (λ d so. so)
  told-kind call reply next (is_foreign done deck out) = told-form deck.name lost (λ d so. so)
  told-kind call reply next (gives_back done deck out there) = told-form deck.name (given_back done.kept) (λ d so. so)
  told-kind call reply next (stores done deck out there) = told-form deck.name (stored done.kept) (λ d so. so)
  told-kind call reply next (adds who deck none few) = told-added deck few
  told-kind call reply next (puts_new who deck seen none few) = told-added deck few
  told-kind call reply next (puts_over who deck seen before found few) =
      all_put (OfDeck R desk.version) (OfDeck R (desk.version + 1)) deck.name (replaced_deck (desk.version + 1) deck.cards) (λ d so named. keeps.begins d.name deck.cards few) (λ d so other. keeps.later d.name d.cards d.past so) desk.decks all
  told-kind call reply next (drops who name seen) = all_filtered (OfDeck R (desk.version + 1)) (λ deck. not (is_named name deck)) desk.decks all-later
  told-kind call reply next (edits_deck c r name who edits deck found applied is) = told-edited name who edits deck found applied
  told-kind call reply next _ = all

-- decks with names of their own, of each of which it holds
pub record AllSo (R : ℕ → List ℕ → List Card → Past → Type 0) (desk : Desk) : Type 0 where
  pub own : HaveOwnNames desk.decks
  pub all : AllByRecursion (OfDeck R desk.version) desk.decks

-- after each step
pub so-next : (R : ℕ → List ℕ → List Card → Past → Type 0) (desk : Desk) (call : Call) (reply : Reply) (next : Desk) → Steps desk call reply next → IsKept R desk.version → AllSo R desk → AllSo R next
so-next R desk call reply next step keeps so =
    let kind = step-kind desk call reply next step in
    record { own = own-kind desk call reply next kind so.own; all = told-kind R desk keeps so.own so.all call reply next kind }

-- what the changes at each version keep holds on each desk that is reached
pub so-through : (R : ℕ → List ℕ → List Card → Past → Type 0) (desk last : Desk) (history : History) → ((version : ℕ) → IsKept R version) → Leads Steps desk history last → AllSo R desk → AllSo R last
so-through R desk last [] keeps leads so = subst (AllSo R) leads so
so-through R desk last (entry ∷ more) keeps leads so = so-through R leads.0 last more keeps leads.2 (so-next R desk entry.call entry.reply leads.0 leads.1 (keeps desk.version) so)

-- the decks of each desk that is reached have names of their own
pub own-last : (begun : ℕ) (history : History) (desk : Desk) → Runs begun history desk → HaveOwnNames desk.decks
own-last begun history desk runs =
    let any : (version : ℕ) → IsKept (λ version name cards past. Unit {0}) version = λ version. record { begins = λ name cards few. tt; edits = λ name by made cards past so none. tt; later = λ name cards past so. tt } in
    (so-through (λ version name cards past. Unit {0}) (new_desk_at begun) desk history any runs (record { own = tt; all = tt })).own
