-- What is kept of a deck brings back the cards that it had at each version, and what is stated of it is that, in every run.
use Rattle.std.proofs.{Common.{◌≡◌, ℕ, ◌+◌, ◌-◌, ◌≤◌, nat_lt, Bool, true, false, cond, List, [], ◌∷◌, ◌++◌, length, take, map, find, inl, inr, Option, Some, None, refl, sym, ap, ap₂, ◌∙◌, subst, arith}, lemmas.Bool.ltb-false, lemmas.Bool.Decides.leb_tells, lemmas.List.{take_all, take-append-le}, Math.Seq.take-length}
use Rattle.turn_office.specs.Histories.{Leads}
use Rattle.desk_core.{specs.Joins.Language.{Card, Deck, same_text}, specs.Joins.Causes.when, specs.Joins.Edits.{Edit, edited_by}, specs.Changes.{Change, decks_after}, specs.Past.{Past, KeptEdit, behind, backs_of}, specs.Led.HaveLed, specs.Desks.{Desk, DeskDeck, new_desk_at, deck_of, decks_of, is_named, deck_named}, specs.Joins.Calls.{Changes, CardsAt, Call, Ask, Reply, ChangesAre, CardsBefore, Refused, OutOfMemory, NoDeck, OldVersion, Forgotten}, specs.Answers.Answer, specs.Earlier.{against_since, edits_behind, changes_of, cards_at_of}, specs.Carrying.cards_of, specs.Steps.Steps, specs.Runs.{History, LedSince, Runs, changes_in, decks_at, cards_named}, proofs.AnswerLaws.{unrefused, no-reason, all-clear}, proofs.Outcomes.{Outcome, by_staying, by_changing, by_publishing}, proofs.Publishing.step_comes, proofs.Told.{IsTold, told_first}, proofs.EveryRun.{next_told, told_last}, proofs.TellingDecks.{found_told, all_next}, proofs.EachDeck.{OfDeck, IsKept, AllSo, so-next, named-found}, proofs.PastRises.{none-behind, since-after, cards-after}, proofs.PastAlways.{HasPast, past-kept, led_there}}

-- the cards of a deck that is found among the desk's
cards-head : (name : List ℕ) (d deck : DeskDeck) (decks : List DeskDeck) (named : Bool) → cond named (Some d) (find (is_named name) decks) ≡ Some deck →
    (find (is_named name) decks ≡ Some deck → cards_named name (map deck_of decks) ≡ Some deck.cards) → cond named (Some d.cards) (cards_named name (map deck_of decks)) ≡ Some deck.cards
cards-head name d deck decks true found later = let same : d ≡ deck = cc in ap (λ (x : DeskDeck). Some x.cards) same
cards-head name d deck decks false found later = later found

cards-found : (name : List ℕ) (decks : List DeskDeck) (deck : DeskDeck) → find (is_named name) decks ≡ Some deck → cards_named name (map deck_of decks) ≡ Some deck.cards
cards-found name [] deck found = cc
cards-found name (d ∷ decks) deck found = cards-head name d deck decks (is_named name d) found (λ later. cards-found name decks deck later)

-- a step makes at most one version
version-near : (desk : Desk) (call : Call) (reply : Reply) (next : Desk) → Outcome desk call reply next → next.version ≤ desk.version + 1
version-near desk call reply next (by_staying by) = let same = by.unchanged.version in omega (arith, same)
version-near desk call reply next (by_changing by) = let more = by.version in omega (arith, more)
version-near desk call reply next (by_publishing by) = let same = by.version in omega (arith, same)

-- the decks at a version that the accepted changes came to, by all that were accepted later
decks-then : (begun : ℕ) (changes more all : List Change) (desk : Desk) → IsTold begun changes desk → changes ++ more ≡ all → decks_after (take (desk.version - begun) all) ≡ decks_of desk
decks-then begun changes more all desk told same =
    let counted = told.version in
    let count : desk.version - begun ≡ length changes = omega (arith, counted) in
    ap decks_after (ap (λ (n : ℕ). take n all) count ∙ (ap (λ (cs : List Change). take (length changes) cs) (sym same) ∙ (take-append-le (length changes) changes more (omega arith) ∙ take-length changes))) ∙ sym told.decks

-- the decks at each version, and a name
module _ (decks_then : ℕ → List Deck) (name : List ℕ) where
  -- where a deck has the name, what is kept of it brings back the cards that it had then, at each version up to this one
  abbrev BringsBack : ℕ → List ℕ → List Card → Past → Type 0
  BringsBack upto called cards past = (version : ℕ) → same_text name called ≡ true → past.since ≤ version → version ≤ upto → cards_named name (decks_then version) ≡ Some (edited_by (backs_of (behind version past.edits)) cards)

  abbrev HasBack : ℕ → ℕ → List ℕ → List Card → Past → Type 0
  HasBack upto version called cards past = HasPast version cards past × BringsBack upto called cards past

  back-kept : (upto : ℕ) → IsKept (HasBack upto) upto
  back-kept upto =
      let keeps = past-kept upto in
      record {
        begins = λ called cards few. (keeps.begins called cards few, λ version named since early. absurd (omega (arith, since, early)));
        edits = λ called by made cards past has none. (
          keeps.edits called by made cards past has.0 none,
          λ version named since early.
              let before = since-after upto by made cards past has.0.rises in
              has.1 version named (omega (arith, since, before)) early ∙ ap (λ (cs : List Card). Some cs) (sym (cards-after upto by made cards past has.0.rises version none early since)),
        );
        later = λ called cards past has. (keeps.later called cards past has.0, has.1);
      }

  -- at the version of the desk, nothing is behind
  back-now : (desk : Desk) (upto : ℕ) (d : DeskDeck) → decks_then desk.version ≡ decks_of desk → desk.version ≤ upto + 1 → HasBack upto desk.version d.name d.cards d.past → (is_named name d ≡ true → find (is_named name) desk.decks ≡ Some d) →
      HasBack desk.version desk.version d.name d.cards d.past
  back-now desk upto d now near has found = (
    has.0,
    λ version named since early. elim (leb_tells version upto) [
      | inl h ↦ has.1 version named since h.1
      | inr h ↦ (
          let last : desk.version ≡ version = let late = h.1 in omega (arith, early, near, late) in
          let none = none-behind version d.past.since desk.version d.past.edits has.0.rises (omega (arith, last)) in
          ap (λ (v : ℕ). cards_named name (decks_then v)) (sym last) ∙ (ap (cards_named name) now ∙ (cards-found name desk.decks d (found named) ∙ ap (λ (kept : List KeptEdit). Some (edited_by (backs_of kept) d.cards)) (sym none))))
    ],
  )

  back-next : (desk : Desk) (call : Call) (reply : Reply) (next : Desk) → Steps desk call reply next → decks_then next.version ≡ decks_of next → AllSo (HasBack desk.version) desk → AllSo (HasBack next.version) next
  back-next desk call reply next step now so =
      let near = version-near desk call reply next (step_comes desk call reply next step) in
      let so_next : AllSo (HasBack desk.version) next = so-next (HasBack desk.version) desk call reply next step (back-kept desk.version) so in
      record {
        own = so_next.own;
        all = all_next (OfDeck (HasBack desk.version) next.version) (λ (d : DeskDeck). is_named name d ≡ true → find (is_named name) next.decks ≡ Some d) (OfDeck (HasBack next.version) next.version)
            (λ d has found. back-now next desk.version d now near has found) next.decks so_next.all (named-found name next.decks so_next.own);
      }

back-through : (begun : ℕ) (name : List ℕ) (all changes : List Change) (desk last : Desk) (history : History) → Leads Steps desk history last → IsTold begun changes desk → changes ++ changes_in history ≡ all →
    AllSo (HasBack (λ (version : ℕ). decks_after (take (version - begun) all)) name desk.version) desk → AllSo (HasBack (λ (version : ℕ). decks_after (take (version - begun) all)) name last.version) last
back-through begun name all changes desk last [] leads told same so = subst (λ (d : Desk). AllSo (HasBack (λ (version : ℕ). decks_after (take (version - begun) all)) name d.version) d) leads so
back-through begun name all changes desk last (entry ∷ more) leads told same so =
    let now = next_told begun changes desk leads.0 entry more told (step_comes desk entry.call entry.reply leads.0 leads.1) in
    let through : now.changes_now ++ changes_in more ≡ all = sym now.same ∙ same in
    back-through begun name all now.changes_now leads.0 last more leads.2 now.told through
    (back-next (λ (version : ℕ). decks_after (take (version - begun) all)) name desk entry.call entry.reply leads.0 leads.1 (decks-then begun now.changes_now (changes_in more) all leads.0 now.told through) so)

-- the cards of the deck of a name
pub cards_now : (desk : Desk) (name : List ℕ) (deck : DeskDeck) → deck_named name desk ≡ Some deck → cards_named name (decks_of desk) ≡ Some deck.cards
cards_now desk name deck found = cards-found name desk.decks deck found

-- what is kept of a deck brings back the cards that it had at each version; at one to which the desk has not come, those of now
pub cards_then : (begun : ℕ) (history : History) (desk : Desk) (name : List ℕ) (deck : DeskDeck) (version : ℕ) → Runs begun history desk → deck_named name desk ≡ Some deck → deck.past.since ≤ version →
    cards_named name (decks_at begun version history) ≡ Some (cards_of version deck)
cards_then begun history desk name deck version runs found since =
    let decks_then : ℕ → List Deck = λ v. decks_at begun v history in
    let so : AllSo (HasBack decks_then name desk.version) desk = back-through begun name (changes_in history) [] (new_desk_at begun) desk history runs (told_first begun) refl (record { own = tt; all = tt }) in
    let of = found_told (OfDeck (HasBack decks_then name desk.version) desk.version) (is_named name) desk.decks deck so.all found in
    elim (leb_tells version desk.version) [
      | inl h ↦ of.0.1 version of.1 since h.1
      | inr h ↦ (
          let told = told_last begun history desk runs in
          let counted = told.version in
          let late = h.1 in
          let none = none-behind version deck.past.since desk.version deck.past.edits of.0.0.rises (omega (arith, late)) in
          ap (λ (cs : List Change). cards_named name (decks_after cs)) (take_all (version - begun) (changes_in history) (omega (arith, counted, late)))
          ∙ (ap (cards_named name) (sym told.decks) ∙ (cards_now desk name deck found ∙ ap (λ (kept : List KeptEdit). Some (edited_by (backs_of kept) deck.cards)) (sym none))))
    ]

module _ (begun : ℕ) (history : History) (desk next : Desk) (name : List ℕ) (version : ℕ) (runs : Runs begun history desk) where
  since-told : (deck : DeskDeck) → against_since version deck ≡ None → deck.past.since ≤ version
  since-told deck clear =
      let none = all-clear (when (nat_lt deck.version version) (OldVersion deck.version) ∷ when (nat_lt version deck.past.since) (Forgotten deck.past.since) ∷ []) clear in
      ltb-false version deck.past.since (no-reason (nat_lt version deck.past.since) (Forgotten deck.past.since) none.1.0)

  shown-of : (told : ℕ) (cards : List Card) (backs : List Edit) (found : Option DeskDeck) → deck_named name desk ≡ found → CardsBefore told cards backs ≡ (cards_at_of version desk found).reply →
      cards_named name (decks_at begun version history) ≡ Some (edited_by backs cards)
  shown-of told cards backs None none gave = cc
  shown-of told cards backs (Some deck) found gave =
      let clear = unrefused (against_since version deck) desk _ (CardsBefore told cards backs) (λ refusal e. cc) gave in
      let same : CardsBefore told cards backs ≡ CardsBefore version deck.cards (backs_of (edits_behind version deck)) = gave ∙ ap (λ (a : Answer). a.reply) clear.1 in
      let now : deck.cards ≡ cards = cc in
      let took : backs_of (edits_behind version deck) ≡ backs = cc in
      cards_then begun history desk name deck version runs found (since-told deck clear.0) ∙ ap₂ (λ (es : List Edit) (cs : List Card). Some (edited_by es cs)) took now

  -- the cards that are shown of a version are those that the deck had
  pub shown_then : (told : ℕ) (cards : List Card) (backs : List Edit) → Steps desk (Ask (CardsAt name version)) (CardsBefore told cards backs) next → cards_named name (decks_at begun version history) ≡ Some (edited_by backs cards)
  shown_then told cards backs (inl gave) = shown-of told cards backs (deck_named name desk) refl gave.0
  shown_then told cards backs (inr starved) = let e : CardsBefore told cards backs ≡ Refused OutOfMemory = starved.1 in cc

  told-of : (last : ℕ) (edits : List KeptEdit) (found : Option DeskDeck) → deck_named name desk ≡ found → ChangesAre last edits ≡ (changes_of version desk found).reply → LedSince begun history name version edits desk
  told-of last edits None none gave = absurd (let e : ChangesAre last edits ≡ Refused NoDeck = gave in cc)
  told-of last edits (Some deck) found gave =
      let clear = unrefused (against_since version deck) desk _ (ChangesAre last edits) (λ refusal e. cc) gave in
      let same : ChangesAre last edits ≡ ChangesAre deck.version (edits_behind version deck) = gave ∙ ap (λ (a : Answer). a.reply) clear.1 in
      let kept : edits_behind version deck ≡ edits = cc in (
        cards_of version deck,
        deck.cards,
        cards_then begun history desk name deck version runs found (since-told deck clear.0),
        cards_now desk name deck found,
        subst (λ (es : List KeptEdit). HaveLed (cards_of version deck) es deck.cards) kept (led_there begun history desk name deck version runs found),
      )

  -- the changes that are stated of a deck led from the cards that it had to those of now
  pub told_then : (last : ℕ) (edits : List KeptEdit) → Steps desk (Ask (Changes name version)) (ChangesAre last edits) next → LedSince begun history name version edits desk
  told_then last edits (inl gave) = told-of last edits (deck_named name desk) refl gave.0
  told_then last edits (inr starved) = absurd (let e : ChangesAre last edits ≡ Refused OutOfMemory = starved.1 in cc)
