-- What is stated of a desk after a change.
use Rattle.std.{proofs.Common.{◌≡◌, ℕ, ◌+◌, ◌==◌, Bool, true, false, cond, ◌||◌, List, ◌∷◌, ◌++◌, is_some, Option, Some, None, option_map, refl, sym, ap, ◌∙◌, subst, arith, eq-eqb, ne_eqb}, specs.Option.option_or, specs.List.AllByRecursion}
use Rattle.turn_office.specs.{declared.history.Entry.Entry, Histories.entry}
use Rattle.desk_core.{specs.Joins.Language.{Deck, same_text}, specs.Joins.Edits.Edit, specs.Desks.{Desk, DeskDeck, deck_named, is_named}, specs.Joins.Calls.{Call, Reply, Changed}, specs.Changing.{added_deck, added, replaced_deck, put, edited_deck, edited}, specs.Runs.History, specs.Jobs.{identity_in, identity_of, Effect, Accepts, Leaves, effect_if, effect_on, after_effect, since_job}, proofs.Same.{equal_texts, same_text-itself}, proofs.JobsTold.{name_in, name_of, IsMeant, IsDeckTold, IsDeskTold, LeasesNone, since_of, lease_told_still, deck_told_next}, proofs.PlaceLaws.differ-both, proofs.StepKinds.IsEdit, proofs.TellingDecks.{found_told, none_found, all_next, all_added, all_put}, proofs.TouchedSteps.told_touched}

module _ (history : History) (by : ℕ) (desk : Desk) (told : IsDeskTold history desk) where
  -- a call that brings a deck as the next change
  pub record Brings (deck : Deck) (call : Call) : Type 0 where
    pub identities : (name : List ℕ) → identity_in name call (Changed (desk.version + 1)) ≡ cond (same_text name deck.name) (Some (desk.version + 1)) None
    pub names : (identity : ℕ) → name_in identity call (Changed (desk.version + 1)) ≡ cond (desk.version + 1 == identity) (Some deck.name) None
    pub leases_none : LeasesNone (entry by call (Changed (desk.version + 1))) desk.leases
    pub leaves : (identity : ℕ) → effect_on identity history call (Changed (desk.version + 1)) ≡ Leaves

  module _ (call : Call) (deck : Deck) (brings : Brings deck call) where
    abbrev v : ℕ
    v = desk.version

    abbrev e : Entry Call Reply
    e = entry by call (Changed (v + 1))

    -- a deck that was there, where one of another name is brought
    brought_other : (other : DeskDeck) → IsDeckTold history v desk.leases other → is_named deck.name other ≡ false → IsDeckTold (e ∷ history) (v + 1) desk.leases other
    brought_other other was differ =
        let reached = was.reached in
        let apart = ne_eqb (v + 1) other.identity (λ same. absurd (omega arith)) in
        let meant : IsMeant (e ∷ history) other.name other.identity = record {
          identity_is = ap (λ (o : Option ℕ). option_or o (identity_of other.name history)) (brings.identities other.name ∙ ap (λ b. cond b (Some (v + 1)) None) (differ-both deck.name other.name differ)) ∙ was.meant.identity_is;
          name_is = ap (λ (o : Option (List ℕ)). option_or o (name_of other.identity history)) (brings.names other.identity ∙ ap (λ b. cond b (Some deck.name) None) apart) ∙ was.meant.name_is;
        } in
        deck_told_next history e v (v + 1) desk.leases desk.leases other other was refl refl meant (omega arith)
        (ap (λ (f : Effect). after_effect f (since_of other)) (brings.leaves other.identity))
        (lease_told_still history e desk.leases desk.leases (Some other.identity) other.lease brings.leases_none (omega arith) was.leased)

    -- the deck that is brought
    brought_itself : IsDeckTold (e ∷ history) (v + 1) desk.leases (added_deck (v + 1) deck)
    brought_itself = record {
      meant = record {
        identity_is = ap (λ (o : Option ℕ). option_or o (identity_of deck.name history)) (brings.identities deck.name ∙ ap (λ b. cond b (Some (v + 1)) None) (same_text-itself deck.name));
        name_is = ap (λ (o : Option (List ℕ)). option_or o (name_of (v + 1) history)) (brings.names (v + 1) ∙ ap (λ b. cond b (Some deck.name) None) (eq-eqb (v + 1) (v + 1) refl));
      };
      reached = omega arith;
      since = ap (λ (f : Effect). after_effect f (since_job (v + 1) history)) (brings.leaves (v + 1)) ∙ told.unreached (v + 1) (omega arith);
      leased = tt;
    }

    -- no link is brought, nor what is not reached
    brought : (decks : List DeskDeck) → AllByRecursion (IsDeckTold (e ∷ history) (v + 1) desk.leases) decks → IsDeskTold (e ∷ history) (record desk { version = v + 1; decks = decks })
    brought decks all = record {
      decks = all;
      link = lease_told_still history e desk.leases desk.leases None desk.link brings.leases_none (omega arith) told.link;
      unreached = λ identity beyond. ap (λ (f : Effect). after_effect f (since_job identity history)) (brings.leaves identity) ∙ told.unreached identity (omega arith);
    }

    -- a deck of a name of its own
    pub next_added : deck_named deck.name desk ≡ None → IsDeskTold (e ∷ history) (added deck desk)
    next_added none =
        let P = IsDeckTold (e ∷ history) (v + 1) desk.leases in
        brought _ (all_added P desk.decks (added_deck (v + 1) deck)
        (all_next (IsDeckTold history v desk.leases) (λ other. is_named deck.name other ≡ false) P brought_other desk.decks told.decks (none_found (is_named deck.name) desk.decks none)) brought_itself)

    -- a deck in the place of the one of its name
    pub next_replaced : (before : DeskDeck) → IsDeskTold (e ∷ history) (put deck desk (Some before))
    next_replaced before =
        let P = IsDeckTold (e ∷ history) (v + 1) desk.leases in
        brought _ (all_put (IsDeckTold history v desk.leases) P deck.name (replaced_deck (v + 1) deck.cards)
        (λ other was named. subst (λ (name : List ℕ). P (added_deck (v + 1) (record { name = name; cards = deck.cards }))) (equal_texts deck.name other.name named) brought_itself) brought_other desk.decks told.decks)

  -- the edits wait where the record is on the desk or out
  since_edited : (held : Bool) (waiting edits : List Edit) → option_map (λ (before : List Edit). before ++ edits) (cond held (Some waiting) None) ≡ cond held (Some (cond held (waiting ++ edits) waiting)) None
  since_edited true waiting edits = refl
  since_edited false waiting edits = refl

  -- accepted edits of a deck that is there
  pub next_edited : (call : Call) (reply : Reply) (name who : List ℕ) (edits : List Edit) (deck : DeskDeck) → deck_named name desk ≡ Some deck → IsEdit call reply name edits → IsDeskTold (entry by call reply ∷ history) (edited name who edits desk)
  next_edited call reply name who edits deck found is =
      let e = entry by call reply in
      let here = found_told (IsDeckTold history desk.version desk.leases) (is_named name) desk.decks deck told.decks found in
      let meant : IsMeant history name deck.identity = subst (λ n. IsMeant history n deck.identity) (sym (equal_texts name deck.name here.1)) here.0.meant in
      let leases_none : LeasesNone e desk.leases = λ number few. is.leases_none number in
      told_touched history e desk (edited name who edits desk) deck.identity name (Accepts edits) (edited_deck (desk.version + 1) who edits)
      (record { adds_none = is.adds_none; leases_none = leases_none; effects = λ d. is.effects history d ∙ ap (λ (o : Option ℕ). effect_if d o (Accepts edits)) meant.identity_is })
      (record {
        names = λ d. refl;
        identities = λ d. refl;
        since = λ d was same. since_edited (is_some d.kept || is_some d.lease) d.waiting edits;
        leased = λ d was same. lease_told_still history e desk.leases desk.leases (Some d.identity) d.lease leases_none (omega arith) was.leased;
      }) meant here.0.reached told (omega arith) (omega arith) refl refl
