-- Steps that put one deck in another form, with an entry that means something for that deck alone.
use Rattle.std.proofs.Common.{◌≡◌, ℕ, ◌<◌, ◌≤◌, ◌==◌, Bool, true, false, cond, List, ◌∷◌, map, Some, None, refl, ap, ◌∙◌, arith, eq-eqb, ne_eqb}
use Rattle.turn_office.specs.declared.history.Entry.{Entry}
use Rattle.desk_core.{specs.Desks.{Desk, DeskDeck, put_if_named, is_named}, specs.Joins.Calls.{Call, Reply}, specs.Runs.History, specs.Jobs.{Effect, Leaves, effect_if, effect_on, after_effect, since_job}, proofs.JobsTold.{since_of, IsMeant, IsLeaseTold, IsDeckTold, IsUnreached, IsDeskTold, meant_still, lease_told_still, same_meant, other_meant, deck_told_next}, proofs.QuietSteps.Touches, proofs.TellingDecks.all_put}

-- no effect on one deck is none on any
pub leaves_each : (deck identity : ℕ) → Leaves ≡ effect_if deck (Some identity) Leaves
leaves_each deck identity = leaves_either (identity == deck)
  where
    leaves_either : (test : Bool) → Leaves ≡ cond test Leaves Leaves
    leaves_either true = refl
    leaves_either false = refl

-- the form in which a deck is put, and what has to be known of it
pub record IsForm (history : History) (e : Entry Call Reply) (version leases more identity : ℕ) (effect : Effect) (form : DeskDeck → DeskDeck) : Type 0 where
  pub names : (deck : DeskDeck) → (form deck).name ≡ deck.name
  pub identities : (deck : DeskDeck) → (form deck).identity ≡ deck.identity
  pub since : (deck : DeskDeck) → IsDeckTold history version leases deck → identity ≡ deck.identity → after_effect effect (since_of deck) ≡ since_of (form deck)
  pub leased : (deck : DeskDeck) → IsDeckTold history version leases deck → identity ≡ deck.identity → IsLeaseTold (e ∷ history) more (Some deck.identity) (form deck).lease

module _ (history : History) (e : Entry Call Reply) (version after leases more identity : ℕ) (name : List ℕ) (effect : Effect) (form : DeskDeck → DeskDeck)
    (touches : Touches history leases (λ deck. effect_if deck (Some identity) effect) e) (is_form : IsForm history e version leases more identity effect form) (meant : IsMeant history name identity) (grown : version ≤ after) (given : leases ≤ more) where
  -- the deck that is meant
  told_at_name : (deck : DeskDeck) → IsDeckTold history version leases deck → is_named name deck ≡ true → IsDeckTold (e ∷ history) after more (form deck)
  told_at_name deck told named =
      let same = same_meant history name deck.name identity deck.identity meant told.meant named in
      let here : effect_on deck.identity history e.call e.reply ≡ effect = touches.effects deck.identity ∙ ap (λ b. cond b effect Leaves) (eq-eqb identity deck.identity same) in
      deck_told_next history e version after leases more deck (form deck) told (is_form.names deck) (is_form.identities deck) (meant_still history e deck.name deck.identity touches.adds_none told.meant) grown
      (ap (λ (f : Effect). after_effect f (since_of deck)) here ∙ is_form.since deck told same) (is_form.leased deck told same)

  -- each other deck
  told_at_other : (deck : DeskDeck) → IsDeckTold history version leases deck → is_named name deck ≡ false → IsDeckTold (e ∷ history) after more deck
  told_at_other deck told differs =
      let apart = other_meant history name deck.name identity deck.identity meant told.meant differs in
      let here : effect_on deck.identity history e.call e.reply ≡ Leaves = touches.effects deck.identity ∙ ap (λ b. cond b effect Leaves) apart in
      deck_told_next history e version after leases more deck deck told refl refl (meant_still history e deck.name deck.identity touches.adds_none told.meant) grown
      (ap (λ (f : Effect). after_effect f (since_of deck)) here) (lease_told_still history e leases more (Some deck.identity) deck.lease touches.leases_none given told.leased)

  -- what is not reached is not the deck that is meant
  unreached_touched : identity ≤ version → IsUnreached history version → IsUnreached (e ∷ history) after
  unreached_touched reached unreached other beyond =
      let before : version < other = omega arith in
      let apart = ne_eqb identity other (λ same. absurd (omega arith)) in
      let here : effect_on other history e.call e.reply ≡ Leaves = touches.effects other ∙ ap (λ b. cond b effect Leaves) apart in
      ap (λ (f : Effect). after_effect f (since_job other history)) here ∙ unreached other before

-- a step that puts the deck of a name in another form
pub told_touched : (history : History) (e : Entry Call Reply) (desk next : Desk) (identity : ℕ) (name : List ℕ) (effect : Effect) (form : DeskDeck → DeskDeck) →
    Touches history desk.leases (λ deck. effect_if deck (Some identity) effect) e → IsForm history e desk.version desk.leases next.leases identity effect form → IsMeant history name identity → identity ≤ desk.version →
    IsDeskTold history desk → desk.version ≤ next.version → desk.leases ≤ next.leases → next.decks ≡ map (put_if_named name form) desk.decks → next.link ≡ desk.link → IsDeskTold (e ∷ history) next
told_touched history e desk next identity name effect form touches is_form meant reached told grown given decks link =
    let v = desk.version in let w = next.version in let l = desk.leases in let m = next.leases in
    record {
      decks = rw decks (all_put (IsDeckTold history v l) (IsDeckTold (e ∷ history) w m) name form
          (told_at_name history e v w l m identity name effect form touches is_form meant grown given)
          (told_at_other history e v w l m identity name effect form touches is_form meant grown given) desk.decks told.decks);
      link = rw link (lease_told_still history e l m None desk.link touches.leases_none given told.link);
      unreached = unreached_touched history e v w l m identity name effect form touches is_form meant grown given reached told.unreached;
    }
