-- What is stated of a desk after the job of a deck is handed out, is lost, or comes back.
use Rattle.std.proofs.Common.{◌≡◌, ℕ, ◌+◌, ◌≤◌, ◌==◌, Bool, true, false, cond, ◌||◌, List, ◌∷◌, is_some, find, Option, Some, None, refl, sym, ap, ◌∙◌, arith, eqb-true, eq-eqb, ne_eqb, unwrap_or}
use Rattle.turn_office.specs.Histories.{entry}
use Rattle.desk_core.{specs.Joins.Edits.Edit, specs.Desks.{Desk, DeskDeck, Lease, with_deck, is_leased}, specs.Joins.Calls.{Claim, DeliverDeck, Call, Do, DeckJob, Done, Reply}, specs.Claiming.{hand_out, deck_work, given, is_free}, specs.Delivering.{deck_leased, lost}, specs.Runs.History, specs.Jobs.{deck_of_lease, HandsOut, Loses, Leaves, effect_if, effect_on, leased_in, since_job}, proofs.JobsTold.{AddsNone, since_of, IsLeaseTold, IsDeckTold, IsDeskTold}, proofs.QuietSteps.quiet, proofs.StepKinds.means, proofs.TellingDecks.found_told, proofs.TouchedSteps.{told_touched, leaves_each}}

-- the next lease is none that was given before
pub next_is_new : {A : Type 0} (leases : ℕ) (a : A) (number : ℕ) → number ≤ leases → cond (leases + 1 == number) (Some a) None ≡ None
next_is_new leases a number few = ap (λ b. cond b (Some a) None) (ne_eqb (leases + 1) number (λ same. absurd (omega arith)))

-- what the next lease is given for
pub next_is_for : (leases : ℕ) (for before : Option ℕ) → unwrap_or (cond (leases + 1 == leases + 1) (Some for) None) before ≡ for
next_is_for leases for before = ap (λ b. unwrap_or (cond b (Some for) None) before) (eq-eqb (leases + 1) (leases + 1) refl)

-- a lease that is out was given for what it is stated of
pub leased_for : (history : History) (leases number : ℕ) (for : Option ℕ) (lease : Option Lease) → IsLeaseTold history leases for lease → is_leased number lease ≡ true → deck_of_lease number history ≡ for
leased_for history leases number for None told out = cc
leased_for history leases number for (Some lease) told out = ap (λ n. deck_of_lease n history) (sym (eqb-true lease.number number out)) ∙ told.0

-- a deck whose lease is out has a record somewhere
since_leased : (deck : DeskDeck) (lease : Option Lease) (number : ℕ) → deck.lease ≡ lease → is_leased number lease ≡ true → since_of deck ≡ Some deck.waiting
since_leased deck None number is out = cc
since_leased deck (Some lease) number is out = ap (λ (l : Option Lease). cond (is_some deck.kept || is_some l) (Some deck.waiting) None) is ∙ either_way (is_some deck.kept)
  where
    either_way : (held : Bool) → cond (held || true) (Some deck.waiting) None ≡ Some deck.waiting
    either_way true = refl
    either_way false = refl

-- where a deck lacks some edits, they are those that wait
since_waiting : (held : Bool) (waiting some : List Edit) → cond held (Some waiting) None ≡ Some some → cond held (Some waiting) None ≡ Some waiting
since_waiting true waiting some e = refl
since_waiting false waiting some e = cc

module _ (history : History) (by : ℕ) (desk : Desk) (told : IsDeskTold history desk) where
  -- the deck whose lease is out
  leased : (number : ℕ) (deck : DeskDeck) → deck_leased number desk ≡ Some deck → IsDeckTold history desk.version desk.leases deck × (is_leased number deck.lease ≡ true)
  leased number deck found = found_told (IsDeckTold history desk.version desk.leases) (λ (d : DeskDeck). is_leased number d.lease) desk.decks deck told.decks found

  -- a deck is handed out
  pub next_handed : (deck : DeskDeck) → find is_free desk.decks ≡ Some deck → IsDeskTold (entry by (Do Claim) (hand_out deck desk).reply ∷ history) (hand_out deck desk).desk
  next_handed deck free =
      let n = desk.leases + 1 in
      let was = (found_told (IsDeckTold history desk.version desk.leases) is_free desk.decks deck told.decks free).0 in
      told_touched history (entry by (Do Claim) (DeckJob (deck_work n deck))) desk (hand_out deck desk).desk deck.identity deck.name (HandsOut (deck_work n deck).edits) (given n)
      (record { adds_none = record { identities = λ x. refl; names = λ i. refl }; leases_none = λ number few. next_is_new desk.leases (Some deck.identity) number few; effects = λ d. refl })
      (record {
        names = λ d. refl;
        identities = λ d. refl;
        since = λ d is same. refl;
        leased = λ d is same. (next_is_for desk.leases (Some deck.identity) (deck_of_lease n history) ∙ ap (λ (i : ℕ). Some i) same, omega arith);
      }) was.meant was.reached told (omega arith) (omega arith) refl refl

  -- the record of a deck is lost
  pub next_lost : (call : Call) (reply : Reply) (number : ℕ) (deck : DeskDeck) → deck_leased number desk ≡ Some deck → AddsNone call reply → ((n : ℕ) → leased_in n call reply ≡ None) →
      ((d : ℕ) → effect_on d history call reply ≡ effect_if d (deck_of_lease number history) Loses) → IsDeskTold (entry by call reply ∷ history) (with_deck deck.name lost desk)
  next_lost call reply number deck found adds_none leases_none effects =
      let was = leased number deck found in
      let for = leased_for history desk.leases number (Some deck.identity) deck.lease was.0.leased was.1 in
      told_touched history (entry by call reply) desk (with_deck deck.name lost desk) deck.identity deck.name Loses lost
      (record { adds_none = adds_none; leases_none = λ n few. leases_none n; effects = λ d. effects d ∙ ap (λ (o : Option ℕ). effect_if d o Loses) for })
      (record { names = λ d. refl; identities = λ d. refl; since = λ d is same. refl; leased = λ d is same. tt }) was.0.meant was.0.reached told (omega arith) (omega arith) refl refl

  -- the record of a deck comes back
  pub next_back : (done : Done) (reply : Reply) (deck : DeskDeck) (form : DeskDeck → DeskDeck) → deck_leased done.lease desk ≡ Some deck → means (Do (DeliverDeck done)) reply ≡ false →
      ((d : DeskDeck) → (form d).name ≡ d.name) → ((d : DeskDeck) → (form d).identity ≡ d.identity) → ((d : DeskDeck) → since_of (form d) ≡ Some d.waiting) → ((d : DeskDeck) → (form d).lease ≡ None) →
      IsDeskTold (entry by (Do (DeliverDeck done)) reply ∷ history) (with_deck deck.name form desk)
  next_back done reply deck form found means_nothing names identities back free =
      let was = leased done.lease deck found in
      let here = since_leased deck deck.lease done.lease refl was.1 in
      let silent = quiet history desk.leases by (Do (DeliverDeck done)) reply means_nothing in
      told_touched history (entry by (Do (DeliverDeck done)) reply) desk (with_deck deck.name form desk) deck.identity deck.name Leaves form
      (record { adds_none = silent.adds_none; leases_none = silent.leases_none; effects = λ d. silent.effects d ∙ leaves_each d deck.identity })
      (record {
        names = names;
        identities = identities;
        since = λ d is same.
            let known : since_of d ≡ Some deck.waiting = sym is.since ∙ (ap (λ i. since_job i history) (sym same) ∙ (was.0.since ∙ here)) in
            since_waiting (is_some d.kept || is_some d.lease) d.waiting deck.waiting known ∙ sym (back d);
        leased = λ d is same. rw (free d) tt;
      }) was.0.meant was.0.reached told (omega arith) (omega arith) refl refl
