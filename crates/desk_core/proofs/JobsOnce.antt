-- Each deck job is what the history before it makes due.
use Rattle.std.proofs.{Common.{◌≡◌, ℕ, ◌+◌, ◌||◌, Bool, true, false, cond, not, is_some, is_none, find, List, Option, Some, None, [], ◌∷◌, ◌++◌, reverse, refl, sym, ap, ap₂, ◌∙◌, subst, arith, append_assoc, append-nil}, lemmas.Bool.{and_parts, or_parts}, lemmas.List.reverse-append}
use Rattle.turn_office.specs.{declared.history.Entry.Entry, Histories.{Leads, entry}}
use Rattle.desk_core.{specs.Joins.Edits.Edit, specs.Desks.{Desk, DeskDeck, Kept, Lease, new_desk_at, is_named}, specs.Joins.Calls.{AddDeck, PutDeck, DropDeck, Claim, GiveUp, Call, Make, Do, DeckWork, Reply, Changed, DeckJob, Stored, Cleared, Refused, Stale}, specs.Changing.dropped, specs.Claiming.{hand_out_link, deck_work, start_of, edits_for, is_behind, is_free}, specs.Delivering.{given_back, stored, unlinked}, specs.Steps.Steps, specs.Runs.{History, Runs, accepts}, specs.Jobs.{deck_of_lease, Loses, effect_if, since_job, IsDue, IsDueFrom}, proofs.ChangeSteps.{next_added, next_replaced, next_edited}, proofs.JobsTold.{IsDeckTold, IsDeskTold, desk_told_first}, proofs.QuietSteps.{quiet, told_quiet}, proofs.ResultSteps.{next_is_new, next_is_for, leased_for, next_handed, next_lost, next_back}, proofs.StepKinds.{Kind, leaves_desk, ends_link, gives_link_up, publishes_decks, hands_link, hands_deck, gives_deck_up, is_foreign, gives_back, stores, adds, puts_new, puts_over, drops, edits_deck, does, step-kind}, proofs.TellingDecks.{found_told, all_filtered}}

no_lease : (lease : Option Lease) → is_none lease ≡ true → lease ≡ None
no_lease None e = refl
no_lease (Some lease) e = cc

module _ (history : History) (by : ℕ) (desk : Desk) (told : IsDeskTold history desk) where
  -- what is stated after each kind of step
  next_kind : (call : Call) (reply : Reply) (next : Desk) → Kind desk call reply next → IsDeskTold (entry by call reply ∷ history) next
  next_kind call reply next (leaves_desk c r silent) = told_quiet history (entry by c r) desk desk (quiet history desk.leases by c r silent) told (omega arith) (omega arith) (λ all. all) (λ link. link)
  next_kind call reply next (ends_link c r silent) = told_quiet history (entry by c r) desk (unlinked desk) (quiet history desk.leases by c r silent) told (omega arith) (omega arith) (λ all. all) (λ link. tt)
  next_kind call reply next (gives_link_up number out) = told_quiet history (entry by (Do (GiveUp number)) Cleared) desk (unlinked desk)
      (record { adds_none = record { identities = λ n. refl; names = λ i. refl }; leases_none = λ n few. refl; effects = λ d. ap (λ (o : Option ℕ). effect_if d o Loses) (leased_for history desk.leases number None desk.link told.link out) })
      told (omega arith) (omega arith) (λ all. all) (λ link. tt)
  next_kind call reply next (publishes_decks c r publication silent shown version decks) =
      told_quiet history (entry by c r) desk (record (unlinked desk) { publication = Some publication }) (quiet history desk.leases by c r silent) told (omega arith) (omega arith) (λ all. all) (λ link. tt)
  next_kind call reply next hands_link = told_quiet history (entry by (Do Claim) (hand_out_link desk).reply) desk (hand_out_link desk).desk
      (record { adds_none = record { identities = λ n. refl; names = λ i. refl }; leases_none = λ number few. next_is_new desk.leases None number few; effects = λ d. refl })
      told (omega arith) (omega arith) (λ all. all) (λ link. (next_is_for desk.leases None (deck_of_lease (desk.leases + 1) history), omega arith))
  next_kind call reply next (hands_deck deck free) = next_handed history by desk told deck free
  next_kind call reply next (gives_deck_up number deck out) = next_lost history by desk told _ _ number deck out (record { identities = λ n. refl; names = λ i. refl }) (λ n. refl) (λ d. refl)
  next_kind call reply next (is_foreign done deck out) = next_lost history by desk told _ _ done.lease deck out (record { identities = λ n. refl; names = λ i. refl }) (λ n. refl) (λ d. refl)
  next_kind call reply next (gives_back done deck out there) = next_back history by desk told done (Refused (Stale deck.version)) deck (given_back done.kept) out refl (λ d. refl) (λ d. refl)
      (λ d. ap (λ b. cond (b || false) (Some d.waiting) None) there) (λ d. refl)
  next_kind call reply next (stores done deck out there) = next_back history by desk told done Stored deck (stored done.kept) out refl (λ d. refl) (λ d. refl)
      (λ d. ap (λ b. cond (b || false) (Some d.waiting) None) there) (λ d. refl)
  next_kind call reply next (adds who deck none few) =
      next_added history by desk told (Make who (AddDeck deck)) deck (record { identities = λ n. refl; names = λ i. refl; leases_none = λ n few. refl; leaves = λ d. refl }) none
  next_kind call reply next (puts_new who deck seen none few) =
      next_added history by desk told (Make who (PutDeck deck seen)) deck (record { identities = λ n. refl; names = λ i. refl; leases_none = λ n few. refl; leaves = λ d. refl }) none
  next_kind call reply next (puts_over who deck seen before found few) =
      next_replaced history by desk told (Make who (PutDeck deck seen)) deck (record { identities = λ n. refl; names = λ i. refl; leases_none = λ n few. refl; leaves = λ d. refl }) before
  next_kind call reply next (drops who name seen) =
      let e = entry by (Make who (DropDeck name seen)) (Changed (desk.version + 1)) in
      told_quiet history e desk (dropped name desk) (record { adds_none = record { identities = λ n. refl; names = λ i. refl }; leases_none = λ n few. refl; effects = λ d. refl }) told (omega arith) (omega arith)
      (λ all. all_filtered (IsDeckTold (e ∷ history) (desk.version + 1) desk.leases) (λ deck. not (is_named name deck)) desk.decks all) (λ link. link)
  next_kind call reply next (edits_deck c r name who edits deck found applied is) = next_edited history by desk told c r name who edits deck found is

  -- what is stated after each step
  pub step_next : (call : Call) (reply : Reply) (next : Desk) → Steps desk call reply next → IsDeskTold (entry by call reply ∷ history) next
  step_next call reply next step = next_kind call reply next (step-kind desk call reply next step)

  -- a deck without a lease is handed out with its record and what it lacks, or with its cards
  due_from : (deck : DeskDeck) (kept : Option Kept) (since : Option (List Edit)) → since ≡ cond (is_some kept) (Some deck.waiting) None → IsDueFrom (start_of deck kept) (edits_for deck kept) since
  due_from deck None since e = (e, refl)
  due_from deck (Some kept) since e = e

  without : (held : Bool) (lease : Option Lease) (waiting : List Edit) → lease ≡ None → cond (held || is_some lease) (Some waiting) None ≡ cond held (Some waiting) None
  without true lease waiting none = refl
  without false lease waiting none = ap (λ (l : Option Lease). cond (is_some l) (Some waiting) None) none

  due_handed : (deck : DeskDeck) → find is_free desk.decks ≡ Some deck → IsDue (deck_work (desk.leases + 1) deck) history
  due_handed deck free =
      let here = found_told (IsDeckTold history desk.version desk.leases) is_free desk.decks deck told.decks free in
      let none = no_lease deck.lease (and_parts (is_behind deck) (is_none deck.lease) here.1).1 in
      due_from deck deck.kept (since_job deck.identity history) (here.0.since ∙ without (is_some deck.kept) deck.lease deck.waiting none)

  -- a claim that means nothing hands out no deck
  hands-none : (call : Call) (reply : Reply) (job : DeckWork) → call ≡ Do Claim → reply ≡ DeckJob job → does call reply ≡ false → ⊥
  hands-none call reply job claims e none = let no : true ≡ false = sym (ap₂ does claims e) ∙ none in cc

  due_kind : (call : Call) (reply : Reply) (next : Desk) (job : DeckWork) → Kind desk call reply next → call ≡ Do Claim → reply ≡ DeckJob job → IsDue job history
  due_kind call reply next job (hands_deck deck free) claims e =
      let same : deck_work (desk.leases + 1) deck ≡ job = cc in
      subst (λ (j : DeckWork). IsDue j history) same (due_handed deck free)
  due_kind call reply next job (leaves_desk c r silent) claims e = absurd (hands-none c r job claims e (or_parts (accepts r) (does c r) silent).1)
  due_kind call reply next job (ends_link c r silent) claims e = absurd (hands-none c r job claims e (or_parts (accepts r) (does c r) silent).1)
  due_kind call reply next job (publishes_decks c r publication silent shown version decks) claims e = absurd (hands-none c r job claims e (or_parts (accepts r) (does c r) silent).1)
  due_kind call reply next job (edits_deck c r name who edits deck found applied is) claims e = absurd (let no : false ≡ true = sym (ap accepts e) ∙ is.told in cc)
  due_kind call reply next job _ claims e = absurd cc

  -- a job that a step hands out is due
  pub step_due : (next : Desk) (job : DeckWork) → Steps desk (Do Claim) (DeckJob job) next → IsDue job history
  step_due next job step = due_kind (Do Claim) (DeckJob job) next job (step-kind desk (Do Claim) (DeckJob job) next step) refl refl

-- the newest entry of a longer history
pub reverse_onto : (e : Entry Call Reply) (more before : History) → reverse more ++ e ∷ before ≡ reverse (e ∷ more) ++ before
reverse_onto e more before = sym (ap (λ (h : History). h ++ before) (reverse-append (e ∷ []) more) ∙ append_assoc (reverse more) (e ∷ []) before)

-- what is stated of a desk is stated of each later one
told_through : (before : History) (desk last : Desk) (history : History) → Leads Steps desk history last → IsDeskTold before desk → IsDeskTold (reverse history ++ before) last
told_through before desk last [] leads told = subst (λ d. IsDeskTold before d) leads told
told_through before desk last (e ∷ more) leads told =
    subst (λ (h : History). IsDeskTold h last) (reverse_onto e more before) (told_through (e ∷ before) leads.0 last more leads.2 (step_next before e.by desk told e.call e.reply leads.0 leads.1))

-- each deck job of a run is due by the history before it
pub jobs_are_due : (begun : ℕ) (history : History) (desk next : Desk) (job : DeckWork) → Runs begun history desk → Steps desk (Do Claim) (DeckJob job) next → IsDue job (reverse history)
jobs_are_due begun history desk next job runs step =
    let told = told_through [] (new_desk_at begun) desk history runs (desk_told_first begun) in
    step_due (reverse history) 0 desk (subst (λ (h : History). IsDeskTold h desk) (append-nil (reverse history)) told) next job step
