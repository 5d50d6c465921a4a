-- Entries that mean nothing for records, and steps with such an entry.
use Rattle.std.{proofs.Common.{◌≡◌, ℕ, ◌<◌, ◌≤◌, false, ◌∷◌, Some, None, refl, ap, ◌∙◌, arith}, specs.List.AllByRecursion}
use Rattle.turn_office.specs.{declared.history.Entry.Entry, Histories.entry}
use Rattle.desk_core.{specs.Desks.{Desk, DeskDeck}, specs.Joins.Calls.{Exactly, Since, AddDeck, PutDeck, EditDeck, Undo, Claim, DeliverDeck, GiveUp, Call, Make, Do, Reply, Changed, Carried, DeckJob, LinkJob, Cleared, Refused, Foreign}, specs.Runs.History, specs.Jobs.{Effect, Leaves, effect_on, after_effect, since_job}, proofs.JobsTold.{since_of, IsDeckTold, IsUnreached, IsDeskTold, IsLeaseTold, AddsNone, LeasesNone, meant_still, lease_told_still, deck_told_next}, proofs.StepKinds.means, proofs.TellingDecks.all_weaker}

-- an entry that adds no deck, gives no lease that was given before, and has these effects on decks
pub record Touches (history : History) (leases : ℕ) (effect : ℕ → Effect) (e : Entry Call Reply) : Type 0 where
  pub adds_none : AddsNone e.call e.reply
  pub leases_none : LeasesNone e leases
  pub effects : (deck : ℕ) → effect_on deck history e.call e.reply ≡ effect deck

-- and none on any
abbrev pub IsQuiet : History → ℕ → Entry Call Reply → Type 0
IsQuiet history leases e = Touches history leases (λ deck. Leaves) e

-- a call with its reply that means nothing
pub quiet : (history : History) (leases by : ℕ) (call : Call) (reply : Reply) → means call reply ≡ false → IsQuiet history leases (entry by call reply)
quiet history leases by (Make who (AddDeck deck)) (Changed version) silent = cc
quiet history leases by (Make who (PutDeck deck seen)) (Changed version) silent = cc
quiet history leases by (Make who (EditDeck name (Exactly seen) edits)) (Changed version) silent = cc
quiet history leases by (Make who (EditDeck name (Since seen) edits)) (Carried version before made) silent = cc
quiet history leases by (Make who (Undo name of_version)) (Carried version before made) silent = cc
quiet history leases by (Do Claim) (DeckJob job) silent = cc
quiet history leases by (Do Claim) (LinkJob job) silent = cc
quiet history leases by (Do (DeliverDeck done)) (Refused Foreign) silent = cc
quiet history leases by (Do (GiveUp number)) Cleared silent = cc
quiet history leases by _ _ silent = record { adds_none = record { identities = λ n. refl; names = λ i. refl }; leases_none = λ number few. refl; effects = λ d. refl }

-- a deck that stays as it is, at a version and a number of leases that may have grown
deck_told_quiet : (history : History) (e : Entry Call Reply) (version after leases more : ℕ) → IsQuiet history leases e → version ≤ after → leases ≤ more →
    (deck : DeskDeck) → IsDeckTold history version leases deck → IsDeckTold (e ∷ history) after more deck
deck_told_quiet history e version after leases more silent grown given deck told =
    deck_told_next history e version after leases more deck deck told refl refl (meant_still history e deck.name deck.identity silent.adds_none told.meant) grown
    (ap (λ (f : Effect). after_effect f (since_of deck)) (silent.effects deck.identity))
    (lease_told_still history e leases more (Some deck.identity) deck.lease silent.leases_none given told.leased)

-- what is not reached stays so
unreached_quiet : (history : History) (e : Entry Call Reply) (version after leases : ℕ) → IsQuiet history leases e → version ≤ after → IsUnreached history version → IsUnreached (e ∷ history) after
unreached_quiet history e version after leases silent grown unreached identity beyond =
    let before : version < identity = omega arith in
    ap (λ (f : Effect). after_effect f (since_job identity history)) (silent.effects identity) ∙ unreached identity before

-- a step that leaves each deck as it is, or drops it
pub told_quiet : (history : History) (e : Entry Call Reply) (desk next : Desk) → IsQuiet history desk.leases e → IsDeskTold history desk → desk.version ≤ next.version → desk.leases ≤ next.leases →
    (AllByRecursion (IsDeckTold (e ∷ history) next.version next.leases) desk.decks → AllByRecursion (IsDeckTold (e ∷ history) next.version next.leases) next.decks) →
    (IsLeaseTold (e ∷ history) next.leases None desk.link → IsLeaseTold (e ∷ history) next.leases None next.link) → IsDeskTold (e ∷ history) next
told_quiet history e desk next silent told grown given decks link = record {
  decks = decks (all_weaker (IsDeckTold history desk.version desk.leases) (IsDeckTold (e ∷ history) next.version next.leases) (deck_told_quiet history e desk.version next.version desk.leases next.leases silent grown given) desk.decks told.decks);
  link = link (lease_told_still history e desk.leases next.leases None desk.link silent.leases_none given told.link);
  unreached = unreached_quiet history e desk.version next.version desk.leases silent grown told.unreached;
}
