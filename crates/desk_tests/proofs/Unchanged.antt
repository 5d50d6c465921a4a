-- Claims, deliveries and leases given up change no card and no version.
use Rattle.std.proofs.Common.{◌≡◌, ℕ, List, [], ◌∷◌, ◌++◌, None, refl, sym, ap, ◌∙◌, subst}
use Rattle.turn_office.specs.Histories.{Leads}
use Rattle.desk_core.{specs.Desks.{Desk, decks_of}, specs.Steps.Steps, specs.Runs.{History, change_asked}, proofs.Outcomes.{Outcome, by_staying, by_changing, by_publishing}, proofs.Publishing.step_comes}
use Rattle.deck_workers.specs.{Joins.Language.{Claim, Call, Do, Reply}, declared.made.Made.Made, Rounds.{Round, Resting, Working, call_of, entries_of, entries_in}}
use Rattle.deck_workers.specs.declared.made.Made.TheVariants as made
use Rattle.desk_tests.{specs.Settling.{Settles, used_up, ended}, specs.declared.settling.Settled.Settled, proofs.Turns.entries-more}

-- version and decks are the same
pub record Keeps (first last : Desk) : Type 0 where
  pub version : last.version ≡ first.version
  pub decks : decks_of last ≡ decks_of first

keeps-trans : (first middle last : Desk) → Keeps first middle → Keeps middle last → Keeps first last
keeps-trans first middle last before behind = record { version = behind.version ∙ before.version; decks = behind.decks ∙ before.decks }

-- a call that asks for no change
keeps-outcome : (desk next : Desk) (call : Call) (reply : Reply) → change_asked call reply ≡ None → Outcome desk call reply next → Keeps desk next
keeps-outcome desk next call reply none (by_staying by) = record { version = by.unchanged.version; decks = by.unchanged.decks }
keeps-outcome desk next call reply none (by_changing by) = let asked = by.asked in cc
keeps-outcome desk next call reply none (by_publishing by) = record { version = by.version; decks = by.decks }

keeps-step : (desk next : Desk) (call : Call) (reply : Reply) → change_asked call reply ≡ None → Steps desk call reply next → Keeps desk next
keeps-step desk next call reply none step = keeps-outcome desk next call reply none (step_comes desk call reply next step)

-- a call that ends a job asks for none
ends-silently : (result : Made) (reply : Reply) → change_asked (call_of result) reply ≡ None
ends-silently (made.Deck done) reply = refl
ends-silently (made.Link lease publication) reply = refl
ends-silently (made.Lost lease fault) reply = refl

-- a round, and what comes behind it
keeps-round : (number : ℕ) (round : Round) (behind : History) (first last : Desk) → Leads Steps first (entries_of number round ++ behind) last →
    ((middle : Desk) → Leads Steps middle behind last → Keeps middle last) → Keeps first last
keeps-round number (Resting claimed) behind first last leads rest = keeps-trans first leads.0 last (keeps-step first leads.0 (Do Claim) claimed refl leads.1) (rest leads.0 leads.2)
keeps-round number (Working claimed result answered) behind first last leads rest =
    let next = leads.2 in
    keeps-trans first leads.0 last (keeps-step first leads.0 (Do Claim) claimed refl leads.1)
    (keeps-trans leads.0 next.0 last (keeps-step leads.0 next.0 (call_of result) answered (ends-silently result answered) next.1) (rest next.0 next.2))

-- rounds
pub keeps-rounds : (number : ℕ) (rounds : List Round) (first last : Desk) → Leads Steps first (entries_in number rounds) last → Keeps first last
keeps-rounds number [] first last leads = record { version = ap (λ (d : Desk). d.version) (sym leads); decks = ap decks_of (sym leads) }
keeps-rounds number (round ∷ rounds) first last leads = keeps-round number round (entries_in number rounds) first last leads (λ middle more. keeps-rounds number rounds middle last more)

-- settling
pub settles-keep : (turns : ℕ) (first last : Desk) (settled : Settled) → Settles turns first settled last → Keeps first last
settles-keep turns first last settled (used_up rounds go_on count is leads) = keeps-rounds 0 rounds first last leads
settles-keep turns first last settled (ended rounds round go_on less is_round end leads) =
    keeps-rounds 0 (rounds ++ round ∷ []) first last (subst (λ (entries : History). Leads Steps first entries last) (entries-more 0 rounds round) leads)
