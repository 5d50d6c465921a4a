-- What the jobs of a deck carry is a part of its accepted edits.
use Rattle.std.{proofs.Common.{◌≡◌, ℕ, ◌==◌, Bool, true, false, cond, List, [], ◌∷◌, ◌++◌, reverse, Option, Some, None, refl, sym, ap, ◌∙◌, subst, append_assoc, append-nil, eqb-true}, specs.Prelude.⊤}
use Rattle.turn_office.specs.Histories.{Leads}
use Rattle.desk_core.{specs.Joins.Edits.Edit, specs.Desks.{Desk, new_desk_at}, specs.Joins.Calls.{Exactly, Since, EditDeck, Undo, Claim, DeliverDeck, GiveUp, Call, Make, Do, Reply, Changed, Carried, DeckJob, Cleared, Refused, Foreign, Start, FromRecord, FromCards}, specs.Carrying.edits_of, specs.Steps.Steps, specs.Runs.{History, Runs}, specs.Jobs.{identity_of, deck_of_lease, Effect, HandsOut, Loses, Accepts, Leaves, effect_if, effect_on, after_effect, since_job, IsDueFrom, accepted_by, handed_by, accepted_edits, handed_edits, IsPartOf}, proofs.JobsTold.{IsDeskTold, desk_told_first}, proofs.JobsOnce.{step_next, step_due, reverse_onto}, proofs.Parts.{part_nothing, part_itself, part_append, part_less}}

-- the edits that a deck's record lacks, if it has one
abbrev lacking : Option (List Edit) → List Edit
lacking None = []
lacking (Some edits) = edits

-- what is handed out is what the record lacks
abbrev Fits : Effect → Option (List Edit) → Type 0
Fits (HandsOut edits) since = edits ≡ lacking since
Fits _ since = ⊤

-- what was carried and what the record lacks is a part of what was accepted
abbrev IsCarried : ℕ → History → Type 0
IsCarried deck history = IsPartOf (accepted_edits deck history) (handed_edits deck history ++ lacking (since_job deck history))

-- with an effect more
carried_next : (accepted handed : List Edit) (since : Option (List Edit)) (effect : Effect) → Fits effect since → IsPartOf accepted (handed ++ lacking since) →
    IsPartOf (accepted ++ accepted_by effect) ((handed ++ handed_by effect) ++ lacking (after_effect effect since))
carried_next accepted handed since (HandsOut edits) fits part = rw (append-nil accepted, append-nil (handed ++ edits), fits) part
carried_next accepted handed since Loses fits part = rw (append-nil accepted, append-nil handed, append-nil handed) (part_less accepted handed (lacking since) part)
carried_next accepted handed None (Accepts edits) fits part = part_append accepted (handed ++ []) edits [] part (part_nothing edits)
carried_next accepted handed (Some before) (Accepts edits) fits part = rw (append-nil handed, ← (append_assoc handed before edits)) (part_append accepted (handed ++ before) edits edits part (part_itself edits))
carried_next accepted handed since Leaves fits part = rw (append-nil accepted, append-nil handed) part

-- an effect that hands nothing out, on the deck that is meant
fits_if : (deck : ℕ) (other : Option ℕ) (effect : Effect) (since : Option (List Edit)) → Fits effect since → Fits (effect_if deck other effect) since
fits_if deck None effect since fits = tt
fits_if deck (Some other) effect since fits = fits_either (other == deck)
  where
    fits_either : (test : Bool) → Fits (cond test effect Leaves) since
    fits_either true = fits
    fits_either false = tt

-- a job that is due hands out what the record lacks
fits_due : (start : Start) (edits : List Edit) (since : Option (List Edit)) → IsDueFrom start edits since → edits ≡ lacking since
fits_due (FromRecord kept) edits since due = ap lacking (sym due)
fits_due (FromCards cards) edits since due = due.1 ∙ ap lacking (sym due.0)

fits_job : (deck other : ℕ) (edits : List Edit) (history : History) → edits ≡ lacking (since_job other history) → (test : Bool) → (other == deck) ≡ test → Fits (cond test (HandsOut edits) Leaves) (since_job deck history)
fits_job deck other edits history fits true same = fits ∙ ap (λ (d : ℕ). lacking (since_job d history)) (eqb-true other deck same)
fits_job deck other edits history fits false same = tt

module _ (history : History) (by : ℕ) (desk : Desk) (told : IsDeskTold history desk) (next : Desk) (deck : ℕ) where
  -- each step hands out what the record lacks, or nothing
  step_fits : (call : Call) (reply : Reply) → Steps desk call reply next → Fits (effect_on deck history call reply) (since_job deck history)
  step_fits (Make who (EditDeck name (Exactly seen) edits)) (Changed version) step = fits_if deck (identity_of name history) (Accepts (edits_of edits)) (since_job deck history) tt
  step_fits (Make who (EditDeck name (Since seen) edits)) (Carried version before made) step = fits_if deck (identity_of name history) (Accepts made) (since_job deck history) tt
  step_fits (Make who (Undo name of_version)) (Carried version before edits) step = fits_if deck (identity_of name history) (Accepts edits) (since_job deck history) tt
  step_fits (Do Claim) (DeckJob job) step = fits_job deck job.deck job.edits history (fits_due job.start job.edits (since_job job.deck history) (step_due history by desk told next job step)) (job.deck == deck) refl
  step_fits (Do (DeliverDeck done)) (Refused Foreign) step = fits_if deck (deck_of_lease done.lease history) Loses (since_job deck history) tt
  step_fits (Do (GiveUp lease)) Cleared step = fits_if deck (deck_of_lease lease history) Loses (since_job deck history) tt
  step_fits _ _ step = tt

carried_through : (deck : ℕ) (before : History) (desk last : Desk) (history : History) → Leads Steps desk history last → IsDeskTold before desk → IsCarried deck before → IsCarried deck (reverse history ++ before)
carried_through deck before desk last [] leads told carried = carried
carried_through deck before desk last (e ∷ more) leads told carried =
    subst (IsCarried deck) (reverse_onto e more before)
    (carried_through deck (e ∷ before) leads.0 last more leads.2 (step_next before e.by desk told e.call e.reply leads.0 leads.1)
    (carried_next (accepted_edits deck before) (handed_edits deck before) (since_job deck before) (effect_on deck before e.call e.reply) (step_fits before e.by desk told leads.0 deck e.call e.reply leads.1) carried))

-- what a deck's jobs carried is a part of what was accepted
pub edits_are_once : (begun : ℕ) (history : History) (desk : Desk) (deck : ℕ) → Runs begun history desk → IsPartOf (accepted_edits deck (reverse history)) (handed_edits deck (reverse history))
edits_are_once begun history desk deck runs =
    let carried = carried_through deck [] (new_desk_at begun) desk history runs (desk_told_first begun) tt in
    part_less (accepted_edits deck (reverse history)) (handed_edits deck (reverse history)) (lacking (since_job deck (reverse history))) (subst (IsCarried deck) (append-nil (reverse history)) carried)
