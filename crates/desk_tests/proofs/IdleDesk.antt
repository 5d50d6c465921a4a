-- A desk that settling leaves idle.
use Rattle.std.proofs.{Common.{◌≡◌, ℕ, ◌-◌, length, arith, List, [], ◌∷◌, ◌++◌, take, Option, Some, None, option_map, sym, ap, ◌∙◌, subst}, Math.Seq.take-length}
use Rattle.definitions.specs.Build.{listing_of, image_of}
use Rattle.turn_office.specs.Histories.{Leads, entry}
use Rattle.desk_core.{specs.Desks.{Desk, Publication, decks_of}, specs.Changes.{Change, decks_after}, specs.Steps.Steps, specs.Runs.{History, Runs, changes_in}, proofs.Outcomes.{Outcome, by_staying, by_changing, by_publishing}, proofs.Publishing.step_comes, proofs.Told.IsTold, proofs.EveryRun.{told_last, told_through}, proofs.IdleClaims.idle_is_published}
use Rattle.desk_core.specs.declared.replies.Reply.TheVariants as reply
use Rattle.deck_workers.specs.{Joins.Language.{Claim, Call, Do, Reply, Refusal}, Rounds.{Round, Resting, Working, entries_of, entries_in}}
use Rattle.desk_tests.specs.{Settling.{Settles, used_up, ended, end_of, end_of_claim, refusal_in, IsIdleAt, IsSettled}, declared.settling.Settled.Settled, declared.settling.Settled.TheVariants.{Idle, Refused, Waiting, Turns}}

-- a publication of the desk's own version is of its present decks
present-decks : (begun : ℕ) (changes : List Change) (desk : Desk) (publication : Publication) → IsTold begun changes desk → desk.publication ≡ Some publication → publication.version ≡ desk.version → publication.decks ≡ decks_of desk
present-decks begun changes desk publication told shown same =
    let counted = told.version in
    let all : publication.version - begun ≡ length changes = omega arith in
    (told.published publication shown).2 ∙ (ap decks_after (ap (λ (n : ℕ). take n changes) all ∙ take-length changes) ∙ sym told.decks)

-- a claim that is answered Idle leaves the publication
publication-stays : (desk next : Desk) (version : ℕ) → Outcome desk (Do Claim) (reply.Idle version) next → (next.version ≡ desk.version) × (next.publication ≡ desk.publication)
publication-stays desk next version (by_staying by) = (by.unchanged.version, by.unchanged.publication)
publication-stays desk next version (by_changing by) = let told = by.told in cc
publication-stays desk next version (by_publishing by) = let stored = by.stored in cc

-- a desk after steps of which the last is a claim that is answered Idle
pub idle-at : (version : ℕ) (first desk last : Desk) (steps : History) → Steps desk (Do Claim) (reply.Idle version) last → Leads Steps first steps last → IsIdleAt version first last
idle-at version first desk last steps step leads =
    let told = idle_is_published desk last version step in
    let stays = publication-stays desk last version (step_comes desk (Do Claim) (reply.Idle version) last step) in
    let publication = told.1.publication in
    let shown : last.publication ≡ Some publication = stays.1 ∙ told.1.shown in
    let version_is : last.version ≡ version = stays.0 ∙ sym told.0 in
    let decks : (begun : ℕ) (history : History) → Runs begun history first → publication.decks ≡ decks_of last =
    λ begun history runs. present-decks begun (changes_in history ++ changes_in steps) last publication (told_through begun (changes_in history) first last steps leads (told_last begun history first runs)) shown (told.1.version_is ∙ sym version_is) in
    record {
      version_is = version_is;
      publication = publication;
      shown = shown;
      published_at = told.1.version_is;
      decks_are = decks;
      listing_is = λ begun history runs. ap listing_of (decks begun history runs);
      image_is = λ begun history runs. ap image_of (decks begun history runs);
    }

-- the last of steps
last-step : (first last : Desk) (before : History) (number : ℕ) (call : Call) (answered : Reply) → Leads Steps first (before ++ entry number call answered ∷ []) last → (desk : Desk) × Steps desk call answered last
last-step first last [] number call answered leads = (first, subst (λ (desk : Desk). Steps first call answered desk) leads.2 leads.1)
last-step first last (one ∷ before) number call answered leads = last-step leads.0 last before number call answered leads.2

-- a claim that ends settling idle is answered Idle
idle-claimed : (claimed : Reply) (version : ℕ) → end_of_claim claimed ≡ Some (Idle version) → claimed ≡ reply.Idle version
idle-claimed (reply.Changed v) version e = cc
idle-claimed (reply.Carried v seen edits) version e = cc
idle-claimed (reply.Unkept v) version e = cc
idle-claimed (reply.CardsAre v cards) version e = cc
idle-claimed (reply.ChangesAre v edits) version e = cc
idle-claimed (reply.CardsBefore v cards backs) version e = cc
idle-claimed (reply.Shown publication) version e = cc
idle-claimed (reply.StatusIs v published rows) version e = cc
idle-claimed (reply.DeckJob work) version e = cc
idle-claimed (reply.LinkJob work) version e = cc
idle-claimed (reply.Idle v) version e = cc
idle-claimed reply.AllOut version e = cc
idle-claimed reply.Stored version e = cc
idle-claimed (reply.Published before) version e = cc
idle-claimed reply.Cleared version e = cc
idle-claimed (reply.Refused refusal) version e = cc

-- a job does not end settling idle
not-idle : (found : Option Refusal) (version : ℕ) → option_map Refused found ≡ Some (Idle version) → ⊥
not-idle None version e = cc
not-idle (Some refusal) version e = cc

-- a round that ends settling idle
idle-by : (version : ℕ) (first last : Desk) (before : History) (round : Round) → end_of round ≡ Some (Idle version) → Leads Steps first (before ++ entries_of 0 round) last → IsIdleAt version first last
idle-by version first last before (Resting claimed) end leads =
    let there = last-step first last before 0 (Do Claim) claimed leads in
    idle-at version first there.0 last _ (subst (λ (told : Reply). Steps there.0 (Do Claim) told last) (idle-claimed claimed version end) there.1) leads
idle-by version first last before (Working claimed result answered) end leads = absurd (not-idle (refusal_in answered) version end)

-- a round that ends settling
settled-by : (settled : Settled) (first last : Desk) (before : History) (round : Round) → end_of round ≡ Some settled → Leads Steps first (before ++ entries_of 0 round) last → IsSettled first settled last
settled-by (Idle version) first last before round end leads = idle-by version first last before round end leads
settled-by (Refused refusal) first last before round end leads = tt
settled-by Waiting first last before round end leads = tt
settled-by Turns first last before round end leads = tt

-- settling
pub settles-settled : (turns : ℕ) (first last : Desk) (settled : Settled) → Settles turns first settled last → IsSettled first settled last
settles-settled turns first last settled (used_up rounds go_on count is leads) = subst (λ (s : Settled). IsSettled first s last) (sym is) tt
settles-settled turns first last settled (ended rounds round go_on less is_round end leads) = settled-by settled first last (entries_in 0 rounds) round end leads
