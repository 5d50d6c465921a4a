-- The published version never falls.
use Rattle.std.proofs.Common.{◌≡◌, ℕ, List, [], ◌∷◌, Some, ◌∙◌, subst, arith}
use Rattle.turn_office.specs.Histories.{Leads}
use Rattle.desk_core.{specs.Changes.Change, specs.Desks.{Desk, Publication}, specs.Joins.Calls.{Call, Reply}, specs.Steps.Steps, specs.Runs.{History, Runs, changes_in, IsPublishedFrom}, proofs.Outcomes.{Outcome, by_staying, by_changing, by_publishing}, proofs.Publishing.step_comes, proofs.Told.IsTold, proofs.EveryRun.{NextTold, next_told, told_last}}

-- the same publication as before
same_publication : (version : ℕ) (desk next : Desk) → next.publication ≡ desk.publication → IsPublishedFrom version desk → IsPublishedFrom version next
same_publication version desk next same from = record { publication = from.publication; shown = same ∙ from.shown; not_before = from.not_before }

next_from : (version begun : ℕ) (changes : List Change) (desk next : Desk) (call : Call) (reply : Reply) → IsTold begun changes desk → Outcome desk call reply next → IsPublishedFrom version desk → IsPublishedFrom version next
next_from version begun changes desk next call reply told (by_staying by) from = same_publication version desk next by.unchanged.publication from
next_from version begun changes desk next call reply told (by_changing by) from = same_publication version desk next by.publication from
next_from version begun changes desk next call reply told (by_publishing by) from =
    let reached = (told.published from.publication from.shown).0 in
    let not_before = from.not_before in
    let counted = told.version in
    let now = by.version_of in
    record { publication = by.publication; shown = by.shown; not_before = omega arith }

-- through any history from a desk of which this is stated
from_through : (version begun : ℕ) (changes : List Change) (desk last : Desk) (history : History) → Leads Steps desk history last → IsTold begun changes desk → IsPublishedFrom version desk → IsPublishedFrom version last
from_through version begun changes desk last [] leads told from = subst (λ d. IsPublishedFrom version d) leads from
from_through version begun changes desk last (entry ∷ more) leads told from =
    let comes = step_comes desk entry.call entry.reply leads.0 leads.1 in
    let now : NextTold begun changes entry more leads.0 = next_told begun changes desk leads.0 entry more told comes in
    from_through version begun now.changes_now leads.0 last more leads.2 now.told (next_from version begun changes desk leads.0 entry.call entry.reply told comes from)

-- what was published once, or a later version, is published ever after
pub never_falls : (begun : ℕ) (history more : History) (desk last : Desk) (publication : Publication) → Runs begun history desk → desk.publication ≡ Some publication → Leads Steps desk more last → IsPublishedFrom publication.version last
never_falls begun history more desk last publication runs shown leads =
    from_through publication.version begun (changes_in history) desk last more leads (told_last begun history desk runs) (record { publication = publication; shown = shown; not_before = omega arith })
