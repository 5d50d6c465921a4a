-- What every run of a desk shows.
use Rattle.std.{proofs.Common.{◌≡◌, inl, inr, ℕ, true, false, List, [], ◌∷◌, ◌++◌, Option, Some, None, sym, ap, ◌∙◌, subst, arith, append_assoc, append-nil}, specs.List.cons_option}
use Rattle.turn_office.specs.{declared.history.Entry.Entry, Histories.Leads}
use Rattle.desk_core.{specs.Joins.Language.{listing_of, image_of}, specs.Changes.Change, specs.Desks.{Desk, Publication, new_desk_at}, specs.Joins.Calls.{Show, Call, Ask, Reply, Shown, Refused, Refusal, OutOfMemory}, specs.Reading.show_reply, specs.Steps.Steps, specs.Runs.{History, Runs, change_asked, accepts, change_in, changes_in, IsBuildOf, IsUnchanged, IsOfItsChanges}, proofs.Outcomes.{Outcome, by_staying, by_changing, by_publishing}, proofs.Publishing.step_comes, proofs.Told.{IsTold, told_first, told_still, told_change, told_publication}}

-- an entry whose reply accepts nothing made no change
silent_entry : (entry : Entry Call Reply) → accepts entry.reply ≡ false → change_in entry ≡ None
silent_entry entry silent = rw silent

-- an entry whose reply accepts made the change that was asked for
accepted_entry : (entry : Entry Call Reply) (change : Change) → change_asked entry.call entry.reply ≡ Some change → accepts entry.reply ≡ true → change_in entry ≡ Some change
accepted_entry entry change asked told = rw told asked

-- the changes before an entry, with those of the entry and of what follows
same_when_silent : (changes : List Change) (entry : Entry Call Reply) (more : History) → change_in entry ≡ None → changes ++ changes_in (entry ∷ more) ≡ changes ++ changes_in more
same_when_silent changes entry more none = ap (λ (o : Option Change). changes ++ cons_option o (changes_in more)) none

more_when_accepted : (changes : List Change) (entry : Entry Call Reply) (more : History) (change : Change) → change_in entry ≡ Some change → changes ++ changes_in (entry ∷ more) ≡ (changes ++ change ∷ []) ++ changes_in more
more_when_accepted changes entry more change some = ap (λ (o : Option Change). changes ++ cons_option o (changes_in more)) some ∙ sym (append_assoc changes (change ∷ []) (changes_in more))

-- a step with the changes before it and those that follow
pub record NextTold (begun : ℕ) (changes : List Change) (entry : Entry Call Reply) (more : History) (next : Desk) : Type 0 where
  pub changes_now : List Change
  pub told : IsTold begun changes_now next
  pub same : changes ++ changes_in (entry ∷ more) ≡ changes_now ++ changes_in more

pub next_told : (begun : ℕ) (changes : List Change) (desk next : Desk) (entry : Entry Call Reply) (more : History) → IsTold begun changes desk → Outcome desk entry.call entry.reply next → NextTold begun changes entry more next
next_told begun changes desk next entry more told (by_staying by) = record { changes_now = changes; told = told_still begun changes desk next told by.unchanged; same = same_when_silent changes entry more (silent_entry entry by.silent) }
next_told begun changes desk next entry more told (by_changing by) = record {
  changes_now = changes ++ by.change ∷ [];
  told = told_change begun changes desk next entry.call entry.reply told by;
  same = more_when_accepted changes entry more by.change (accepted_entry entry by.change by.asked by.told);
}
next_told begun changes desk next entry more told (by_publishing by) = record {
  changes_now = changes;
  told = told_publication begun changes desk next entry.call entry.reply told by;
  same = same_when_silent changes entry more (silent_entry entry by.silent);
}

-- what is stated of a desk is stated of each later one
pub told_through : (begun : ℕ) (changes : List Change) (desk last : Desk) (history : History) → Leads Steps desk history last → IsTold begun changes desk → IsTold begun (changes ++ changes_in history) last
told_through begun changes desk last [] leads told = rw (append-nil changes) (subst (λ d. IsTold begun changes d) leads told)
told_through begun changes desk last (entry ∷ more) leads told =
    let now : NextTold begun changes entry more leads.0 = next_told begun changes desk leads.0 entry more told (step_comes desk entry.call entry.reply leads.0 leads.1) in
    subst (λ cs. IsTold begun cs last) (sym now.same) (told_through begun now.changes_now leads.0 last more leads.2 now.told)

-- what is stated of the last desk of a run
pub told_last : (begun : ℕ) (history : History) (desk : Desk) → Runs begun history desk → IsTold begun (changes_in history) desk
told_last begun history desk runs = told_through begun [] (new_desk_at begun) desk history runs (told_first begun)

-- version and cards are those of the accepted changes
pub is_of_its_changes : (begun : ℕ) (history : History) (desk : Desk) → Runs begun history desk → IsOfItsChanges begun history desk
is_of_its_changes begun history desk runs = let told = told_last begun history desk runs in record { version = told.version; decks = told.decks }

-- what is shown is the publication
shown_is : (publication : Option Publication) (shown : Publication) → Shown shown ≡ show_reply publication → publication ≡ Some shown
shown_is None shown e = cc
shown_is (Some publication) shown e = cc

shown_by : (desk next : Desk) (shown : Publication) → Steps desk (Ask Show) (Shown shown) next → desk.publication ≡ Some shown
shown_by desk next shown (inl given) = shown_is desk.publication shown given.0
shown_by desk next shown (inr starved) = let e : Shown shown ≡ Refused OutOfMemory = starved.1 in cc

-- what is shown is the build of the decks after as many changes as its version says
pub shown_is_build : (begun : ℕ) (history : History) (desk next : Desk) (publication : Publication) → Runs begun history desk → Steps desk (Ask Show) (Shown publication) next → IsBuildOf begun history desk publication
shown_is_build begun history desk next publication runs step =
    let told = told_last begun history desk runs in
    let published = told.published publication (shown_by desk next publication step) in
    let counted = told.version in
    let reached = published.0 in
    let decks = published.2 in
    record { reached = omega arith; not_before = published.1; decks = decks; listing = ap listing_of decks; image = ap image_of decks }

-- a refusal changes nothing that is seen
refused_comes : (desk next : Desk) (call : Call) (refusal : Refusal) → Outcome desk call (Refused refusal) next → IsUnchanged desk next
refused_comes desk next call refusal (by_staying by) = by.unchanged
refused_comes desk next call refusal (by_changing by) = let e = by.told in cc
refused_comes desk next call refusal (by_publishing by) = let e = by.stored in cc

pub refused_changes_nothing : (desk next : Desk) (call : Call) (refusal : Refusal) → Steps desk call (Refused refusal) next → IsUnchanged desk next
refused_changes_nothing desk next call refusal step = refused_comes desk next call refusal (step_comes desk call (Refused refusal) next step)
