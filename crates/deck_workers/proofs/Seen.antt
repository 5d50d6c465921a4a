-- What a seat has seen after its calls.
use Rattle.std.proofs.{Common.{◌≡◌, ℕ, ◌==◌, Bool, cond, [], ◌∷◌, ◌++◌, Some, refl, sym, ap, ◌∙◌, subst, append_assoc, append-nil, eq-eqb}, lemmas.List.flat_map_more, lemmas.List.Elements.{All-nil, All-push, filter-append}}
use Rattle.turn_office.specs.{declared.history.Entry.Entry, Histories.{Answers, entry, entries_by}}
use Rattle.desk_core.specs.{declared.calls.Call.Call, declared.calls.Call.TheVariants.Do, declared.calls.Work.TheVariants.Claim, declared.replies.Reply.Reply, Desks.Desk, Steps.Steps, Runs.History}
use Rattle.deck_workers.specs.{declared.jobs.Job.Job, declared.made.Made.Made, Jobs.{MayMake, is_result}, Rounds.{Working, IsRound, job_in, call_of, published_in, entries_of, entries_in}, Joins.Rests.{round_with_job, told_as, went_well}, Subscribers.{HearsAfter, unheard, heard}, Working.{Calls, MakesRound, Works}}

-- an entry of a seat is its own
own-entry : (number : ℕ) (call : Call) (reply : Reply) → entries_by number (entry number call reply ∷ []) ≡ entry number call reply ∷ []
own-entry number call reply = ap (λ (own : Bool). cond own (entry number call reply ∷ []) []) (eq-eqb number number refl)

-- one call
pub one-call : (seats : ℕ) (first : Desk) (number : ℕ) (call : Call) (reply : Reply) (seen now : History) → Answers Steps seats first number call reply seen now → Calls number (entry number call reply ∷ []) seen now
one-call seats first number call reply seen now answers =
    let between = answers.between in
    let made : History = entry number call reply ∷ [] in
    let by = λ (log : History). entries_by number log in
    record {
      begins = (between ++ made, sym (append_assoc seen between made) ∙ sym answers.ends);
      calls = ap by answers.ends
          ∙ (filter-append (λ (e : Entry Call Reply). e.by == number) (seen ++ between) made
          ∙ (ap (λ (log : History). log ++ by made) (filter-append (λ (e : Entry Call Reply). e.by == number) seen between ∙ (ap (λ (log : History). by seen ++ log) answers.silent ∙ append-nil (by seen)))
          ∙ ap (λ (log : History). by seen ++ log) (own-entry number call reply)));
    }

-- calls, and more calls
pub more-calls : (number : ℕ) (before behind seen middle now : History) → Calls number before seen middle → Calls number behind middle now → Calls number (before ++ behind) seen now
more-calls number before behind seen middle now earlier later = record {
  begins = (
    earlier.begins.0 ++ later.begins.0,
    sym (append_assoc seen earlier.begins.0 later.begins.0) ∙ (ap (λ (log : History). log ++ later.begins.0) earlier.begins.1 ∙ later.begins.1),
  );
  calls = later.calls ∙ (ap (λ (log : History). log ++ behind) earlier.calls ∙ append_assoc (entries_by number seen) before behind);
}

module _ {S : Type 0} (hears : S → ℕ → S → Type 0) where
  -- the round of a claim that gave a job, and of what was made of it; and what it is shown as
  pub worked-round : (number other : ℕ) (claimed answered : Reply) (given : Job) (result : Made) (seen middle now : History) (old new : S) → other ≡ number → job_in claimed ≡ Some given → MayMake given result →
      Calls number (entry number (Do Claim) claimed ∷ []) seen middle → Calls other (entry other (call_of result) answered ∷ []) middle now → HearsAfter hears answered (published_in result) old new →
      (makes : MakesRound hears number seen now old new) × (told_as makes.round ≡ round_with_job (went_well (is_result result) answered))
  worked-round number other claimed answered given result seen middle now old new same is may earlier later hear = (
    record {
      round = Working claimed result answered;
      is_round = (given, is, may);
      made = more-calls number (entry number (Do Claim) claimed ∷ []) (entry number (call_of result) answered ∷ []) seen middle now earlier
          (subst (λ (n : ℕ). Calls n (entry n (call_of result) answered ∷ []) middle now) same later);
      heard = hear;
    },
    refl,
  )

  -- no calls yet
  pub no-calls : (number : ℕ) (seen : History) (first : S) → Works hears number seen seen first first
  no-calls number seen first = record {
    rounds = [];
    are_rounds = All-nil IsRound;
    made = record { begins = ([], append-nil seen); calls = sym (append-nil (entries_by number seen)) };
    heard = unheard;
  }

  -- one round more
  pub more-work : (number other : ℕ) (seen middle now : History) (first between last : S) → other ≡ number → Works hears number seen middle first between →
      MakesRound hears other middle now between last → Works hears number seen now first last
  more-work number other seen middle now first between last same works makes =
      let made = subst (λ (n : ℕ). Calls n (entries_of n makes.round) middle now) same makes.made in
      record {
        rounds = works.rounds ++ makes.round ∷ [];
        are_rounds = All-push IsRound works.rounds makes.round works.are_rounds makes.is_round;
        made = subst (λ (entries : History). Calls number entries seen now) (flat_map_more (entries_of number) [] works.rounds makes.round) (more-calls number (entries_in number works.rounds) (entries_of number makes.round) seen middle now works.made made);
        heard = heard works.rounds makes.round between last works.heard makes.heard;
      }
