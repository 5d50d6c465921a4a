-- A history that goes on: by one entry, and past what seats have seen.
use Rattle.std.proofs.{Common.{◌≡◌, ◌≢◌, ℕ, ◌<◌, ◌==◌, Bool, cond, List, [], ◌∷◌, ◌++◌, length, sym, refl, ap, ◌∙◌, subst, arith, ne_eqb, length-append}, lemmas.List.{append-nil, append_assoc}, lemmas.List.Elements.{All-push, filter-append}}
use Rattle.turn_office.specs.{declared.history.Entry.Entry, Histories.{entry, entries_by, IsOfSeats, Continues, Leads}}

-- what is added behind a list that stays as it is, is nothing
pub nothing_more : {X : Type 0} (xs ys : List X) → xs ++ ys ≡ xs → ys ≡ []
nothing_more xs [] same = refl
nothing_more xs (y ∷ ys) same = absurd (let long = ap length same in omega (arith, length-append xs (y ∷ ys)))

module _ {C R : Type 0} where
  -- a list begins itself
  pub continues_here : (number : ℕ) (log : List (Entry C R)) → Continues number log log
  continues_here number log = record { begins = ([], append-nil log); silent = refl }

  -- an entry of another seat is none of this seat's
  pub silent_after : (number other : ℕ) (call : C) (reply : R) (log : List (Entry C R)) → other ≢ number → entries_by number (log ++ entry other call reply ∷ []) ≡ entries_by number log
  silent_after number other call reply log apart = filter-append (λ (e : Entry C R). e.by == number) log (entry other call reply ∷ []) ∙ (ap (λ (b : Bool). entries_by number log ++ cond b (entry other call reply ∷ []) []) (ne_eqb other number apart) ∙ append-nil (entries_by number log))

  -- an entry of another seat goes on with what a seat has seen
  pub continues_after : (number other : ℕ) (call : C) (reply : R) (seen log : List (Entry C R)) → other ≢ number → Continues number seen log → Continues number seen (log ++ entry other call reply ∷ [])
  continues_after number other call reply seen log apart so = record {
    begins = (so.begins.0 ++ entry other call reply ∷ [], sym (append_assoc seen so.begins.0 (entry other call reply ∷ [])) ∙ ap (λ (l : List (Entry C R)). l ++ entry other call reply ∷ []) so.begins.1);
    silent = silent_after number other call reply log apart ∙ so.silent;
  }

  -- of what goes on past the history that a seat has seen nothing is its own
  pub silent_between : (number : ℕ) (seen between log : List (Entry C R)) → seen ++ between ≡ log → entries_by number log ≡ entries_by number seen → entries_by number between ≡ []
  silent_between number seen between log all silent = nothing_more (entries_by number seen) (entries_by number between) (sym (filter-append (λ (e : Entry C R). e.by == number) seen between) ∙ (ap (entries_by number) all ∙ silent))

  -- the seats of a history with one more entry
  pub of_seats_after : (seats : ℕ) (log : List (Entry C R)) (number : ℕ) (call : C) (reply : R) → IsOfSeats seats log → number < seats → IsOfSeats seats (log ++ entry number call reply ∷ [])
  of_seats_after seats log number call reply all less = All-push (λ (e : Entry C R). e.by < seats) log (entry number call reply) all less

-- where one more step is made, one more entry leads to the state after it
pub leads_after : {T C R : Type 0} (allowed : T → C → R → T → Type 0) (first last next : T) (log : List (Entry C R)) (number : ℕ) (call : C) (reply : R) → Leads allowed first log last → allowed last call reply next → Leads allowed first (log ++ entry number call reply ∷ []) next
leads_after allowed first last next [] number call reply leads step = (next, subst (λ t. allowed t call reply next) (sym leads) step, refl)
leads_after allowed first last next (e ∷ es) number call reply leads step = (leads.0, leads.1, leads_after allowed leads.0 last next es number call reply leads.2 step)
