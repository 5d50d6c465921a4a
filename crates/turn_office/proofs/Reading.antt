-- For whoever calls an office: what a call made true, and no step makes false, is true at each later call of the history.
use Rattle.std.proofs.Common.{List, [], ◌∷◌, ◌++◌, refl, subst}
use Rattle.turn_office.specs.{declared.history.Entry.Entry, Histories.Leads}

module _ {T C R : Type 0} (allowed : T → C → R → T → Type 0) where
  -- a history is cut anywhere, and some state is between
  pub leads_cut : (first last : T) (xs ys : List (Entry C R)) → Leads allowed first (xs ++ ys) last → (mid : T) × Leads allowed first xs mid × Leads allowed mid ys last
  leads_cut first last [] ys leads = (first, refl, leads)
  leads_cut first last (e ∷ es) ys leads = let more = leads_cut leads.0 last es ys leads.2 in (more.0, (leads.0, leads.1, more.1), more.2)

  -- the last entry of a history is a step
  pub last_step : (first last : T) (xs : List (Entry C R)) (e : Entry C R) → Leads allowed first (xs ++ e ∷ []) last → (mid : T) × Leads allowed first xs mid × allowed mid e.call e.reply last
  last_step first last xs e leads = let cut = leads_cut first last xs (e ∷ []) leads in (cut.0, cut.1, subst (λ s. allowed cut.0 e.call e.reply s) cut.2.2 cut.2.1)

  -- what each step keeps, a history keeps
  pub kept_through : (Holds : T → Type 0) → ((old new : T) (call : C) (reply : R) → allowed old call reply new → Holds old → Holds new) → (first last : T) (log : List (Entry C R)) → Leads allowed first log last → Holds first → Holds last
  kept_through Holds keeps first last [] leads now = subst Holds leads now
  kept_through Holds keeps first last (e ∷ es) leads now = kept_through Holds keeps leads.0 last es leads.2 (keeps first leads.0 e.call e.reply leads.1 now)

  -- what a call made true, and each step keeps, is true where a later call is made
  pub true_later : (Holds : T → Type 0) → ((old new : T) (call : C) (reply : R) → allowed old call reply new → Holds old → Holds new) → (first last : T) (xs between : List (Entry C R)) (made later : Entry C R)
      → ((old new : T) → allowed old made.call made.reply new → Holds new) → Leads allowed first (((xs ++ made ∷ []) ++ between) ++ later ∷ []) last → (mid : T) × Holds mid × allowed mid later.call later.reply last
  true_later Holds keeps first last xs between made later makes leads =
      let end = last_step first last ((xs ++ made ∷ []) ++ between) later leads in
      let cut = leads_cut first end.0 (xs ++ made ∷ []) between end.1 in
      let begin = last_step first cut.0 xs made cut.1 in
      (end.0, kept_through Holds keeps cut.0 end.0 between cut.2 (makes begin.0 cut.0 begin.2), end.2)
