-- The rule is kept where seats share their numbers out and take them in; a new office keeps it, and where all numbers are back, the object is.
use Rattle.std.{proofs.Common.{◌≡◌, ℕ, zero, suc, ◌+◌, ◌<◌, ◌≤◌, List, [], ◌∷◌, ◌++◌, length, replicate, set, sym, refl, ap, ◌∙◌, subst, ⊎_elim, arith, Option, sum_by, Some, length-append, append-nil}, proofs.lemmas.List.Sums.sum_by-append, proofs.lemmas.List.Elements.All-nil, proofs.lemmas.List.FromFn.length-map-range_with_len, specs.List.AllByRecursion}
use mathlib.Core.{Logic.dite, Option.{some, some-injective, some-ne-none}}
use native.Mathlib.Decide.{ℕ_discrete}
use lib.ListN.{get_elem?}
use Rattle.atomic_table.{specs.Table.{State, Splits, Joins, Final, Seen, opening}, proofs.Lists.{at_snoc, at_longer, set_else}}
use Rattle.turn_office.{specs.declared.history.Entry.Entry, specs.declared.views.View.View, specs.declared.views.Stage.TheVariants.Idle, specs.Histories.Continues, specs.Rule.{Kept, Fits, IsStage, NobodyServes, view, chair, nobody, rest_of, first_of, both_of, tickets_of, times, undealt, Ends}, proofs.Dealing.{once, new_fit}, proofs.Stages.{nobody_before, no_ticket}, proofs.Sums.{sum_set, sum_two, each_set, each_more}}

module _ {X : Type 0} where
  -- what holds of each element of two lists holds of each element of their join
  each_both : (P : X → Type 0) (xs ys : List X) → AllByRecursion P xs → AllByRecursion P ys → AllByRecursion P (xs ++ ys)
  each_both P [] ys h k = k
  each_both P (x ∷ xs) ys h k = (h.0, each_both P xs ys h.1 k)

  -- what holds of each element of a join holds of each element of its parts
  each_part : (P : X → Type 0) (xs ys : List X) → AllByRecursion P (xs ++ ys) → AllByRecursion P xs × AllByRecursion P ys
  each_part P [] ys h = (tt, h)
  each_part P (x ∷ xs) ys h = let more = each_part P xs ys h.1 in ((h.0, more.0), more.1)

  -- a sum where one part is cut in two
  sum_cut : (f : X → ℕ) (xs : List X) (i : ℕ) (x left right : X) → get_elem? xs i ≡ some x → f right + f left ≡ f x → sum_by f (set xs i left ++ right ∷ []) ≡ sum_by f xs
  sum_cut f xs i x left right at same = omega (arith, sum_set f xs i x left at, sum_by-append f (set xs i left) (right ∷ []))

  -- a sum where one part takes in another
  sum_joined : (f : X → ℕ) (xs : List X) (i j : ℕ) (x y both spent : X) → get_elem? xs i ≡ some x → get_elem? (set xs i both) j ≡ some y → f both + f spent ≡ f x + f y
      → sum_by f (set (set xs i both) j spent) ≡ sum_by f xs
  sum_joined f xs i j x y both spent at there same = omega (arith, sum_set f xs i x both at, sum_set f (set xs i both) j y spent there)

  -- what holds of the one element of a list holds of each that is read there
  each_alone : (P : ℕ → X → Type 0) (x : X) → ((i : ℕ) → P i x) → (i : ℕ) (y : X) → get_elem? (x ∷ []) i ≡ some y → P i y
  each_alone P x all zero y at = subst (P zero) (some-injective x y at) (all zero)
  each_alone P x all (suc i) y at = absurd (some-ne-none y (sym at))

module _ {T C R : Type 0} where
  -- a view has each number as often as its two parts
  times_both : (n : ℕ) (v left right : View T C R) → right.chairs ++ left.chairs ≡ v.chairs → times n right + times n left ≡ times n v
  times_both n v left right same = sym (sum_by-append _ right.chairs left.chairs) ∙ ap (λ cs. times n (view v.stage cs)) same

  -- a view has as many chairs as its two parts
  length_both : (v left right : View T C R) → right.chairs ++ left.chairs ≡ v.chairs → length right.chairs + length left.chairs ≡ length v.chairs
  length_both v left right same = sym (length-append right.chairs left.chairs) ∙ ap length same

module _ {T C R : Type 0} (seats : ℕ) (log : List (Entry C R)) (object : T) (out : ℕ) (holder : ℕ → ℕ) where
  -- an idle view fits any seat if its chairs fit the history
  idle_fits : (seat : ℕ) (v : View T C R) → v.stage ≡ Idle → AllByRecursion (λ c. (c.number < seats) × Continues c.number c.seen log) v.chairs → Fits seats log object out holder seat v
  idle_fits seat v idle chairs = record { stage = subst (IsStage log object out holder seat) (sym idle) tt; seated = omega (arith, no_ticket v idle); chairs = chairs }

module _ {T C R : Type 0} (allowed : T → C → R → T → Type 0) (seats : ℕ) (first : T) where
  -- the rule is kept where an idle seat shares its chairs with a new seat
  splits : (id : ℕ) (v left right : View T C R) → v.stage ≡ Idle → left.stage ≡ Idle → right.stage ≡ Idle → right.chairs ++ left.chairs ≡ v.chairs → Splits (Kept allowed seats first) id v left right
  splits id v left right idle left_idle right_idle same s r at = let mine = r.each id v at in
      let parts = each_part _ right.chairs left.chairs (subst (AllByRecursion (λ c. (c.number < seats) × Continues c.number c.seen r.log)) (sym same) mine.chairs) in record {
        log = r.log;
        object = r.object;
        out = r.out;
        holder = r.holder;
        bells = r.bells;
        few = r.few;
        leads = r.leads;
        of_seats = r.of_seats;
        words = r.words;
        homes = r.homes;
        at_home = λ silent. r.at_home (nobody_before s.views id v left at (λ d serves. left_idle ∙ (sym idle ∙ serves)) (λ k x d there. silent k x d (at_longer (set s.views id left) (right ∷ []) k x there)));
        tickets = sum_cut tickets_of s.views id v left right at (omega (arith, no_ticket v idle, no_ticket left left_idle, no_ticket right right_idle)) ∙ r.tickets;
        numbers = sum_cut (λ u. length u.chairs) s.views id v left right at (length_both v left right same) ∙ r.numbers;
        apart = λ n. omega (arith, sum_cut (times n) s.views id v left right at (times_both n v left right same), r.apart n);
        each = λ k x there. ⊎_elim (each_set (Fits seats r.log r.object r.out r.holder) s.views id left (idle_fits seats r.log r.object r.out r.holder id left left_idle parts.1) (λ j y e. r.each j y) k x)
            (λ e. subst (Fits seats r.log r.object r.out r.holder k) e (idle_fits seats r.log r.object r.out r.holder k right right_idle parts.0)) (at_snoc (set s.views id left) right x k there);
      }

  -- an idle seat deals its first number to a new seat
  pub deals : (id : ℕ) (v : View T C R) → v.stage ≡ Idle → Splits (Kept allowed seats first) id v (rest_of v) (first_of v)
  deals id v idle = splits id v (rest_of v) (first_of v) idle idle refl (elim v.chairs as (λ cs. (elim cs [ [] ↦ [] | (d ∷ ds) ↦ d ∷ [] ]) ++ (elim cs [ [] ↦ [] | (d ∷ ds) ↦ ds ]) ≡ cs) [ [] ↦ refl | (c ∷ cs) ↦ refl ])

  -- an idle seat leaves all that it has to a new seat
  pub leaves : (id : ℕ) (v : View T C R) → v.stage ≡ Idle → Splits (Kept allowed seats first) id v nobody v
  leaves id v idle = splits id v nobody v idle refl idle (append-nil v.chairs)

  -- a seat takes in the numbers of an idle one
  pub takes_in : (id : ℕ) (v : View T C R) (other : ℕ) (w : View T C R) → w.stage ≡ Idle → Joins (Kept allowed seats first) id v other w (both_of v w) nobody
  takes_in id v other w idle s r at apart there = let mine = r.each id v at in let old : get_elem? s.views other ≡ some w = sym (set_else s.views id other (both_of v w) apart) ∙ there in let yours = r.each other w old in
      let both : View T C R = both_of v w in record {
        log = r.log;
        object = r.object;
        out = r.out;
        holder = r.holder;
        bells = r.bells;
        few = r.few;
        leads = r.leads;
        of_seats = r.of_seats;
        words = r.words;
        homes = r.homes;
        at_home = λ silent. r.at_home (nobody_before s.views id v both at (λ d serves. serves) (nobody_before (set s.views id both) other w nobody there (λ d serves. sym idle ∙ serves) silent));
        tickets = sum_joined tickets_of s.views id other v w both nobody at there (omega (arith, no_ticket w idle)) ∙ r.tickets;
        numbers = sum_joined (λ u. length u.chairs) s.views id other v w both nobody at there (omega (arith, length_both both v w refl)) ∙ r.numbers;
        apart = λ n. omega (arith, sum_joined (times n) s.views id other v w both nobody at there (omega (arith, times_both n both v w refl)), r.apart n);
        each = each_set (Fits seats r.log r.object r.out r.holder) (set s.views id both) other nobody (idle_fits seats r.log r.object r.out r.holder other nobody refl tt)
            (λ j y e. each_set (Fits seats r.log r.object r.out r.holder) s.views id both record { stage = mine.stage; seated = omega (arith, mine.seated, length_both both v w refl); chairs = each_both _ w.chairs v.chairs yours.chairs mine.chairs } (λ k z n. r.each k z) j y);
      }

  -- a new office has a table that keeps the rule
  pub opens : seats ≤ 64 → Kept allowed seats first (opening (replicate 66 0) (Some first ∷ []) (undealt seats))
  opens few = record {
    log = [];
    object = first;
    out = 0;
    holder = λ _. 0;
    bells = replicate 64 0;
    few = few;
    leads = refl;
    of_seats = All-nil (λ (e : Entry C R). e.by < seats);
    words = refl;
    homes = refl;
    at_home = λ _. refl;
    tickets = refl;
    numbers = omega (arith, length-map-range_with_len (λ n. chair {C = C} {R = R} n []) 0 seats);
    apart = λ n. omega (arith, once C R n 0 seats);
    each = each_alone (Fits seats [] first 0 (λ _. 0)) (undealt seats) (λ seat. idle_fits seats [] first 0 (λ _. 0) seat (undealt seats) refl (new_fit C R seats 0 seats (omega arith)));
  }

  -- nobody serves where an idle seat has all numbers
  silent_all : (s : State (Option T) (View T C R)) (r : Kept allowed seats first s) (id : ℕ) (v : View T C R) → v.stage ≡ Idle → length v.chairs ≡ seats → get_elem? s.views id ≡ some v → NobodyServes s.views
  silent_all s r id v idle all at k x d there serves = let one : tickets_of x ≡ 1 = ap (λ g. tickets_of (view g x.chairs)) serves in dite (ℕ_discrete id k)
      (λ e. let same : v ≡ x = some-injective v x (sym at ∙ (ap (get_elem? s.views) e ∙ there)) in let none : tickets_of x ≡ 0 = ap tickets_of (sym same) ∙ no_ticket v idle in omega arith)
      (λ e. omega (arith, sum_two (λ u. length u.chairs) s.views id k v x e at there, r.numbers, (r.each k x there).seated))

  -- where the last seat of a table has all numbers, the object is in its slot, and the history goes on from each of them
  pub closes : (id : ℕ) (v : View T C R) (words : List ℕ) (slots : List (Option T)) → v.stage ≡ Idle → length v.chairs ≡ seats → Final (Seen (Kept allowed seats first) id v) words slots
      → (object : T) × (get_elem? slots 0 ≡ some (Some object)) × Ends allowed seats first v.chairs object
  closes id v words slots idle all last = let r = last.1.0 in let at = last.1.1 in let home = r.at_home (silent_all last.0 r id v idle all at) in (
    r.object,
    last.4 0 (Some r.object) (ap (λ hs. get_elem? hs 0) home),
    record { log = r.log; leads = r.leads; of_seats = r.of_seats; each = each_more _ _ (λ c h. h.1) v.chairs (r.each id v at).chairs },
  )
