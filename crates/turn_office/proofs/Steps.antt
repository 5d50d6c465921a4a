-- Each step of a turn keeps the rule of the table, and shows what it promises.
use Rattle.std.{proofs.Common.{◌≡◌, ◌≢◌, ℕ, zero, suc, ◌+◌, ◌-◌, ◌%◌, ◌^◌, ◌<◌, ◌≤◌, ◌==◌, if◌then◌else◌, Bool, cond, List, [], ◌∷◌, ◌++◌, map, length, get_or, set, sym, refl, ap, ◌∙◌, subst, arith, Option, Some, length-set, length-append, count_by, eq-eqb, ne_eqb}, proofs.Math.Nat.mod-add-mod, proofs.lemmas.List.Sums.sum_by-cons, specs.Option.unwrap_or, specs.List.AllByRecursion}
use mathlib.Core.{Logic.dite, Option.{none, some, some-injective}}
use native.Mathlib.Decide.{ℕ_discrete}
use lib.{ListN.{get_elem?, length-map}, Seq.set-get_or}
use Rattle.atomic_table.specs.Table.{State, step, keeps, takes, gives as gives_back, stepped, rest, Allows}
use Rattle.atomic_table.proofs.Lists.{set_here, set_again, one_turn}
use Rattle.turn_office.{specs.declared.history.Entry.Entry, specs.declared.views.Chair.Chair, specs.declared.views.View.View, specs.declared.views.Stage.Stage, specs.declared.views.Stage.TheVariants.{Idle, Waits, Serves}, specs.Histories.{entry, Continues}, specs.Rule.{Kept, Fits, IsStage, NobodyServes, Standing, chair, view, staged, at_rest, tickets_of, times, drew, looked, gave, learned, rang, CanEnd, HasEnded, HasLearned}, specs.Joins.Told.{Told, opened, ended}, proofs.Sums.{sum_set, sum_same, sum_two, sum_le, found_inside, each_set, each_more}, proofs.Stages.{ticket_or, idle_serves_not, waiting_serves_not, nobody_before, no_ticket}, proofs.Longer.{continues_here, continues_after, silent_between, of_seats_after, leads_after}}

-- the first element of a list
abbrev head_or : {X : Type 0} → X → List X → X
head_or d [] = d
head_or d (x ∷ xs) = x

-- the one element of a list
only_one : {X : Type 0} (xs : List X) (x : X) → length xs ≡ 1 → set xs 0 x ≡ x ∷ []
only_one [] x one = absurd (omega (arith, one))
only_one (y ∷ []) x one = refl
only_one (y ∷ z ∷ zs) x one = absurd (omega (arith, one))

-- one more of a number that is kept modulo 2^64
one_more : (n : ℕ) → (n % 18446744073709551616 + 1) % 18446744073709551616 ≡ (n + 1) % 18446744073709551616
one_more n = mod-add-mod n 18446744073709551616 1

-- a change past the first two elements of a list
set_past : {X : Type 0} (x y : X) (zs : List X) (i : ℕ) (z : X) → 2 ≤ i → set (x ∷ y ∷ zs) i z ≡ x ∷ y ∷ set zs (i - 2) z
set_past x y zs zero z later = absurd (omega arith)
set_past x y zs (suc zero) z later = absurd (omega arith)
set_past x y zs (suc (suc i)) z later = ap (λ (k : ℕ). x ∷ y ∷ set zs k z) (omega arith)

-- one turn more and one ticket less
more_less : (n long out : ℕ) → long ≡ n + 1 → 0 < out → n + out ≡ long + (out - 1)
more_less n long out is some_out = omega arith

-- a ticket more for one seat
abbrev put : (ℕ → ℕ) → ℕ → ℕ → ℕ → ℕ
put f t x n = if n == t then x else f n

-- the ticket is its seat's
put_here : (f : ℕ → ℕ) (t x n : ℕ) → n ≡ t → put f t x n ≡ x
put_here f t x n e = ap (λ (b : Bool). if b then x else f n) (eq-eqb n t e)

-- the other tickets are as they were
put_else : (f : ℕ → ℕ) (t x n : ℕ) → n ≢ t → put f t x n ≡ f n
put_else f t x n ne = ap (λ (b : Bool). if b then x else f n) (ne_eqb n t ne)

module _ {T C R : Type 0} (log : List (Entry C R)) (object : T) (out : ℕ) (holder : ℕ → ℕ) (id seat : ℕ) where
  -- the stage of another seat after a ticket was drawn
  stage_drawn : (stage : Stage T) → IsStage log object out holder seat stage → IsStage log object (out + 1) (put holder (length log + out) id) seat stage
  stage_drawn Idle is = is
  stage_drawn (Waits t) is = (is.0, omega (arith, is.1), put_else holder (length log + out) id t (λ e. absurd (omega (arith, is.1, e))) ∙ is.2)
  stage_drawn (Serves d) is = (is.0, omega arith, put_else holder (length log + out) id (length log) (λ e. absurd (omega (arith, is.1, e))) ∙ is.2)

-- 1 where two numbers are the same
abbrev weight : ℕ → ℕ → ℕ
weight n m = cond (n == m) 1 0

-- a number is the same as itself
weight_same : (n m : ℕ) → n ≡ m → weight n m ≡ 1
weight_same n m e = ap (λ (b : Bool). cond {A = ℕ} b 1 0) (eq-eqb n m e)

module _ {C R : Type 0} (seats : ℕ) (log : List (Entry C R)) (number : ℕ) (call : C) (reply : R) where
  -- the numbers of another seat after an entry of this number
  chairs_after : (cs : List (Chair C R)) → count_by (λ c. c.number == number) cs ≡ 0 → AllByRecursion (λ c. (c.number < seats) × Continues c.number c.seen log) cs
      → AllByRecursion (λ c. (c.number < seats) × Continues c.number c.seen (log ++ entry number call reply ∷ [])) cs
  chairs_after [] none_here all = tt
  chairs_after (c ∷ cs) none_here all = let parts = sum_by-cons (λ (x : Chair C R). weight x.number number) c cs in
      let apart : number ≢ c.number = (λ e. absurd (let one = weight_same c.number number (sym e) in omega (arith, parts, none_here, one))) in
      ((all.0.0, continues_after c.number number call reply c.seen log apart all.0.1), chairs_after cs (omega (arith, parts, none_here)) all.1)

  -- the stage of another seat after the end of a turn
  stage_after : {T : Type 0} (object next : T) (out : ℕ) (holder : ℕ → ℕ) (id seat : ℕ) → seat ≢ id → holder (length log) ≡ id → (stage : Stage T) → IsStage log object out holder seat stage
      → IsStage (log ++ entry number call reply ∷ []) next (out - 1) holder seat stage
  stage_after object next out holder id seat other held Idle is = is
  stage_after object next out holder id seat other held (Waits t) is = let long = length-append log (entry number call reply ∷ []) in
      let later : length log ≢ t = (λ e. other (sym is.2 ∙ (ap holder (sym e) ∙ held))) in (omega (arith, long, is.0, later), omega (arith, long, is.0, is.1, later), is.2)
  stage_after object next out holder id seat other held (Serves d) is = absurd (other (sym is.2 ∙ held))

module _ {C R : Type 0} (seats : ℕ) (log : List (Entry C R)) where
  -- the numbers of a seat that has seen the whole history
  chairs_known : (cs : List (Chair C R)) → AllByRecursion (λ c. (c.number < seats) × Continues c.number c.seen log) cs → AllByRecursion (λ c. (c.number < seats) × Continues c.number c.seen log) (map (λ c. chair c.number log) cs)
  chairs_known [] all = tt
  chairs_known (c ∷ cs) all = ((all.0.0, continues_here c.number log), chairs_known cs all.1)

-- a seat has the same numbers when it has seen the whole history
times_known : {C R : Type 0} (log : List (Entry C R)) (n : ℕ) (cs : List (Chair C R)) → count_by (λ c. c.number == n) (map (λ c. chair c.number log) cs) ≡ count_by (λ c. c.number == n) cs
times_known log n [] = refl
times_known {C} {R} log n (c ∷ cs) = let f : Chair C R → ℕ = λ x. weight x.number n in let more = times_known log n cs in omega (arith, sum_by-cons f (chair c.number log) (map (λ c. chair c.number log) cs), sum_by-cons f c cs, more)

module _ {T C R : Type 0} (allowed : T → C → R → T → Type 0) (seats : ℕ) (first : T) where
  -- the rule of this office
  abbrev Rule : State (Option T) (View T C R) → Type 0
  Rule = Kept allowed seats first

  -- the state after a ticket was drawn by a seat at rest
  drawn : (s : State (Option T) (View T C R)) (r : Rule s) (id : ℕ) (v : View T C R) → get_elem? s.views id ≡ some v → v.stage ≡ Idle → 1 ≤ length v.chairs
      → Rule record { words = set s.words 1 ((get_or s.words 1 0 + 1) % 18446744073709551616); homes = s.homes; views = set s.views id (staged (Waits (length r.log + r.out)) v) }
  drawn s r id v at idle some_chair = let w : View T C R = staged (Waits (length r.log + r.out)) v in let mine = r.each id v at in record {
    log = r.log;
    object = r.object;
    out = r.out + 1;
    holder = put r.holder (length r.log + r.out) id;
    bells = r.bells;
    few = r.few;
    leads = r.leads;
    of_seats = r.of_seats;
    words = ap (λ (ws : List ℕ). set ws 1 ((get_or ws 1 0 + 1) % 18446744073709551616)) r.words ∙ ap (λ (n : ℕ). (length r.log % 18446744073709551616) ∷ n ∷ r.bells) (one_more (length r.log + r.out) ∙ ap (λ (n : ℕ). n % 18446744073709551616) (omega arith));
    homes = r.homes;
    at_home = λ nobody. r.at_home (nobody_before s.views id v w at (λ d serves. absurd (idle_serves_not v.stage d idle serves)) nobody);
    tickets = omega (arith, no_ticket v idle, sum_set tickets_of s.views id v w at, r.tickets);
    numbers = sum_same (λ (x : View T C R). length x.chairs) s.views id v w at refl ∙ r.numbers;
    apart = λ n. subst (λ (m : ℕ). m ≤ 1) (sym (sum_same (times n) s.views id v w at refl)) (r.apart n);
    each = each_set (Fits seats r.log r.object (r.out + 1) (put r.holder (length r.log + r.out) id)) s.views id w
        (record { stage = (omega arith, omega arith, put_here r.holder (length r.log + r.out) id (length r.log + r.out) refl); seated = some_chair; chairs = mine.chairs })
        (λ j x other there. let fits = r.each j x there in record { stage = stage_drawn r.log r.object r.out r.holder id j x.stage fits.stage; seated = fits.seated; chairs = fits.chairs });
  }

  -- kind 2
  pub draws : (slots id : ℕ) (me : Standing T C R) → me.0.stage ≡ Idle → 1 ≤ length me.0.chairs → Allows Rule slots id me 1 (λ n. (n + 1) % 2 ^ 64) (drew (step slots 1 1 0 none) me)
  draws slots id me idle some_chair s r deep at fits = (
    staged (Waits (length r.log + r.out)) me.0,
    keeps,
    tt,
    drawn s r id me.0 at idle some_chair,
    (length r.log + r.out, ap (λ (ws : List ℕ). get_or ws 1 0) r.words, refl),
  )

  -- no more tickets are out than there are seats
  tickets_few : (s : State (Option T) (View T C R)) (r : Rule s) → r.out ≤ 64
  tickets_few s r = let less = sum_le tickets_of (λ (v : View T C R). length v.chairs) s.views (λ i v at. (r.each i v at).seated) in omega (arith, less, r.tickets, r.numbers, r.few)

  -- a step that leaves the seat's view as it is
  same_view : (s : State (Option T) (View T C R)) (id : ℕ) (v : View T C R) → get_elem? s.views id ≡ some v → Rule s → Rule record { words = set s.words 0 (get_or s.words 0 0); homes = s.homes; views = set s.views id v }
  same_view s id v at r = subst (λ (p : List ℕ × List (View T C R)). Rule record { words = p.0; homes = s.homes; views = p.1 }) (λ i. (sym (set-get_or s.words 0 0) i, sym (set_again s.views id v at) i)) r

  -- where the ticket of a waiting seat is served, nobody serves
  turn_is_free : (s : State (Option T) (View T C R)) (r : Rule s) (id : ℕ) (v : View T C R) (t : ℕ) → get_elem? s.views id ≡ some v → v.stage ≡ Waits t → t ≡ length r.log → NobodyServes s.views
  turn_is_free s r id v t at waits now seat x d there serves =
      let mine : IsStage r.log r.object r.out r.holder id (Waits t) = subst (IsStage r.log r.object r.out r.holder id) waits (r.each id v at).stage in
      let its : IsStage r.log r.object r.out r.holder seat (Serves d) = subst (IsStage r.log r.object r.out r.holder seat) serves (r.each seat x there).stage in
      let one : seat ≡ id = sym its.2 ∙ (ap r.holder (sym now) ∙ mine.2) in
      let same : v ≡ x = some-injective v x (sym at ∙ (ap (get_elem? s.views) (sym one) ∙ there)) in
      waiting_serves_not v.stage t d waits (ap (λ (y : View T C R). y.stage) same ∙ serves)

  -- the state after a waiting seat took the turn
  taken : (s : State (Option T) (View T C R)) (r : Rule s) (id : ℕ) (v : View T C R) (t : ℕ) → get_elem? s.views id ≡ some v → v.stage ≡ Waits t → t ≡ length r.log
      → Rule record { words = set s.words 0 (get_or s.words 0 0); homes = set s.homes 0 none; views = set s.views id (staged (Serves r.object) v) }
  taken s r id v t at waits now = let w : View T C R = staged (Serves r.object) v in let mine = r.each id v at in
      let ticket : IsStage r.log r.object r.out r.holder id (Waits t) = subst (IsStage r.log r.object r.out r.holder id) waits mine.stage in
      let has : tickets_of v ≡ 1 = ap (λ (stage : Stage T). tickets_of (view stage v.chairs)) waits in record {
        log = r.log;
        object = r.object;
        out = r.out;
        holder = r.holder;
        bells = r.bells;
        few = r.few;
        leads = r.leads;
        of_seats = r.of_seats;
        words = set-get_or s.words 0 0 ∙ r.words;
        homes = length-set s.homes 0 none ∙ r.homes;
        at_home = λ nobody. absurd (nobody id w r.object (set_here s.views id w (found_inside s.views id v at)) refl);
        tickets = sum_same tickets_of s.views id v w at (sym has) ∙ r.tickets;
        numbers = sum_same (λ (x : View T C R). length x.chairs) s.views id v w at refl ∙ r.numbers;
        apart = λ n. subst (λ (m : ℕ). m ≤ 1) (sym (sum_same (times n) s.views id v w at refl)) (r.apart n);
        each = each_set (Fits seats r.log r.object r.out r.holder) s.views id w
            (record { stage = (refl, omega (arith, ticket.1, now), ap r.holder (sym now) ∙ ticket.2); seated = subst (λ (m : ℕ). m ≤ length v.chairs) has mine.seated; chairs = mine.chairs })
            (λ j x other there. r.each j x there);
      }

  -- the ticket of a seat that finds it served is the next that is served
  is_served : (s : State (Option T) (View T C R)) (r : Rule s) (id : ℕ) (v : View T C R) (t : ℕ) → get_elem? s.views id ≡ some v → v.stage ≡ Waits t → get_or s.words 0 0 ≡ t % 18446744073709551616 → t ≡ length r.log
  is_served s r id v t at waits found =
      let ticket : IsStage r.log r.object r.out r.holder id (Waits t) = subst (IsStage r.log r.object r.out r.holder id) waits (r.each id v at).stage in
      let served : length r.log % 18446744073709551616 ≡ t % 18446744073709551616 = sym (ap (λ (ws : List ℕ). get_or ws 0 0) r.words) ∙ found in
      let few = tickets_few s r in
      sym (one_turn (length r.log) t 18446744073709551616 ticket.0 (omega (arith, ticket.1, few)) served)

  -- kind 3
  pub looks : (slots id : ℕ) (me : Standing T C R) (t : ℕ) → me.0.stage ≡ Waits t → Allows Rule slots id me 0 (λ n. n) (looked (step slots 0 0 0 none) me)
  looks slots id me t waits s r deep at fits = dite (ℕ_discrete (get_or s.words 0 0) (t % 18446744073709551616))
      (λ found. let now = is_served s r id me.0 t at waits found in (
        staged (Serves r.object) me.0,
        takes 0 (Some r.object),
        ap (λ (hs : List (mathlib.Core.Option.Option (Option T))). get_elem? hs 0) (r.at_home (turn_is_free s r id me.0 t at waits now)),
        taken s r id me.0 t at waits now,
        (λ t' waits'. ((λ found'. (r.object, refl)), λ not. absurd (not (found ∙ ap (λ (n : ℕ). n % 18446744073709551616) (ap (ticket_or 0) (sym waits ∙ waits')))))),
      ))
      (λ other. (
        me.0,
        keeps,
        tt,
        same_view s id me.0 at r,
        (λ t' waits'. ((λ found'. absurd (other (found' ∙ ap (λ (n : ℕ). n % 18446744073709551616) (ap (ticket_or 0) (sym waits' ∙ waits))))), λ not. refl)),
      ))

  -- the state after the end of a turn
  given : (s : State (Option T) (View T C R)) (r : Rule s) (id number : ℕ) (seen : List (Entry C R)) (before after : T) (call : C) (reply : R) → get_elem? s.views id ≡ some (view (Serves before) (chair number seen ∷ [])) → allowed before call reply after
      → Rule record { words = set s.words 0 ((get_or s.words 0 0 + 1) % 18446744073709551616); homes = set s.homes 0 (some (Some after)); views = set s.views id (at_rest number (r.log ++ entry number call reply ∷ [])) }
  given s r id number seen before after call reply at steps =
      let v : View T C R = view (Serves before) (chair number seen ∷ []) in
      let log : List (Entry C R) = r.log ++ entry number call reply ∷ [] in
      let w : View T C R = at_rest number log in
      let mine = r.each id v at in
      let long = length-append r.log (entry number call reply ∷ []) in
      let one_here : times number v ≡ 1 = ap (λ (n : ℕ). 0 + n) (weight_same number number refl) in record {
        log = log;
        object = after;
        out = r.out - 1;
        holder = r.holder;
        bells = r.bells;
        few = r.few;
        leads = leads_after allowed first r.object after r.log number call reply r.leads (subst (λ (d : T). allowed d call reply after) mine.stage.0 steps);
        of_seats = of_seats_after seats r.log number call reply r.of_seats mine.chairs.0.0;
        words = ap (λ (ws : List ℕ). set ws 0 ((get_or ws 0 0 + 1) % 18446744073709551616)) r.words
            ∙ (λ i. (one_more (length r.log) ∙ ap (λ (n : ℕ). n % 18446744073709551616) (sym long)) i ∷ (ap (λ (n : ℕ). n % 18446744073709551616) (more_less (length r.log) (length log) r.out long mine.stage.1) i ∷ r.bells));
        homes = length-set s.homes 0 (some (Some after)) ∙ r.homes;
        at_home = λ nobody. only_one s.homes (some (Some after)) r.homes;
        tickets = let t = sum_set tickets_of s.views id v w at in omega (arith, t, r.tickets);
        numbers = sum_same (λ (x : View T C R). length x.chairs) s.views id v w at refl ∙ r.numbers;
        apart = λ n. subst (λ (m : ℕ). m ≤ 1) (sym (sum_same (times n) s.views id v w at refl)) (r.apart n);
        each = each_set (Fits seats log after (r.out - 1) r.holder) s.views id w
            (record { stage = tt; seated = omega arith; chairs = ((mine.chairs.0.0, continues_here number log), tt) })
            (λ j x other there. let fits = r.each j x there in let both = sum_two (times number) s.views j id x v other there at in let most = r.apart number in record {
              stage = stage_after seats r.log number call reply r.object after r.out r.holder id j other mine.stage.2 x.stage fits.stage;
              seated = fits.seated;
              chairs = chairs_after seats r.log number call reply x.chairs (omega (arith, both, most, one_here)) fits.chairs;
            });
      }

  -- what the end of a turn shows
  tells : (s : State (Option T) (View T C R)) (r : Rule s) (id number : ℕ) (seen : List (Entry C R)) (before after : T) (call : C) (reply : R) → get_elem? s.views id ≡ some (view (Serves before) (chair number seen ∷ [])) → allowed before call reply after
      → HasEnded allowed (ended seats first call reply) call reply number seen (at_rest number (r.log ++ entry number call reply ∷ []), [])
  tells s r id number seen before after call reply at steps =
      let mine = r.each id (view (Serves before) (chair number seen ∷ [])) at in
      let seen_so = mine.chairs.0.1 in record {
        log = r.log ++ entry number call reply ∷ [];
        rests = refl;
        answers = record {
          between = seen_so.begins.0;
          ends = ap (λ (l : List (Entry C R)). l ++ entry number call reply ∷ []) (sym seen_so.begins.1);
          silent = silent_between number seen seen_so.begins.0 r.log seen_so.begins.1 seen_so.silent;
          legal = record {
            last = after;
            leads = leads_after allowed first r.object after r.log number call reply r.leads (subst (λ (d : T). allowed d call reply after) mine.stage.0 steps);
            of_seats = of_seats_after seats r.log number call reply r.of_seats mine.chairs.0.0;
          };
        };
      }

  -- what was shown, by other words for the same
  ended_as : (number : ℕ) (seen : List (Entry C R)) (call : C) (reply : R) (told : Told T C R) (call' : C) (reply' : R) (number' : ℕ) (seen' : List (Entry C R)) (after : Standing T C R) → Some (ended seats first call reply) ≡ Some told → told.made ≡ Some (call', reply')
      → chair number seen ∷ [] ≡ chair number' seen' ∷ [] → HasEnded allowed (ended seats first call reply) call reply number seen after → HasEnded allowed told call' reply' number' seen' after
  ended_as number seen call reply told call' reply' number' seen' after said made chairs has =
      let same_told : ended seats first call reply ≡ told = ap (λ (o : Option (Told T C R)). unwrap_or o (ended seats first call reply)) said in
      let same_made : (call, reply) ≡ (call', reply') = ap (λ (o : Option (C × R)). unwrap_or o (call, reply)) (ap (λ (t : Told T C R). t.made) same_told ∙ made) in
      let same_chair : chair number seen ≡ chair number' seen' = ap (head_or (chair number seen)) chairs in
      subst (λ (p : Told T C R × ((C × R) × Chair C R)). HasEnded allowed p.0 p.1.0.0 p.1.0.1 p.1.1.number p.1.1.seen after) (λ i. (same_told i, (same_made i, same_chair i))) has

  -- kind 4
  pub gives : (slots id number : ℕ) (seen : List (Entry C R)) (me : Standing T C R) (call : C) (reply : R) (said : Option (Told T C R)) → said ≡ Some (ended seats first call reply) → CanEnd allowed call reply number seen me
      → Allows Rule slots id me 0 (λ n. (n + 1) % 2 ^ 64) (gave allowed said (step slots 0 1 0 none) me)
  gives slots id number seen me call reply said told_is can s r deep at fits =
      let v : View T C R = view (Serves can.before) (chair number seen ∷ []) in
      let is : get_elem? s.views id ≡ some v = at ∙ ap (λ (m : Standing T C R). some m.0) can.stands in
      let w : View T C R = at_rest number (r.log ++ entry number call reply ∷ []) in (
        w,
        gives_back,
        tt,
        subst (λ (m : Standing T C R). Rule (stepped s 0 ((get_or s.words 0 0 + 1) % 18446744073709551616) id m.1 w gives_back)) (sym can.stands) (given s r id number seen can.before can.after call reply is can.steps),
        (λ told call' reply' number' seen' said' made chairs. ended_as number seen call reply told call' reply' number' seen' (w, rest me.1) (sym told_is ∙ said') made (ap (λ (m : Standing T C R). m.0.chairs) (sym can.stands) ∙ chairs)
            (subst (λ (m : Standing T C R). HasEnded allowed (ended seats first call reply) call reply number seen (w, rest m.1)) (sym can.stands) (tells s r id number seen can.before can.after call reply is can.steps))),
      )

  -- the state after a seat at rest saw the history so far
  known : (s : State (Option T) (View T C R)) (r : Rule s) (id : ℕ) (v : View T C R) → get_elem? s.views id ≡ some v
      → Rule record { words = set s.words 0 (get_or s.words 0 0); homes = s.homes; views = set s.views id (view v.stage (map (λ c. chair c.number r.log) v.chairs)) }
  known s r id v at = let w : View T C R = view v.stage (map (λ c. chair c.number r.log) v.chairs) in let mine = r.each id v at in
      let as_long : length w.chairs ≡ length v.chairs = length-map v.chairs (λ (c : Chair C R). chair c.number r.log) in record {
        log = r.log;
        object = r.object;
        out = r.out;
        holder = r.holder;
        bells = r.bells;
        few = r.few;
        leads = r.leads;
        of_seats = r.of_seats;
        words = set-get_or s.words 0 0 ∙ r.words;
        homes = r.homes;
        at_home = λ nobody. r.at_home (nobody_before s.views id v w at (λ d serves. serves) nobody);
        tickets = sum_same tickets_of s.views id v w at refl ∙ r.tickets;
        numbers = sum_same (λ (x : View T C R). length x.chairs) s.views id v w at as_long ∙ r.numbers;
        apart = λ n. subst (λ (m : ℕ). m ≤ 1) (sym (sum_same (times n) s.views id v w at (times_known r.log n v.chairs))) (r.apart n);
        each = each_set (Fits seats r.log r.object r.out r.holder) s.views id w
            (record { stage = mine.stage; seated = subst (λ (m : ℕ). tickets_of v ≤ m) (sym as_long) mine.seated; chairs = chairs_known seats r.log v.chairs mine.chairs })
            (λ j x other there. r.each j x there);
      }

  -- kind 6
  pub learns : (slots id : ℕ) (me : Standing T C R) (said : Option (Told T C R)) → said ≡ Some (opened seats first) → Allows Rule slots id me 0 (λ n. n) (learned allowed said (step slots 0 0 0 none) me)
  learns slots id me said is s r deep at fits = (
    view me.0.stage (map (λ c. chair c.number r.log) me.0.chairs),
    keeps,
    tt,
    known s r id me.0 at,
    (λ told said'. subst (λ (t : Told T C R). HasLearned allowed t me (view me.0.stage (map (λ c. chair c.number r.log) me.0.chairs), me.1)) (ap (λ (o : Option (Told T C R)). unwrap_or o (opened seats first)) (sym is ∙ said'))
        (record { log = r.log; legal = record { last = r.object; leads = r.leads; of_seats = r.of_seats }; continues = each_more _ _ (λ c h. h.1) me.0.chairs (r.each id me.0 at).chairs; rests = refl })),
  )

  -- the state after a bell was rung
  belled : (s : State (Option T) (View T C R)) (r : Rule s) (id word n : ℕ) (v : View T C R) → get_elem? s.views id ≡ some v → 2 ≤ word → Rule record { words = set s.words word n; homes = s.homes; views = set s.views id v }
  belled s r id word n v at later = subst (λ (views : List (View T C R)). Rule record { words = set s.words word n; homes = s.homes; views = views }) (sym (set_again s.views id v at)) (record {
    log = r.log;
    object = r.object;
    out = r.out;
    holder = r.holder;
    bells = set r.bells (word - 2) n;
    few = r.few;
    leads = r.leads;
    of_seats = r.of_seats;
    words = ap (λ (ws : List ℕ). set ws word n) r.words ∙ set_past (length r.log % 18446744073709551616) ((length r.log + r.out) % 18446744073709551616) r.bells word n later;
    homes = r.homes;
    at_home = r.at_home;
    tickets = r.tickets;
    numbers = r.numbers;
    apart = r.apart;
    each = r.each;
  })

  -- kind 9
  pub rings : (slots id word : ℕ) (me : Standing T C R) → 2 ≤ word → Allows Rule slots id me word (λ n. (n + 1) % 2 ^ 64) (rang (step slots word 1 0 none) me)
  rings slots id word me later s r deep at fits = (me.0, keeps, tt, belled s r id word ((get_or s.words word 0 + 1) % 18446744073709551616) me.0 at later, refl)
