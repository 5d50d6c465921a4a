-- Where seats stand in their turns.
use Rattle.std.proofs.Common.{◌≡◌, ◌≢◌, ℕ, ◌==◌, Bool, MatchBool, List, set, sym, ap, ◌∙◌, subst, arith, eq-eqb, ne_eqb}
use mathlib.Core.{Logic.dite, Option.{some, some-injective}}
use native.Mathlib.Decide.{ℕ_discrete}
use lib.ListN.{get_elem?}
use Rattle.atomic_table.proofs.Lists.{set_here, set_else}
use Rattle.turn_office.{specs.declared.views.View.View, specs.declared.views.Stage.Stage, specs.declared.views.Stage.TheVariants.{Idle, Waits, Serves}, specs.Rule.{NobodyServes, view, tickets_of}, proofs.Sums.found_inside}

module _ {T : Type 0} where
  -- 1 at a stage that serves
  abbrev serving : Stage T → ℕ
  serving Idle = 0
  serving (Waits t) = 0
  serving (Serves d) = 1

  -- the ticket of a stage that waits
  abbrev pub ticket_or : ℕ → Stage T → ℕ
  ticket_or n Idle = n
  ticket_or n (Waits t) = t
  ticket_or n (Serves d) = n

  -- a seat at rest does not serve
  pub idle_serves_not : (stage : Stage T) (d : T) → stage ≡ Idle → stage ≢ Serves d
  idle_serves_not stage d idle serves = absurd (let e = ap serving (sym idle ∙ serves) in omega arith)

  -- a seat that waits does not serve
  pub waiting_serves_not : (stage : Stage T) (t : ℕ) (d : T) → stage ≡ Waits t → stage ≢ Serves d
  waiting_serves_not stage t d waits serves = absurd (let e = ap serving (sym waits ∙ serves) in omega arith)

-- where nobody serves after the step of a seat that goes on serving if it did, nobody served before
pub nobody_before : {T C R : Type 0} (views : List (View T C R)) (id : ℕ) (v w : View T C R) → get_elem? views id ≡ some v → ((d : T) → v.stage ≡ Serves d → w.stage ≡ Serves d) → NobodyServes (set views id w) → NobodyServes views
nobody_before {T} {C} {R} views id v w at goes nobody seat x d there serves = dite (ℕ_discrete seat id)
    (λ e. nobody id w d (set_here views id w (found_inside views id v at)) (goes d (ap (λ (y : View T C R). y.stage) (some-injective v x (sym at ∙ (ap (get_elem? views) (sym e) ∙ there))) ∙ serves)))
    (λ other. nobody seat x d (set_else views id seat w other ∙ there) serves)

-- a seat at rest has no ticket
pub no_ticket : {T C R : Type 0} (v : View T C R) → v.stage ≡ Idle → tickets_of v ≡ 0
no_ticket v idle = ap (λ stage. tickets_of (view stage v.chairs)) idle

-- what holds where two numbers are one, and what holds where they are not, by their test
pub by_test : (n m : ℕ) (A B : Type 0) → (n ≡ m → A) → (n ≢ m → B) → MatchBool (n == m) A B
by_test n m A B one two = dite (ℕ_discrete n m) (λ e. subst (λ (b : Bool). MatchBool b A B) (sym (eq-eqb n m e)) (one e)) (λ ne. subst (λ (b : Bool). MatchBool b A B) (sym (ne_eqb n m ne)) (two ne))
