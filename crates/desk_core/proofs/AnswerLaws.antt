-- Answers by what speaks against a call.
use Rattle.std.{proofs.Common.{◌≡◌, Bool, true, false, List, [], ◌∷◌, inr, Option, Some, None, option_map, refl, ap, IsTrue}, specs.List.AllByRecursion}
use Rattle.desk_core.specs.{Joins.Causes.{when, first_cause}, Desks.Desk, Joins.Calls.{Reply, Refused, Refusal, OutOfMemory}, Answers.{Answer, unless}, Steps.is_made, Joins.Turns.{IsAnswer, MayAnswer}}

-- a cause that is shown
pub told : (against : Option Refusal) (refusal : Refusal) (desk : Desk) (a : Answer) → against ≡ Some refusal → IsAnswer (unless against desk a) (Refused refusal) desk
told None refusal desk a e = cc
told (Some other) refusal desk a e = let same : refusal ≡ other = cc in (ap (λ (r : Refusal). Refused r) same, refl)

-- no cause
pub done : (against : Option Refusal) (desk : Desk) (a : Answer) (reply : Reply) (next : Desk) → against ≡ None → IsAnswer a reply next → IsAnswer (unless against desk a) reply next
done None desk a reply next e is = is
done (Some other) desk a reply next e is = cc

-- no cause but want of memory
pub lacking : (against : Option Refusal) (desk : Desk) (a : Answer) → against ≡ None → IsTrue (is_made a.reply) → MayAnswer desk (unless against desk a) (Refused OutOfMemory) desk
lacking None desk a e made = inr (made, refl, refl)
lacking (Some other) desk a e made = cc

-- a reply that is no refusal shows that no cause is
pub unrefused : (against : Option Refusal) (desk : Desk) (a : Answer) (reply : Reply) → ((refusal : Refusal) → reply ≡ Refused refusal → ⊥) → reply ≡ (unless against desk a).reply → (against ≡ None) × (unless against desk a ≡ a)
unrefused None desk a reply other e = (refl, refl)
unrefused (Some refusal) desk a reply other e = absurd (other refusal e)

module _ {A : Type 0} where
  -- a cause that is absent has no reason
  pub no-reason : (b : Bool) (cause : A) → when b cause ≡ None → b ≡ false
  no-reason true cause e = cc
  no-reason false cause e = refl

  -- none of the causes is present
  pub all-clear : (causes : List (Option A)) → first_cause causes ≡ None → AllByRecursion (λ cause. cause ≡ None) causes
  all-clear [] e = tt
  all-clear (None ∷ causes) e = (refl, all-clear causes e)
  all-clear (Some a ∷ causes) e = cc

  pub map-clear : {B : Type 0} (f : A → B) (cause : Option A) → option_map f cause ≡ None → cause ≡ None
  map-clear f None e = refl
  map-clear f (Some a) e = cc
