-- What a desk whose changes are kept reports as refused has changed nothing.
use Rattle.std.proofs.Common.{ℕ, ◌≡◌, List, Bool, true, false, is_none, refl, sym, ap, subst, ◌∙◌}
use Rattle.cards.specs.declared.edits.Edit.{Edit}
use Rattle.desk_core.specs.{Runs.accepts, Joins.Calls.{Exactly, Since}, declared.calls.Change.Change, declared.calls.Change.TheVariants.{AddDeck, PutDeck, DropDeck, EditDeck, Undo}, declared.calls.Question.Question, declared.calls.Call.Call, declared.calls.Call.TheVariants.{Make, Ask}, declared.replies.Reply.Reply, declared.replies.Reply.TheVariants.{Changed, Carried}}
use Rattle.session_line.specs.{Refusing.tells_refusal, Joins.Kinds.fits_change}
use Rattle.journal.specs.{declared.drafted.Drafted.Drafted, declared.drafted.Drafted.TheVariants.{Whole, Open}, Drafted.is_whole, Drafts.carried_deck}
use Rattle.kept_desk.specs.{EndsRelations.EndsRelations, Keeping.{TellsKept, MakesChange, refused, called, told_of}}

-- what was made is not reported as refused
not-refused : {A : Type 0} (kept : Bool) (version : ℕ) (what : Reply) → what ≡ told_of version kept → tells_refusal what ≡ true → A
not-refused true version what is told = let not : false ≡ true = sym (ap tells_refusal is) ∙ told in cc
not-refused false version what is told = let not : false ≡ true = sym (ap tells_refusal is) ∙ told in cc

-- no change whose record is known is answered with its edits, nor one without them that is carried
whole-fits : (change : Change) (version seen : ℕ) (edits : List Edit) → is_none (carried_deck change) ≡ true → fits_change change (Carried version seen edits) ≡ false
whole-fits (AddDeck deck) version seen edits whole = refl
whole-fits (PutDeck deck before) version seen edits whole = refl
whole-fits (DropDeck name before) version seen edits whole = refl
whole-fits (EditDeck name (Exactly before) asked) version seen edits whole = refl
whole-fits (EditDeck name (Since before) asked) version seen edits whole = cc
whole-fits (Undo name at) version seen edits whole = cc

open-fits : (change : Change) (version : ℕ) → is_none (carried_deck change) ≡ false → fits_change change (Changed version) ≡ false
open-fits (AddDeck deck) version open_ = cc
open-fits (PutDeck deck before) version open_ = cc
open-fits (DropDeck name before) version open_ = cc
open-fits (EditDeck name (Exactly before) asked) version open_ = cc
open-fits (EditDeck name (Since before) asked) version open_ = refl
open-fits (Undo name at) version open_ = refl

-- in a sense in which two states of who is called for a desk are the same, no change leaves another whose reply accepts nothing, each reply to a change fits it, and no question leaves another
pub record IsQuiet {C : Type 0} (makes : C → Call → Reply → C → Type 0) (IsSame : C → C → Type 0) : Type 0 where
  pub same : (desk : C) → IsSame desk desk
  pub joined : (first second third : C) → IsSame first second → IsSame second third → IsSame first third
  pub fits : (desk next : C) (by : List ℕ) (change : Change) (reply : Reply) → makes desk (Make by change) reply next → fits_change change reply ≡ true
  pub silent : (desk next : C) (by : List ℕ) (change : Change) (reply : Reply) → makes desk (Make by change) reply next → accepts reply ≡ false → IsSame desk next
  pub asked : (desk next : C) (question : Question) (reply : Reply) → makes desk (Ask question) reply next → IsSame desk next

module _ {C E : Type 0} (makes : C → Call → Reply → C → Type 0) (IsSame : C → C → Type 0) (quiet : IsQuiet makes IsSame) (ends : EndsRelations E) where
  -- who was not called
  pub stays-same : (desk next : C) → next ≡ desk → IsSame desk next
  stays-same desk next is = subst (λ (d : C). IsSame desk d) (sym is) (quiet.same desk)

  told-same : (change : Change) (known : Drafted) (reply what : Reply) (between after : E) (P : Type 0) → is_whole known ≡ is_none (carried_deck change) → fits_change change reply ≡ true → (accepts reply ≡ false → P) →
      TellsKept ends known reply between what after → tells_refusal what ≡ true → P
  told-same change (Whole draft) (Changed version) what between after P form fits silent tells told = not-refused tells.0 version what tells.1.1 told
  told-same change (Whole draft) (Carried version seen edits) what between after P form fits silent tells told = let not : false ≡ true = sym (whole-fits change version seen edits (sym form)) ∙ fits in cc
  told-same change (Open stamp name) (Carried version seen edits) what between after P form fits silent tells told = not-refused tells.0 version what tells.1.1 told
  told-same change (Open stamp name) (Changed version) what between after P form fits silent tells told = let not : false ≡ true = sym (open-fits change version (sym form)) ∙ fits in cc
  told-same change known _ what between after P form fits silent tells told = silent refl

  -- a change that is reported as refused
  pub refused-same : (change : Change) (old new : C × E) (what : Reply) → MakesChange makes ends change old.0 old.1 what new.0 new.1 → tells_refusal what ≡ true → IsSame old.0 new.0
  refused-same change old new what (refused why begins told stays) is = stays-same old.0 new.0 stays
  refused-same change old new what (called known begun rung reply begins form made rings tells) is =
      told-same change known reply what rung new.1 (IsSame old.0 new.0) form (quiet.fits old.0 new.0 (ends.who begun) change reply made)
      (λ silent. quiet.silent old.0 new.0 (ends.who begun) change reply made silent) tells is
