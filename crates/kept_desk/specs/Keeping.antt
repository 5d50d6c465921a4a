-- A desk whose changes are kept (ours): what a change makes of the desk and of the ends.
use Rattle.std.specs.Prelude.{ℕ, ◌≡◌, List, Bool, true, false, is_none, Option, Some, None, Ok, Err}
use Rattle.desk_core.specs.{Runs.accepts, declared.calls.{Change.Change, Call.Call, Call.TheVariants.Make}, declared.replies.Reply.Reply, declared.replies.Reply.TheVariants.{Changed, Carried, Unkept, Refused}, declared.replies.Refusal.Refusal, declared.replies.Refusal.TheVariants.Foreign}
use Rattle.journal.specs.{declared.drafted.Drafted.Drafted, declared.drafted.Drafted.TheVariants.{Whole, Open}, Drafted.is_whole, Drafts.{carried_deck, change_carried, stamped_text}}
use Rattle.kept_desk.specs.EndsRelations.{EndsRelations}
use Rattle.session_line.specs.Greetings.{WhereMet}

-- what is reported of a change whose record was kept, or was not: then it stands on the desk alone
abbrev pub told_of : ℕ → Bool → Reply
told_of version true = Changed version
told_of version false = Unkept version

-- a record is kept with this version, or is not, and that is reported
abbrev pub TellsRecord : {E : Type 0} → EndsRelations E → ℕ → List ℕ → E → Reply → E → Type 0
TellsRecord ends version draft old told new = (kept : Bool) × (ends.keeps old version draft kept new × (told ≡ told_of version kept))

-- what is reported of a reply, by what was known of the record: a change is reported as made only where its record was kept, which has the edits as they were made where it was carried; one that was not asked for so is foreign; anything else is reported as it is, and the ends are not asked
abbrev pub TellsKept : {E : Type 0} → EndsRelations E → Drafted → Reply → E → Reply → E → Type 0
TellsKept ends (Whole draft) (Changed version) old told new = TellsRecord ends version draft old told new
TellsKept ends (Whole draft) (Carried version seen edits) old told new = (told ≡ Refused Foreign) × (new ≡ old)
TellsKept ends (Open stamp name) (Carried version seen edits) old told new = TellsRecord ends version (stamped_text stamp (change_carried name seen edits)) old told new
TellsKept ends (Open stamp name) (Changed version) old told new = (told ≡ Refused Foreign) × (new ≡ old)
TellsKept ends known reply old told new = (told ≡ reply) × (new ≡ old)

-- the version of a change that a reply reports as made
abbrev pub version_told : Reply → Option ℕ
version_told (Changed version) = Some version
version_told (Carried version seen edits) = Some version
version_told _ = None

module _ {C E : Type 0} (makes : C → Call → Reply → C → Type 0) (ends : EndsRelations E) where
  -- what a change makes
  pub data MakesChange (change : Change) (desk : C) (before : E) (told : Reply) (desk_after : C) (after : E) : Type 0 where
    -- no record can be made: the desk is not called
    refused : (refusal : Refusal) → ends.begins before change (Err refusal) after → told ≡ Refused refusal → desk_after ≡ desk → MakesChange change desk before told desk_after after
    -- the desk is called by the name that the ends give; the bell rings where it accepts; and the change is reported as made only where its record is kept
    called : (known : Drafted) (begun rung : E) (reply : Reply) → ends.begins before change (Ok known) begun → is_whole known ≡ is_none (carried_deck change) → makes desk (Make (ends.who begun) change) reply desk_after →
        WhereMet ends.rings (accepts reply) begun rung → TellsKept ends known reply rung told after → MakesChange change desk before told desk_after after
