-- What who greets is answered at a door (ours).
use Rattle.std.specs.Prelude.{ℕ, ◌≡◌, List, [], Some}
use Rattle.desk_core.specs.declared.{calls.Call.{Call, TheVariants.Ask}, calls.Question.TheVariants.Status, replies.Reply.{Reply, TheVariants.Refused}, replies.Refusal.TheVariants.OutOfMemory}
use Rattle.session_line.specs.{declared.greetings.Connected.Connected, declared.greetings.Greeting.Greeting, Greetings.{WhereMet, is_status_reply, met}}
use Rattle.kept_desk.specs.EndsRelations.{EndsRelations}

module _ {C E : Type 0} (makes : C → Call → Reply → C → Type 0) (ends : EndsRelations E) where
  -- there is no memory for who is connected, and the desk is not asked; or its status with them, and the name is noted where that is shown
  pub data GreetsAmong (name : List ℕ) (desk : C) (before : E) (greeting : Greeting) (next : C) (after : E) : Type 0 where
    lacking : greeting ≡ met (Refused OutOfMemory) [] → next ≡ desk → after ≡ before → GreetsAmong name desk before greeting next after
    listed : (sessions : List Connected) (between : E) (status : Reply) → ends.lists before name sessions between → makes desk (Ask Status) status next →
        WhereMet (λ old new. ends.names old (Some name) new) (is_status_reply status) between after → greeting ≡ met status sessions → GreetsAmong name desk before greeting next after
