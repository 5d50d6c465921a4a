-- What the code promises of a call (ours).
use Rattle.std.specs.Prelude.{◌≡◌, ◌⊎◌, IsTrue}
use Rattle.desk_core.specs.{Desks.Desk, Joins.Calls.{Reply, Refused, OutOfMemory}, Answers.Answer, Steps.is_made}

-- the reply and the desk are those of an answer
abbrev pub IsAnswer : Answer → Reply → Desk → Type 0
IsAnswer answer reply next = (reply ≡ answer.reply) × (next ≡ answer.desk)

-- they are; or, where the reply has to be made first, want of memory is reported and the desk is as it was
abbrev pub MayAnswer : Desk → Answer → Reply → Desk → Type 0
MayAnswer desk answer reply next = IsAnswer answer reply next ⊎ (IsTrue (is_made answer.reply) × (reply ≡ Refused OutOfMemory) × (next ≡ desk))
