-- What the desk's reply to a question gives, or why it gives nothing (ours): the desk's reason where it refuses, and Foreign where no desk replies so.
use Rattle.std.specs.Prelude.{Result, Ok, Err}
use Rattle.desk_core.specs.{Desks.Publication, declared.replies.Reply.Reply, declared.replies.Reply.TheVariants.{Shown, StatusIs, Refused}}
use Rattle.session_commands.specs.declared.refusals.Refusal.{Refusal, TheVariants.Foreign}
use Rattle.session_line.specs.{declared.replied.Status.Status, Reasons.desk_reason}

-- the publication that is shown
abbrev pub shown_in : Reply → Result Publication Refusal
shown_in (Shown publication) = Ok publication
shown_in (Refused reason) = Err (desk_reason reason)
shown_in _ = Err Foreign

-- the status that is shown
abbrev pub status_in : Reply → Result Status Refusal
status_in (StatusIs version published rows) = Ok (record { version = version; published = published; rows = rows })
status_in (Refused reason) = Err (desk_reason reason)
status_in _ = Err Foreign
