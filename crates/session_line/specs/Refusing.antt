-- A command of a session that is refused (ours).
use Rattle.std.specs.Prelude.{ℕ, ◌≡◌, Bool, true, false, List}
use Rattle.deck_files.specs.ShelfRelations.{ShelfRelations}
use Rattle.desk_core.specs.declared.replies.Reply.{Reply}
use Rattle.session_line.specs.{declared.tasks.Task.Task, declared.answers.Answer.Answer, declared.answers.Told.Told, declared.rights.Rights.Rights, Answers.told_of_call, Executing.Executes, Rights.allowed, Serving.Sides, Taking.IsTaskFor, Tasks.task_of, DeskRelations.DeskRelations}
use Rattle.session_line.specs.declared.answers.Told.TheVariants as told

-- whether a refusal is shown
abbrev pub is_refusal : Told → Bool
is_refusal (told.Refused reason) = true
is_refusal _ = false

-- whether a refusal is shown of the reply to a call that shows neither cards nor a publication
abbrev pub tells_refusal : Reply → Bool
tells_refusal reply = is_refusal (told_of_call reply)

module _ {C S : Type 0} (rights : Rights) (calls : DeskRelations C) (files : ShelfRelations S) where
  -- what the session may do of the command of some lines is executed once, and a refusal is the answer; the first line may have been taken before the others
  pub record RefusesCommand (old new : Sides C S) : Type 0 where
    pub first : List ℕ
    pub others : List (List ℕ)
    pub task : Task
    pub answer : Answer
    pub asked : IsTaskFor (task_of first others) task
    pub executed : Executes calls files (allowed rights task) old.desk new.desk old.shelf new.shelf answer
    pub refused : is_refusal answer.told ≡ true
