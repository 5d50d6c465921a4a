-- FILES (ours): the desk is asked for its version, and then the shelf for its files.
use Rattle.std.specs.Prelude.{ℕ, ◌≡◌, List, Result, Ok, Err}
use Rattle.deck_files.specs.{declared.deck_shelf.ShelfLoadFault.ShelfLoadFault, declared.file_rows.FileRow.FileRow, ShelfRelations.ShelfRelations}
use Rattle.desk_core.specs.declared.{calls.Question.Question, calls.Question.TheVariants.Status, replies.Reply.Reply}
use Rattle.session_line.specs.{declared.answers.Told.Told, declared.answers.Answer.Answer, Reasons.load_reason, Answers.{told_of_wait, called}}
use Rattle.session_line.specs.declared.answers.Told.TheVariants as told

-- what is shown of the files of the shelf, or why there are none
abbrev pub told_of_files : ℕ → Result (List FileRow) ShelfLoadFault → Told
told_of_files version (Ok rows) = told.Files version rows
told_of_files version (Err fault) = told.Refused (load_reason fault)

module _ {S : Type 0} (files : ShelfRelations S) where
  -- what the shelf lists is shown with this version
  pub record TellsFiles (version : ℕ) (shelf after : S) (answer : Answer) : Type 0 where
    pub listed : Result (List FileRow) ShelfLoadFault
    pub shelved : files.lists shelf listed after
    pub answered : answer ≡ called (told_of_files version listed)

  -- the files are shown with the version that would be; what else would be shown is, and the shelf is not called
  abbrev pub FilesTold : Told → S → S → Answer → Type 0
  FilesTold (told.Standing version published) shelf after answer = TellsFiles version shelf after answer
  FilesTold what shelf after answer = (after ≡ shelf) × (answer ≡ called what)

module _ {C S : Type 0} (asks : C → Question → Reply → C → Type 0) (files : ShelfRelations S) where
  -- FILES: one call of the desk for the status, and then one of the shelf
  pub record ShowsFiles (desk next : C) (shelf after : S) (answer : Answer) : Type 0 where
    pub reply : Reply
    pub made : asks desk Status reply next
    pub kept : FilesTold files (told_of_wait reply) shelf after answer
