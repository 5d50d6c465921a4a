-- STATUS FILES (ours): the desk is asked for its status, and then the shelf, deck by deck, whether its file has its cards.
use Rattle.std.specs.Prelude.{ℕ, ◌≡◌, Bool, List, [], ◌∷◌, ◌++◌, Option}
use Rattle.desk_core.specs.declared.{calls.Question.Question, calls.Question.TheVariants.Status, replies.Reply.Reply, replies.Row.Row}
use Rattle.session_line.specs.{declared.marked_rows.MarkedRow.MarkedRow, declared.answers.Told.Told, declared.answers.Answer.Answer, Answers.{WhereStatus, told_of_call, called}}
use Rattle.session_commands.specs.declared.refusals.Refusal.TheVariants.{OutOfMemory}
use Rattle.session_line.specs.declared.answers.Told.TheVariants as told
use Rattle.deck_files.specs.ShelfRelations.{ShelfRelations}

-- the row of a deck, marked so
abbrev pub marked : Row → Bool → MarkedRow
marked row saved = record { row = row; saved = saved }

module _ {S : Type 0} (files : ShelfRelations S) where
  -- the shelf answered of these decks, one after the other, whether the file of each has the cards of its version
  pub data MarksRows (first : S) : List Row → List MarkedRow → S → Type 0 where
    no_row : MarksRows first [] [] first
    next_row : (rows : List Row) (marks : List MarkedRow) (middle last : S) (row : Row) (saved : Bool) → MarksRows first rows marks middle → files.tells_saved middle row.name row.version saved last →
        MarksRows first (rows ++ row ∷ []) (marks ++ marked row saved ∷ []) last

  -- the status is shown with its decks marked; or there was no memory for the marks, and the shelf was not called
  pub data TellsMarks (version : ℕ) (published : Option ℕ) (rows : List Row) (shelf after : S) (answer : Answer) : Type 0 where
    told_all : (marks : List MarkedRow) → MarksRows shelf rows marks after → answer ≡ called (told.FileStatus version published marks) → TellsMarks version published rows shelf after answer
    lacking : after ≡ shelf → answer ≡ called (told.Refused OutOfMemory) → TellsMarks version published rows shelf after answer

  -- the decks of the status that would be shown are marked; what else would be shown is, and the shelf is not called
  abbrev pub MarksTold : Told → S → S → Answer → Type 0
  MarksTold what shelf after answer = WhereStatus what (λ version published rows. TellsMarks version published rows shelf after answer) ((after ≡ shelf) × (answer ≡ called what))

module _ {C S : Type 0} (asks : C → Question → Reply → C → Type 0) (files : ShelfRelations S) where
  -- STATUS FILES: one call of the desk for the status, and then one of the shelf for each deck
  pub record ShowsFileStatus (desk next : C) (shelf after : S) (answer : Answer) : Type 0 where
    pub reply : Reply
    pub made : asks desk Status reply next
    pub kept : MarksTold files (told_of_call reply) shelf after answer
