-- The lines that a page sends (ours): a session whose reader has these lines and no more, and whose writer has nothing yet.
use Rattle.std.specs.Prelude.{ℕ, ◌≡◌, Bool, true, false, List, [], Some}
use Rattle.deck_files.specs.ShelfRelations.{ShelfRelations}
use Rattle.session_line.specs.{declared.rights.Rights.TheVariants.Edits, Serving.sides, DeskRelations.DeskRelations}
use Rattle.desk_service.specs.{declared.sessions.Ending.Ending, Sessions.{ServesSession, standing}}
use Rattle.desk_service.specs.declared.sessions.Ending.TheVariants as ending

-- whether the lines of a session that ended so have their replies: all found room, and the first line is no request of HTTP, which has none
abbrev pub is_whole : Ending → Bool
is_whole ending.Left = true
is_whole ending.Full = true
is_whole ending.Request = false
is_whole ending.Stranger = true
is_whole ending.ReadFault = false
is_whole ending.WriteFault = false

module _ {C S : Type 0} (calls : DeskRelations C) (files : ShelfRelations S) where
  -- desk and shelf before, the lines, their replies, whether none is missing, and desk and shelf after
  pub record ServesBody (old : C × S) (lines replies : List ℕ) (whole : Bool) (new : C × S) : Type 0 where
    pub left : List ℕ
    pub read_faults : ℕ
    pub write_faults : ℕ
    pub ending : Ending
    pub session : ServesSession Edits calls files
        (standing (sides (Some lines) (Some []) old.0 old.1) 0 0) (standing (sides (Some left) (Some replies) new.0 new.1) read_faults write_faults) ending
    pub told : whole ≡ is_whole ending
