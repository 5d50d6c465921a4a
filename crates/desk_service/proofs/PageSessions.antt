-- The lines of a page, served as a session.
use Rattle.std.proofs.Common.{ℕ, ◌≡◌, Bool, List, [], Option, Some, subst}
use Rattle.deck_files.specs.ShelfRelations.{ShelfRelations}
use Rattle.session_line.specs.{declared.rights.Rights.TheVariants.Edits, Serving.sides, DeskRelations.DeskRelations}
use Rattle.desk_service.specs.{declared.sessions.Ending.Ending, Sessions.{Standing, ServesSession, standing}, PageLines.{is_whole, ServesBody}}

module _ {C S : Type 0} (calls : DeskRelations C) (files : ShelfRelations S) where
  -- its reader began with the lines, its writer with nothing, and these are the replies that it left
  pub body-served : (old new : C × S) (lines left sent replies : List ℕ) (input output : Option (List ℕ)) (desk : C) (shelf : S) (reads writes read_faults write_faults : ℕ) (whole : Bool) (ending : Ending) →
      input ≡ Some lines → output ≡ Some [] → desk ≡ old.0 → shelf ≡ old.1 → reads ≡ 0 → writes ≡ 0 → replies ≡ sent → whole ≡ is_whole ending →
      ServesSession Edits calls files (standing (sides input output desk shelf) reads writes) (standing (sides (Some left) (Some sent) new.0 new.1) read_faults write_faults) ending →
      ServesBody calls files old lines replies whole new
  body-served old new lines left sent replies input output desk shelf reads writes read_faults write_faults whole ending of_lines of_nothing same_desk same_shelf no_read no_write of_replies told session =
      let begun : standing (sides input output desk shelf) reads writes ≡ standing (sides (Some lines) (Some []) old.0 old.1) 0 0 = cc in
      let served : ServesSession Edits calls files (standing (sides (Some lines) (Some []) old.0 old.1) 0 0) (standing (sides (Some left) (Some sent) new.0 new.1) read_faults write_faults) ending =
      subst (λ (first : Standing C S). ServesSession Edits calls files first (standing (sides (Some left) (Some sent) new.0 new.1) read_faults write_faults) ending) begun session in
      let ended : standing (sides (Some left) (Some sent) new.0 new.1) read_faults write_faults ≡ standing (sides (Some left) (Some replies) new.0 new.1) read_faults write_faults = cc in
      record {
        left = left;
        read_faults = read_faults;
        write_faults = write_faults;
        ending = ending;
        session = subst (λ (last : Standing C S). ServesSession Edits calls files (standing (sides (Some lines) (Some []) old.0 old.1) 0 0) last ending) ended served;
        told = told;
      }
