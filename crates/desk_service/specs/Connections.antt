-- The connections that a session thread serves (ours).
use Rattle.std.specs.Prelude.{ℕ, ◌≡◌, ◌+◌, ◌≤◌, Bool, true, false}
use Rattle.deck_files.specs.ShelfRelations.{ShelfRelations}
use Rattle.session_line.specs.{declared.rights.Rights.Rights, declared.rights.Rights.TheVariants.{Edits, Reads}, DeskRelations.DeskRelations}
use Rattle.desk_service.specs.{declared.clients.Clients.Clients, declared.clients.Clients.TheVariants.{Editing, Reading}, declared.sessions.Ending.Ending, declared.connections.Closed.Closed, declared.connections.Closed.TheVariants.{NoMore, Once, Asked}, Sessions.{Standing, ServesSession}}

-- after how many connections a thread ends: where no more can come, with `once` before the first; with `once` after that; or, where the end of the service is asked for, after one at least
abbrev pub EndsAfter : Closed → Bool → ℕ → Type 0
EndsAfter NoMore once count = once ≡ true → count ≡ 0
EndsAfter Once once count = (once ≡ true) × (count ≡ 1)
EndsAfter Asked once count = (once ≡ false) × (1 ≤ count)

-- what the clients of a session may do, by where it gets them from
abbrev pub rights_of : Clients → Rights
rights_of (Editing clients) = Edits
rights_of (Reading clients) = Reads

module _ {C S : Type 0} (rights : Rights) (calls : DeskRelations C) (files : ShelfRelations S) where
  -- one connection: a session from the desk and the shelf before to those after; or it is closed at once, and both are as they were
  pub data ServesConnection (desk : C) (shelf : S) (next : C) (after : S) : Type 0 where
    closed : next ≡ desk → after ≡ shelf → ServesConnection desk shelf next after
    served : (first last : Standing C S) (ending : Ending) → ServesSession rights calls files first last ending →
        first.sides.desk ≡ desk → first.sides.shelf ≡ shelf → last.sides.desk ≡ next → last.sides.shelf ≡ after → ServesConnection desk shelf next after

  -- so many connections, one after the other
  pub data ServesConnections (desk : C) (shelf : S) : C → S → ℕ → Type 0 where
    no_connection : ServesConnections desk shelf desk shelf 0
    next_connection : (middle next : C) (between after : S) (count : ℕ) → ServesConnections desk shelf middle between count → ServesConnection middle between next after →
        ServesConnections desk shelf next after (count + 1)
