-- The three kinds of outcome that a step has for what everybody sees: it stays, a change is accepted, or the desk's decks are published.
use Rattle.std.proofs.Common.{◌≡◌, ◌+◌, true, false, Some, refl}
use Rattle.desk_core.{specs.Changes.{Change, changed}, specs.Desks.{Desk, Publication, decks_of}, specs.Joins.Calls.{Call, Reply}, specs.Runs.{IsUnchanged, change_asked, accepts}, proofs.StepKinds.publishes}

-- nothing that is seen has changed, and no change is accepted
pub record Stays (desk : Desk) (reply : Reply) (next : Desk) : Type 0 where
  pub silent : accepts reply ≡ false
  pub unchanged : IsUnchanged desk next

-- the change that was asked for is made
pub record Changes (desk : Desk) (call : Call) (reply : Reply) (next : Desk) : Type 0 where
  pub change : Change
  pub asked : change_asked call reply ≡ Some change
  pub told : accepts reply ≡ true
  pub version : next.version ≡ desk.version + 1
  pub decks : decks_of next ≡ changed (decks_of desk) change
  pub publication : next.publication ≡ desk.publication

-- the publication is of the desk's version and decks
pub record Publishes (desk : Desk) (call : Call) (reply : Reply) (next : Desk) : Type 0 where
  pub stored : publishes call reply ≡ true
  pub silent : accepts reply ≡ false
  pub version : next.version ≡ desk.version
  pub decks : decks_of next ≡ decks_of desk
  pub publication : Publication
  pub shown : next.publication ≡ Some publication
  pub version_of : publication.version ≡ desk.version
  pub decks_are : publication.decks ≡ decks_of desk

pub data Outcome (desk : Desk) (call : Call) (reply : Reply) (next : Desk) : Type 0 where
  by_staying : Stays desk reply next → Outcome desk call reply next
  by_changing : Changes desk call reply next → Outcome desk call reply next
  by_publishing : Publishes desk call reply next → Outcome desk call reply next

-- a desk is unchanged by nothing
pub unchanged_itself : (desk : Desk) → IsUnchanged desk desk
unchanged_itself desk = record { version = refl; decks = refl; publication = refl }
