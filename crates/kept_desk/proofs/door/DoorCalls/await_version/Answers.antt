use Rattle.std.proofs.Common.{sym}
use Rattle.kept_desk.proofs.door.DoorCalls.await_version.Goals as goal

pub returns : goal.returns
returns g c = rw (sym c.self.view_is) c.await_publication.ensures
