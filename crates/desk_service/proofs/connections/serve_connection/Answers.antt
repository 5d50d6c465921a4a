use Rattle.std.proofs.Common.{refl}
use Rattle.desk_service.specs.Connections.{served}
use Rattle.desk_service.proofs.connections.serve_connection.Goals as goal

pub returns : goal.returns
returns g c = served _ _ c.serve_session-ending.result c.serve_session-ending.ensures.session refl refl refl refl
