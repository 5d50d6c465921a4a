use Rattle.std.proofs.Common.{ℕ, ◌≡◌, true}
use Rattle.desk_service.specs.Connections.{ServesConnections}
use Rattle.desk_service.proofs.connections.serve_connections.Given as goal

-- so many were served, and with `once` none yet
abbrev pub invariant-loop : goal.invariant-loop
invariant-loop g l = (count : ℕ)
    × ServesConnections l.serving.rights g.C.Calls.relations g.S.Shelf.relations l.fn.desk l.fn.shelf l.desk l.shelf count
    × (l.serving.once ≡ true → count ≡ 0)
