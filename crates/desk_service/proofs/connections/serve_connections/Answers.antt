use Rattle.std.proofs.Common.{◌+◌, ◌∙◌, ap, arith, refl, sym, true≢false}
use Rattle.desk_service.specs.Connections.{no_connection, next_connection}
use Rattle.desk_service.proofs.connections.serve_connections.Goals as goal

pub loop-init : goal.loop-init
loop-init g c = (0, no_connection, λ once_only. refl)

pub returns-then-serving : goal.returns-then-serving
returns-then-serving g c =
    let before = c.loop.invariant in
    (before.0 + 1, next_connection _ _ _ _ before.0 before.1 c.serve_arrival.ensures, (c.if-serving.true, ap (λ n. n + 1) (before.2 c.if-serving.true)))

pub returns-then-is_asked : goal.returns-then-is_asked
returns-then-is_asked g c =
    let before = c.loop.invariant in
    (before.0 + 1, next_connection _ _ _ _ before.0 before.1 c.serve_arrival.ensures, (c.if-serving.false, omega arith))

pub loop-preserved : goal.loop-preserved
loop-preserved g c =
    let before = c.loop.invariant in
    (before.0 + 1, next_connection _ _ _ _ before.0 before.1 c.serve_arrival.ensures, λ once_only. absurd (true≢false (sym once_only ∙ c.if-serving.false)))
