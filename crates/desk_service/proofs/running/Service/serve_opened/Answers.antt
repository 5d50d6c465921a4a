use Rattle.std.proofs.{Common.{◌≡◌, ◌+◌, ap, ◌∙◌, length, arith}, lemmas.List.FromFn.length-map-range_with_len}
use Rattle.desk_service.proofs.running.Service.serve_opened.Goals as goal

pub serve_at-requires-clause-enough : goal.serve_at-requires-clause-enough
serve_at-requires-clause-enough g c =
    let all : length c.in_ok-office.seats.items ≡ c.args.self.now.settings.now.workers + c.changing_threads-threads.result = ap length c.in_ok-office.ensures.seats.0 ∙ length-map-range_with_len _ 0 _ in
    omega (arith, all, c.changing_threads-threads.ensures.count)
