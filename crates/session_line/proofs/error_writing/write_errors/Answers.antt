use Rattle.std.{specs.Prelude.{filter, flat_map}, proofs.lemmas.Grind.flat_map-append}
use Rattle.session_line.{specs.Errors.{errors_where, map_lines, shows_line}, specs.Replies.line_of, proofs.SentSoFar.part-both}
use Rattle.session_line.proofs.error_writing.write_errors.Goals as goal

pub returns-in-Err-clause-sends : goal.returns-in-Err-clause-sends
returns-in-Err-clause-sends g c =
    let split = flat_map-append line_of (flat_map (errors_where c.args.view.now) c.args.objects.now) (filter (shows_line c.args.view.now) (map_lines c.args.map.now)) in
    part-both _ _ _ _ _ _ c.in_ok-sent.sent c.in-Err.broken.sent split c.in_ok-sent.ensures.size c.in_ok-sent.ensures.sends c.in-Err.ensures.sends
