use Rattle.std.proofs.Common.{◌∙◌, Some, ap}
use Rattle.desk_service.proofs.PageSessions.{body-served}
use Rattle.desk_service.proofs.page_lines.DeskLinesServeLines.serve.Goals as goal

pub returns : goal.returns
returns g c =
    let ended = c.serve_session-ending.new in
    body-served g.C.Calls.relations g.S.Shelf.relations c.args.self.now (ended.desk, ended.shelf) c.args.lines.now
    ended.input.0.now ended.output.0 c.into_inner.result _ _ _ _ _ _ ended.input.1 ended.output.1 c.is_whole.result c.serve_session-ending.result
    (ap (λ port. Some port.0.now) c.new-input.ensures) (ap (λ port. Some port.0) c.new-output.ensures ∙ ap Some c.requires)
    (ap (λ pair. pair.0) c.self.view_is) (ap (λ pair. pair.1) c.self.view_is) (ap (λ port. port.1) c.new-input.ensures) (ap (λ port. port.1) c.new-output.ensures)
    c.into_inner.ensures c.is_whole.ensures c.serve_session-ending.ensures.session
