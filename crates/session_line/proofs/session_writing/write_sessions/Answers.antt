use Rattle.std.proofs.Common.{ℕ, List, ◌++◌, subst, ◌∙◌}
use Rattle.session_line.specs.Replies.{sessions_text}
use Rattle.text_ports.specs.Joins.Sending.{Sends}
use Rattle.session_line.proofs.session_writing.write_sessions.Goals as goal

pub returns-clause-sends : goal.returns-clause-sends
returns-clause-sends g c =
    let P : List ℕ → Type 0 = λ (first : List ℕ). Sends (g.W.Write.contents c.args.output.now.0) (g.W.Write.contents c.write_behind.new.output.0) (first ++ sessions_text c.args.sessions.now) c.write_behind.result in
    subst P (c.as_slice.ensures.value ∙ c.service_line-line.ensures) c.write_behind.ensures.sends
