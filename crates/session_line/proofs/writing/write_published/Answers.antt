use Rattle.std.proofs.Common.{ℕ, List, ◌++◌, subst, ◌∙◌}
use Rattle.text_ports.specs.Joins.Sending.{Sends}
use Rattle.session_line.proofs.writing.write_published.Goals as goal

pub returns-clause-sends : goal.returns-clause-sends
returns-clause-sends g c =
    let P : List ℕ → Type 0 = λ (first : List ℕ). Sends (g.W.Write.contents c.args.output.now.0) (g.W.Write.contents c.write_shown.new.output.0) (first ++ c.args.shown) c.write_shown.result in
    subst P (c.as_slice.ensures.value ∙ c.published_head-line.ensures) c.write_shown.ensures.sends
