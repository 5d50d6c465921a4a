use Rattle.std.{proofs.Common.{ℕ, List, ◌≡◌, length, subst, sym}, specs.Prelude.IfOk}
use Rattle.text_ports.specs.Joins.Sending.{Sends}
use Rattle.session_line.proofs.ChangeSteps.{own-text}
use Rattle.session_line.proofs.change_writing.write_change.Goals as goal

pub returns-in-Some-clause-sends : goal.returns-in-Some-clause-sends
returns-in-Some-clause-sends g c =
    subst (λ (text : List ℕ). Sends (g.W.Write.contents c.args.output.now.0) (g.W.Write.contents c.write_headed.new.output.0) text c.write_headed.result)
    (sym (own-text c.args.own.now c.in-Some.one.now c.in-Some.field-0-1.now c.in-Some.ensures.cases.0)) c.write_headed.ensures.sends

pub returns-in-Some-clause-size : goal.returns-in-Some-clause-size
returns-in-Some-clause-size g c =
    subst (λ (text : List ℕ). IfOk c.write_headed.result (λ (size : ℕ). size ≡ length text))
    (sym (own-text c.args.own.now c.in-Some.one.now c.in-Some.field-0-1.now c.in-Some.ensures.cases.0)) c.write_headed.ensures.size
