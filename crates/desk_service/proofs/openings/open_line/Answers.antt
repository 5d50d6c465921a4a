use Rattle.std.proofs.Common.{◌∙◌, refl, sym}
use Rattle.desk_service.{specs.Sessions.{between, no_line, turned_away, first_line}, proofs.SessionSteps.line-came}
use Rattle.desk_service.proofs.openings.open_line.Goals as goal

pub returns-in-Some : goal.returns-in-Some
returns-in-Some g c =
    let taken = c.next_line-answer in
    no_line taken.result taken.new.line c.in-Some.ending (record { input = taken.ensures.reads; output = refl; desk = refl; shelf = refl; reader = taken.ensures.count; writer = refl })
    (sym c.ending_without.ensures ∙ c.in-Some.is) refl

pub returns-then-is_turned_away : goal.returns-then-is_turned_away
returns-then-is_turned_away g c =
    let taken = rw (line-came _ (sym c.ending_without.ensures ∙ c.in_default.is), ← c.as_slice-line.ensures.value) at c.next_line-answer.ensures in
    turned_away c.as_slice-line.result.now (record { input = taken.reads; output = refl; desk = refl; shelf = refl; reader = taken.count; writer = refl })
    (sym c.is_turned_away.ensures ∙ c.if-is_turned_away.true) refl

pub returns : goal.returns
returns g c =
    let taken = rw (line-came _ (sym c.ending_without.ensures ∙ c.in_default.is), ← c.as_slice-line.ensures.value) at c.next_line-answer.ensures in
    let input = c.next_line-answer.new.input in
    let after = c.serve_taken-outcome in
    first_line c.as_slice-line.result.now (between g.R.Read.remaining g.W.Write.contents input c.args.output.now c.args.desk.now c.args.shelf.now) c.ending_after.result
    (record { input = taken.reads; output = refl; desk = refl; shelf = refl; reader = taken.count; writer = refl }) (sym c.is_turned_away.ensures ∙ c.if-is_turned_away.false)
    (record {
      middle = between g.R.Read.remaining g.W.Write.contents after.new.input after.new.output after.new.desk after.new.shelf;
      outcome = after.result;
      flushed = c.send_on-flushed.result;
      served = after.ensures.serves;
      reads = after.ensures.read_faults;
      writes = after.ensures.write_faults;
      sent = record { output = c.send_on-flushed.ensures.bytes; input = refl; desk = refl; shelf = refl; reader = refl; writer = c.send_on-flushed.ensures.count };
      silent = c.send_on-flushed.ensures.fault;
      ends = c.ending_after.ensures;
    })
    (rw c.is_command.ensures at c.opening_of.ensures)
