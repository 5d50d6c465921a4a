use Rattle.std.proofs.Common.{refl}
use Rattle.desk_service.specs.Sessions.{between}
use Rattle.desk_service.proofs.sessions.serve_line.Goals as goal

pub returns : goal.returns
returns g c =
    let after = c.serve_one-outcome in
    record {
      middle = between g.R.Read.remaining g.W.Write.contents after.new.input after.new.output after.new.desk after.new.shelf;
      outcome = after.result;
      flushed = c.send_on-flushed.result;
      served = after.ensures.serves;
      reads = after.ensures.read_faults;
      writes = after.ensures.write_faults;
      sent = record { output = c.send_on-flushed.ensures.bytes; input = refl; desk = refl; shelf = refl; reader = refl; writer = c.send_on-flushed.ensures.count };
      silent = c.send_on-flushed.ensures.fault;
      ends = c.ending_after.ensures;
    }
