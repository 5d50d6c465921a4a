use Rattle.journal.proofs.RecordLaws.{records-cut}
use Rattle.journal.proofs.laws.cut_records_are_left_out.Goals as goal

pub returns : goal.returns
returns c = records-cut
