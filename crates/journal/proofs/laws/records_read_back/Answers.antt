use Rattle.journal.proofs.RecordLaws.{records-back}
use Rattle.journal.proofs.laws.records_read_back.Goals as goal

pub returns : goal.returns
returns c = records-back
