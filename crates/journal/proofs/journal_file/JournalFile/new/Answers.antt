use Rattle.journal.proofs.FileSteps.{has-opened}
use Rattle.journal.proofs.journal_file.JournalFile.new.Goals as goal

pub invariant_of-result : goal.invariant_of-result
invariant_of-result g c = has-opened g.F.RecordsFile.has_done c.args.file c.args.begun c.args.next
