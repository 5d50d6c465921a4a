use Rattle.journal.proofs.FileSteps.{has-cut}
use Rattle.journal.proofs.journal_file.JournalFile.cut_back.Goals as goal

pub invariant_of-self : goal.invariant_of-self
invariant_of-self g c = has-cut g.F.RecordsFile.has_done _ _ _ c.self.invariant c.cut_to-self-inside.ensures
