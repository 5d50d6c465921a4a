use Rattle.std.proofs.Common.{ℕ, ap, subst}
use Rattle.journal.{specs.JournalFiles.AreKeptAs, proofs.FileSteps.cut-back-behind}
use Rattle.journal.proofs.journal_file.JournalFile.put.Goals as goal

-- the text was not kept, and what was written of it is cut off
pub returns-clause-left : goal.returns-clause-left
returns-clause-left g c = λ kept.
    cut-back-behind g.F.RecordsFile.has_done c.args.self.now c.make_clean.new.self c.write.new.self c.cut_back.new.self c.make_clean.result c.cut_back.result c.make_clean.ensures.same
    (c.write.ensures.same c.if-write.false) c.cut_back.ensures.same c.make_clean.ensures.steps c.write.ensures.steps c.cut_back.ensures.step

-- it was
pub returns-then-write-clause-kept : goal.returns-then-write-clause-kept
returns-then-write-clause-kept g c = λ kept.
    subst (λ (n : ℕ). AreKeptAs g.F.RecordsFile.has_done c.write.new.self.first c.write.new.self.next n c.args.drafts.now) (ap (λ j. j.next) c.make_clean.ensures.same) (c.write.ensures.kept c.if-write.true)
