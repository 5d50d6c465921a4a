use Rattle.std.proofs.Common.{ℕ, ◌≡◌, ◌∙◌, List, sym, ap, subst}
use Rattle.journal.specs.JournalFiles.{AreKeptAs, Versions}
use Rattle.journal.proofs.journal_file.JournalFile.append.Goals as goal

-- the records of the batch are the last
pub new-requires : goal.new-requires
new-requires g c =
    let from : c.args.self.now.next ≡ c.batch.inside.first = sym (c.if-batch-self.false ∙ ap (λ j. j.next) c.self.view_is) in
    let drafts : c.args.batch.drafts ≡ c.into_drafts.result.items = sym c.into_drafts.ensures in
    subst (λ (ds : List (List ℕ)). AreKeptAs g.F.RecordsFile.has_done c.kept.result.first c.kept.result.next c.batch.inside.first ds) drafts
    (subst (λ (n : ℕ). AreKeptAs g.F.RecordsFile.has_done c.kept.result.first c.kept.result.next n c.args.batch.drafts) from
    (subst (λ (v : Versions). AreKeptAs g.F.RecordsFile.has_done v.first v.next c.args.self.now.next c.args.batch.drafts) (sym c.kept.ensures) (c.put_batch.ensures.kept c.if-put_batch.true)))
