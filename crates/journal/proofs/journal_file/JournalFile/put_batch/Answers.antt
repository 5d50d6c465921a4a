use Rattle.std.proofs.Common.{ℕ, ◌≡◌, ◌∙◌, List, [], sym, ap, subst}
use Rattle.journal.{specs.JournalFiles.AreKeptAs, proofs.FileSteps.{none-kept-as, no-drafts}}
use Rattle.journal.proofs.journal_file.JournalFile.put_batch.Goals as goal

-- there are none
pub returns-then-batch-self-clause-kept : goal.returns-then-batch-self-clause-kept
returns-then-batch-self-clause-kept g c = λ kept.
    let first : c.self.inside.first ≡ c.args.self.now.first = ap (λ j. j.first) c.self.view_is in
    let next : c.self.inside.next ≡ c.args.self.now.next = ap (λ j. j.next) c.self.view_is in
    let begins : c.batch.inside.first ≡ c.self.inside.next = ap (λ b. b.first) c.batch.view_is ∙ (c.requires ∙ sym next) in
    let none : [] ≡ c.args.batch.now.drafts = sym (no-drafts _ _ _ c.batch.invariant.next_is (c.if-batch-self.true ∙ sym begins)) ∙ ap (λ b. b.drafts) c.batch.view_is in
    subst (λ (ds : List (List ℕ)). AreKeptAs g.F.RecordsFile.has_done c.args.self.now.first c.args.self.now.next c.args.self.now.next ds) none
    (subst (λ (n : ℕ). AreKeptAs g.F.RecordsFile.has_done n c.args.self.now.next c.args.self.now.next []) first
    (subst (λ (n : ℕ). AreKeptAs g.F.RecordsFile.has_done c.self.inside.first n n []) next (none-kept-as g.F.RecordsFile.has_done _ c.self.invariant)))

-- these are the last
pub returns-clause-kept : goal.returns-clause-kept
returns-clause-kept g c = λ kept.
    let drafts : c.as_slice-2.result.now ≡ c.args.batch.now.drafts = c.as_slice-2.ensures ∙ ap (λ b. b.drafts) c.batch.view_is in
    subst (λ (ds : List (List ℕ)). AreKeptAs g.F.RecordsFile.has_done c.put.new.self.first c.put.new.self.next c.args.self.now.next ds) drafts (c.put.ensures.kept kept)
