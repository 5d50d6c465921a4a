use Rattle.std.proofs.Common.{ℕ, ◌≡◌, List, sym, subst, ◌∙◌}
use Rattle.definitions.proofs.TextLaws.{same_text-true}
use Rattle.journal.specs.JournalFiles.{IsKeptAs}
use Rattle.journal.proofs.kept_records.KeptRecord.is_of.Goals as goal

pub returns-then-self-version-clause-kept : goal.returns-then-self-version-clause-kept
returns-then-self-version-clause-kept g c = λ same.
    let draft : c.self.inside.draft ≡ c.args.text.now = sym c.as_slice.ensures ∙ same_text-true _ _ (sym c.is_same_text.ensures ∙ same) ∙ c.as_slice-then-self-version.ensures in
    subst (λ (n : ℕ). IsKeptAs g.F.RecordsFile.has_done n c.args.text.now) c.if-self-version.true (subst (λ (d : List ℕ). IsKeptAs g.F.RecordsFile.has_done c.self.inside.version d) draft c.self.invariant)
