use Rattle.std.proofs.Common.{ℕ, ◌≡◌, true, sym, ap, subst, ◌∙◌}
use Rattle.journal.{specs.JournalFiles.{AreKeptAs, IsRun, TakesSome}, proofs.FileSteps.{has-written, has-not-written, takes-writing, are-kept-as}}
use Rattle.journal.proofs.journal_file.JournalFile.write.Goals as goal

-- the text was not kept
pub invariant_of-self : goal.invariant_of-self
invariant_of-self g c =
    let clean : c.self.inside.clean ≡ true = ap (λ j. j.clean) c.self.view_is ∙ c.requires.clean in
    has-not-written g.F.RecordsFile.has_done _ c.args.text.now _ _ c.self.invariant clean c.in-Some.ensures.some c.if-not-write_and_note.ensures

-- it was
pub invariant_of-self-2 : goal.invariant_of-self-2
invariant_of-self-2 g c =
    let clean : c.self.inside.clean ≡ true = ap (λ j. j.clean) c.self.view_is ∙ c.requires.clean in
    let run : IsRun c.self.inside.next c.args.drafts.now c.args.text.now c.args.next = subst (λ (n : ℕ). IsRun n c.args.drafts.now c.args.text.now c.args.next) (sym (ap (λ j. j.next) c.self.view_is)) c.requires.run in
    has-written g.F.RecordsFile.has_done _ c.args.drafts.now c.args.text.now _ _ _ c.self.invariant clean run c.in-Some.ensures.some c.if-not-write_and_note.ensures

pub returns-then-not-write_and_note-clause-steps : goal.returns-then-not-write_and_note-clause-steps
returns-then-not-write_and_note-clause-steps g c =
    subst (λ f. TakesSome g.F.RecordsFile.has_done f c.write_and_note.new.file) (ap (λ j. j.file) c.self.view_is) (takes-writing g.F.RecordsFile.has_done _ _ _ _ _ c.if-not-write_and_note.ensures)

pub returns-clause-steps : goal.returns-clause-steps
returns-clause-steps g c =
    subst (λ f. TakesSome g.F.RecordsFile.has_done f c.write_and_note.new.file) (ap (λ j. j.file) c.self.view_is) (takes-writing g.F.RecordsFile.has_done _ _ _ _ _ c.if-not-write_and_note.ensures)

pub returns-clause-kept : goal.returns-clause-kept
returns-clause-kept g c = λ kept.
    let clean : c.self.inside.clean ≡ true = ap (λ j. j.clean) c.self.view_is ∙ c.requires.clean in
    let next : c.self.inside.next ≡ c.args.self.now.next = ap (λ j. j.next) c.self.view_is in
    let run : IsRun c.self.inside.next c.args.drafts.now c.args.text.now c.args.next = subst (λ (n : ℕ). IsRun n c.args.drafts.now c.args.text.now c.args.next) (sym next) c.requires.run in
    subst (λ (n : ℕ). AreKeptAs g.F.RecordsFile.has_done c.self.inside.first c.args.next n c.args.drafts.now) next
    (are-kept-as g.F.RecordsFile.has_done _ c.args.drafts.now c.args.text.now _ _ _ c.self.invariant clean run c.in-Some.ensures.some c.if-not-write_and_note.ensures)
