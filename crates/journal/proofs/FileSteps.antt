-- Steps of the file of a journal: what it has kept goes on.
use Rattle.std.proofs.Common.{ℕ, ◌≡◌, ◌+◌, List, [], ◌∷◌, ◌++◌, length, Option, Bool, true, false, refl, sym, ap, subst, ◌∙◌, arith, append_assoc, append-nil, length-append}
use Rattle.journal.{specs.declared.queue.Unwritten.Unwritten, specs.Queues.{GoOut, texts_from}, proofs.QueueOrder.so-far, specs.Records.text_with_version, specs.declared.marks.Mark.Mark, specs.Marks.mark_behind, proofs.MarkSteps.{mark-none, mark-more}, specs.JournalFiles.{Append, Sync, CutTo, Step, Note, HasKept, at_opening, cut_back, noted, not_noted, not_synced, not_written, IsRun, JournalFile, TakesStep, TakesSome, CutsLast, IsCutBack, WritesAndNotes, told_to_note, sync_failed, append_failed, HasRecords, AreKeptAs, IsKeptAs}}

-- ---- runs of records

texts_from-append : (version : ℕ) (drafts more : List (List ℕ)) → texts_from version (drafts ++ more) ≡ texts_from version drafts ++ texts_from (version + length drafts) more
texts_from-append version [] more =
    let same : version ≡ version + 0 = omega arith in
    ap (λ (n : ℕ). texts_from n more) same
texts_from-append version (draft ∷ drafts) more =
    let same : version + 1 + length drafts ≡ version + length (draft ∷ drafts) = omega arith in
    ap (λ (t : List ℕ). text_with_version version draft ++ t) (texts_from-append (version + 1) drafts more ∙ ap (λ (n : ℕ). texts_from (version + 1) drafts ++ texts_from n more) same)
    ∙ sym (append_assoc (text_with_version version draft) (texts_from (version + 1) drafts) (texts_from (version + length (draft ∷ drafts)) more))

pub run-none : (first : ℕ) → IsRun first [] [] first
run-none first = record { text_is = refl; next_is = omega arith }

pub run-join : (first middle next : ℕ) (drafts others : List (List ℕ)) (text more : List ℕ) → IsRun first drafts text middle → IsRun middle others more next → IsRun first (drafts ++ others) (text ++ more) next
run-join first middle next drafts others text more one two =
    let more_is : more ≡ texts_from (first + length drafts) others = two.text_is ∙ ap (λ (n : ℕ). texts_from n others) one.next_is in
    let a : middle ≡ first + length drafts = one.next_is in
    let b : next ≡ middle + length others = two.next_is in
    let both : length (drafts ++ others) ≡ length drafts + length others = length-append drafts others in
    record {
      text_is = ap (λ (t : List ℕ). t ++ more) one.text_is ∙ (ap (λ (t : List ℕ). texts_from first drafts ++ t) more_is ∙ sym (texts_from-append first drafts others));
      next_is = omega (arith, a, b, both);
    }

-- a run that ends where it begins has no records
pub no-drafts : (first next : ℕ) (drafts : List (List ℕ)) → next ≡ first + length drafts → next ≡ first → drafts ≡ []
no-drafts first next [] is none = refl
no-drafts first next (draft ∷ drafts) is none = let not : first + 1 + length drafts ≡ first = omega (arith, is, none) in absurd (omega arith)

-- where the last of those that are left is taken, it has gone with the others
pub one-gone : (all left fewer gone : List (List ℕ)) (draft : List ℕ) → all ≡ left ++ gone → left ≡ fewer ++ draft ∷ [] → all ≡ fewer ++ draft ∷ gone
one-gone all left fewer gone draft is last = is ∙ (ap (λ (ds : List (List ℕ)). ds ++ gone) last ∙ append_assoc fewer (draft ∷ []) gone)

-- what goes out is such a run
pub run-out : (places : List (Option Unwritten)) (first : ℕ) (drafts : List (List ℕ)) (text : List ℕ) (next : ℕ) → GoOut places first drafts text next → IsRun first drafts text next
run-out places first drafts text next out = let all = so-far places first drafts text next out in record { text_is = all.text_is; next_is = all.next_is }

-- ---- the file

module _ {F : Type 0} (has_done : F → List Step → Type 0) where
  pub has-opened : (file : F) (begun : Mark) (next : ℕ) → HasRecords has_done (record { file = file; begun = begun; has = begun; first = next; next = next; clean = false })
  has-opened file begun next =
      record { opened = file; steps = []; drafts = []; text = []; taken = λ before had. had; kept = at_opening; run = run-none next; has_is = mark-none begun }

  -- what stands behind the whole records is cut off, or is not
  pub has-cut : (journal : JournalFile F) (done : Bool) (file : F) → HasRecords has_done journal → TakesStep has_done journal.file (CutTo journal.has.length, done) file → HasRecords has_done (record journal { file = file; clean = done })
  has-cut journal done file has step =
      record {
        opened = has.opened;
        steps = (CutTo journal.has.length, done) ∷ has.steps;
        drafts = has.drafts;
        text = has.text;
        taken = λ before had. step (has.steps ++ before) (has.taken before had);
        kept = subst (λ (m : Mark). HasKept journal.begun ((CutTo m.length, done) ∷ has.steps) has.text done) (sym has.has_is) (cut_back has.steps has.text journal.clean done has.kept);
        run = has.run;
        has_is = has.has_is;
      }

  -- the mark of the records with a text behind them
  mark-with : (journal : JournalFile F) (text more : List ℕ) (mark : Mark) → journal.has ≡ mark_behind journal.begun text → mark ≡ mark_behind journal.has more → mark ≡ mark_behind journal.begun (text ++ more)
  mark-with journal text more mark has_is is = is ∙ ap (λ (m : Mark). mark_behind m more) has_is ∙ mark-more journal.begun text more

  -- a text is kept
  pub has-written : (journal : JournalFile F) (drafts : List (List ℕ)) (more : List ℕ) (mark : Mark) (next : ℕ) (file : F) → HasRecords has_done journal → journal.clean ≡ true → IsRun journal.next drafts more next →
      mark ≡ mark_behind journal.has more → WritesAndNotes has_done more mark true journal.file file → HasRecords has_done (record journal { file = file; has = mark; next = next })
  has-written journal drafts more mark next file has clean run is (told_to_note steps) =
      let with : mark ≡ mark_behind journal.begun (has.text ++ more) = mark-with journal has.text more mark has.has_is is in
      record {
        opened = has.opened;
        steps = (Note mark, true) ∷ (Sync, true) ∷ (Append more, true) ∷ has.steps;
        drafts = has.drafts ++ drafts;
        text = has.text ++ more;
        taken = λ before had. steps (has.steps ++ before) (has.taken before had);
        kept =
            subst (λ (m : Mark). HasKept journal.begun ((Note m, true) ∷ (Sync, true) ∷ (Append more, true) ∷ has.steps) (has.text ++ more) journal.clean) (sym with)
            (subst (λ (c : Bool). HasKept journal.begun ((Note (mark_behind journal.begun (has.text ++ more)), true) ∷ (Sync, true) ∷ (Append more, true) ∷ has.steps) (has.text ++ more) c) (sym clean)
            (noted has.steps has.text more (subst (λ (c : Bool). HasKept journal.begun has.steps has.text c) clean has.kept)));
        run = run-join journal.first journal.next next has.drafts drafts has.text more has.run run;
        has_is = with;
      }
  has-written journal drafts more mark next file has clean run is (sync_failed none steps) = cc
  has-written journal drafts more mark next file has clean run is (append_failed none steps) = cc

  -- and so are its records, as the last
  pub are-kept-as : (journal : JournalFile F) (drafts : List (List ℕ)) (more : List ℕ) (mark : Mark) (next : ℕ) (file : F) → HasRecords has_done journal → journal.clean ≡ true → IsRun journal.next drafts more next →
      mark ≡ mark_behind journal.has more → WritesAndNotes has_done more mark true journal.file file → AreKeptAs has_done journal.first next journal.next drafts
  unfolding has-written
  are-kept-as journal drafts more mark next file has clean run is (told_to_note steps) =
      let new : JournalFile F = record journal { file = file; has = mark; next = next } in
      record {
        journal = new;
        records = has-written journal drafts more mark next file has clean run is (told_to_note steps);
        before = has.drafts;
        drafts_are = refl;
        first_is = refl;
        next_is = refl;
        from_is = has.run.next_is;
      }
  are-kept-as journal drafts more mark next file has clean run is (sync_failed none steps) = cc
  are-kept-as journal drafts more mark next file has clean run is (append_failed none steps) = cc

  -- no records are always the last
  pub none-kept-as : (journal : JournalFile F) → HasRecords has_done journal → AreKeptAs has_done journal.first journal.next journal.next []
  none-kept-as journal has =
      record { journal = journal; records = has; before = has.drafts; drafts_are = sym (append-nil has.drafts); first_is = refl; next_is = refl; from_is = has.run.next_is }

  -- so many are the last
  pub kept-length : (first next from : ℕ) (drafts : List (List ℕ)) → AreKeptAs has_done first next from drafts → next ≡ from + length drafts
  kept-length first next from drafts are =
      let run : are.journal.next ≡ are.journal.first + length are.records.drafts = are.records.run.next_is in
      let all : length are.records.drafts ≡ length (are.before ++ drafts) = ap length are.drafts_are in
      let both : length (are.before ++ drafts) ≡ length are.before + length drafts = length-append are.before drafts in
      let a : are.journal.first ≡ first = are.first_is in
      let b : are.journal.next ≡ next = are.next_is in
      let c : from ≡ first + length are.before = are.from_is in
      omega (arith, run, all, both, a, b, c)

  -- one of those that are kept
  pub is-kept-as : (first next from : ℕ) (drafts fewer behind : List (List ℕ)) (draft : List ℕ) → AreKeptAs has_done first next from drafts → drafts ≡ fewer ++ draft ∷ behind → IsKeptAs has_done (from + length fewer) draft
  is-kept-as first next from drafts fewer behind draft are is =
      let both : length (are.before ++ fewer) ≡ length are.before + length fewer = length-append are.before fewer in
      let a : from ≡ first + length are.before = are.from_is in
      let b : are.journal.first ≡ first = are.first_is in
      record {
        journal = are.journal;
        records = are.records;
        before = are.before ++ fewer;
        behind = behind;
        drafts_are = are.drafts_are ∙ (ap (λ (ds : List (List ℕ)). are.before ++ ds) is ∙ sym (append_assoc are.before fewer (draft ∷ behind)));
        version_is = omega (arith, a, b, both);
      }

  -- a text is not kept
  pub has-not-written : (journal : JournalFile F) (more : List ℕ) (mark : Mark) (file : F) → HasRecords has_done journal → journal.clean ≡ true → mark ≡ mark_behind journal.has more → WritesAndNotes has_done more mark false journal.file file →
      HasRecords has_done (record journal { file = file; clean = false })
  has-not-written journal more mark file has clean is (told_to_note steps) =
      let with : mark ≡ mark_behind journal.begun (has.text ++ more) = mark-with journal has.text more mark has.has_is is in
      record {
        opened = has.opened;
        steps = (Note mark, false) ∷ (Sync, true) ∷ (Append more, true) ∷ has.steps;
        drafts = has.drafts;
        text = has.text;
        taken = λ before had. steps (has.steps ++ before) (has.taken before had);
        kept =
            subst (λ (m : Mark). HasKept journal.begun ((Note m, false) ∷ (Sync, true) ∷ (Append more, true) ∷ has.steps) has.text false) (sym with)
            (not_noted has.steps has.text more (subst (λ (c : Bool). HasKept journal.begun has.steps has.text c) clean has.kept));
        run = has.run;
        has_is = has.has_is;
      }
  has-not-written journal more mark file has clean is (sync_failed none steps) =
      record {
        opened = has.opened;
        steps = (Sync, false) ∷ (Append more, true) ∷ has.steps;
        drafts = has.drafts;
        text = has.text;
        taken = λ before had. steps (has.steps ++ before) (has.taken before had);
        kept = not_synced has.steps has.text more (subst (λ (c : Bool). HasKept journal.begun has.steps has.text c) clean has.kept);
        run = has.run;
        has_is = has.has_is;
      }
  has-not-written journal more mark file has clean is (append_failed none steps) =
      record {
        opened = has.opened;
        steps = (Append more, false) ∷ has.steps;
        drafts = has.drafts;
        text = has.text;
        taken = λ before had. steps (has.steps ++ before) (has.taken before had);
        kept = not_written has.steps has.text more (subst (λ (c : Bool). HasKept journal.begun has.steps has.text c) clean has.kept);
        run = has.run;
        has_is = has.has_is;
      }

  -- the last of those that are left, where some of the last have gone
  pub kept-last : (first next from version : ℕ) (drafts left fewer gone : List (List ℕ)) (draft : List ℕ) → AreKeptAs has_done first next from drafts → drafts ≡ left ++ gone → left ≡ fewer ++ draft ∷ [] →
      version ≡ from + length fewer → IsKeptAs has_done version draft
  kept-last first next from version drafts left fewer gone draft are is last at_version =
      subst (λ (n : ℕ). IsKeptAs has_done n draft) (sym at_version)
      (is-kept-as first next from drafts fewer gone draft are (one-gone drafts left fewer gone draft is last))

  -- ---- what a text leaves that is not kept

  pub takes-writing : (bytes : List ℕ) (mark : Mark) (done : Bool) (old new : F) → WritesAndNotes has_done bytes mark done old new → TakesSome has_done old new
  takes-writing bytes mark done old new (told_to_note steps) = record { steps = (Note mark, done) ∷ (Sync, true) ∷ (Append bytes, true) ∷ []; taken = steps }
  takes-writing bytes mark done old new (sync_failed none steps) = record { steps = (Sync, false) ∷ (Append bytes, true) ∷ []; taken = steps }
  takes-writing bytes mark done old new (append_failed none steps) = record { steps = (Append bytes, false) ∷ []; taken = steps }

  takes-both : (old middle new : F) → TakesSome has_done old middle → TakesSome has_done middle new → TakesSome has_done old new
  takes-both old middle new one two = record {
    steps = two.steps ++ one.steps;
    taken = λ before had. subst (λ (steps : List Step). has_done new steps) (sym (append_assoc two.steps one.steps before)) (two.taken (one.steps ++ before) (one.taken before had));
  }

  -- a cut is the last step
  pub cuts-behind : (old middle new : F) (kept : ℕ) (done : Bool) → TakesSome has_done old middle → TakesStep has_done middle (CutTo kept, done) new → CutsLast has_done kept done old new
  cuts-behind old middle new kept done some cut = record { steps = some.steps; taken = λ before had. cut (some.steps ++ before) (some.taken before had) }

  -- nothing but a cut
  pub cut-back-first : (old new : JournalFile F) (done : Bool) → new ≡ record old { file = new.file; clean = done } → CutsLast has_done old.has.length done old.file new.file → IsCutBack has_done old new
  cut-back-first old new done same cut =
      let is : new.clean ≡ done = ap (λ (j : JournalFile F). j.clean) same in
      record {
        same = same ∙ ap (λ (c : Bool). record old { file = new.file; clean = c }) (sym is);
        cut = subst (λ (c : Bool). CutsLast has_done old.has.length c old.file new.file) (sym is) cut;
      }

  -- a cut behind what was not kept
  pub cut-back-behind : (old first second new : JournalFile F) (one done : Bool) → first ≡ record old { file = first.file; clean = one } → second ≡ record first { file = second.file; clean = second.clean } →
      new ≡ record second { file = new.file; clean = done } → TakesSome has_done old.file first.file → TakesSome has_done first.file second.file → TakesStep has_done second.file (CutTo second.has.length, done) new.file → IsCutBack has_done old new
  cut-back-behind old first second new one done is_first is_second is_new some more cut =
      let has : second.has ≡ old.has = ap (λ (j : JournalFile F). j.has) is_second ∙ ap (λ (j : JournalFile F). j.has) is_first in
      cut-back-first old new done
      (is_new ∙ ap (λ (j : JournalFile F). record j { file = new.file; clean = done }) is_second ∙ ap (λ (j : JournalFile F). record j { file = new.file; clean = done }) is_first)
      (subst (λ (m : Mark). CutsLast has_done m.length done old.file new.file) has
      (cuts-behind old.file second.file new.file second.has.length done (takes-both old.file first.file second.file some more) cut))
