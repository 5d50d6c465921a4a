-- The steps of reading a record: the lines so far leave the journal of what is left.
use Rattle.std.{proofs.Common.{ℕ, ◌≡◌, ◌+◌, ◌-◌, ◌^◌, ◌<◌, ◌≤◌, List, [], ◌∷◌, ◌++◌, Option, None, Some, length, sym, ap, subst, ◌∙◌, arith, append_assoc, length-append}, specs.Io.KnownBytes.Consumes, proofs.KnownBytes.Consumes-trans}
use Rattle.text_ports.{specs.Lines.{line_feed, ReadsWholeLine}, proofs.LineLaws.pieces_of}
use Rattle.text_ports.specs.declared.lines.LineIs.TheVariants as is
use Rattle.journal.{specs.declared.beginning.Open.Open, specs.declared.records.Record.Record, specs.declared.places.Place.Place, specs.declared.places.Ending.Ending, specs.declared.places.Ending.TheVariants.{Whole, Cut, Faulty}, specs.declared.reading.Next.TheVariants.{Found, Ended}, specs.declared.steps.Step.Step, specs.Places.{advanced, behind_record}, specs.Steps.line_step, specs.Journals.{ends, cut_at, faulty_at, journal_from}, specs.Reading.{ReadsNext, EndsIn, EndsWrong, GivesTooMuch, nothing, something}, proofs.JournalSteps.{stepped, journal-line, journal-cut, journal-long, wrong-something, wrong-nothing}}
use Rattle.journal.specs.declared.steps.Step.TheVariants as step

-- how the journal ends where no line is left, or it is too long
pub EndsIn-cut : (old new : Option (List ℕ)) (current : Option Open) (place : Place) (ending : Ending) (line : List ℕ) → ending ≡ cut_at place → ReadsWholeLine old new is.Cut line → EndsIn old new current place ending
EndsIn-cut old new current place ending line e read =
    let P : Ending → Type 0 = λ (x : Ending). EndsIn old new current place x in
    subst P (sym e) (record { taken = read.0; consumed = read.1; told = (journal-cut current place read.0 read.2.2 read.2.0 read.2.1, read.3) })

pub EndsIn-long : (old new : Option (List ℕ)) (current : Option Open) (place : Place) (ending : Ending) (line : List ℕ) → ending ≡ faulty_at place → ReadsWholeLine old new is.TooLong line → EndsIn old new current place ending
EndsIn-long old new current place ending line e read =
    let P : Ending → Type 0 = λ (x : Ending). EndsIn old new current place x in
    let long : 256 < length read.0 = let n = read.2.0 in omega (arith, n) in
    subst P (sym e) (record { taken = read.0; consumed = read.1; told = λ rest. journal-long current place read.0 rest read.2.1 long })

-- what stands behind a damaged record
pub EndsWrong-line : (old new : Option (List ℕ)) (place : Place) (ending : Ending) (line : List ℕ) → ending ≡ faulty_at place → ReadsWholeLine old new is.Line line → EndsWrong old new place ending
EndsWrong-line old new place ending line e read =
    let n : length read.0 ≡ length line + 1 = ap length read.2.0 ∙ length-append line (line_feed ∷ []) in
    something read.0 read.1 (omega (arith, n)) e

pub EndsWrong-cut : (old new : Option (List ℕ)) (place : Place) (ending : Ending) (line : List ℕ) → ending ≡ faulty_at place → ReadsWholeLine old new is.Cut line → EndsWrong old new place ending
EndsWrong-cut old new place ending line e read = something read.0 read.1 read.2.0 e

pub EndsWrong-long : (old new : Option (List ℕ)) (place : Place) (ending : Ending) (line : List ℕ) → ending ≡ faulty_at place → ReadsWholeLine old new is.TooLong line → EndsWrong old new place ending
EndsWrong-long old new place ending line e read = let n = read.2.0 in something read.0 read.1 (omega (arith, n)) e

-- the lines so far, of a byte each at least, leave the journal of what is left
pub record IsWithin (old new : Option (List ℕ)) (first : Place) (current : Option Open) (place : Place) (lines : ℕ) : Type 0 where
  pub taken : List ℕ
  pub consumed : Consumes old new taken
  pub many : lines ≤ length taken
  pub goes : (rest : List ℕ) → journal_from None first (taken ++ rest) ≡ journal_from current place rest

-- one line more, and the step that it makes
pub record HasStepped (old new : Option (List ℕ)) (first place : Place) (step : Step) (count lines : ℕ) : Type 0 where
  pub taken : List ℕ
  pub consumed : Consumes old new taken
  pub many : lines ≤ length taken
  pub goes : (rest : List ℕ) → journal_from None first (taken ++ rest) ≡ stepped step place count (pieces_of rest)

pub HasStepped-line : (old new next : Option (List ℕ)) (first : Place) (current : Option Open) (place : Place) (lines : ℕ) (line text : List ℕ) (step : Step) →
    IsWithin old new first current place lines → ReadsWholeLine new next is.Line line → text ≡ line → step ≡ line_step current text → HasStepped old next first place step (length text + 1) (lines + 1)
HasStepped-line old new next first current place lines line text step within read same is = record {
  taken = within.taken ++ read.0;
  consumed = Consumes-trans old new next within.taken read.0 within.consumed read.1;
  many =
      let own : length read.0 ≡ length line + 1 = ap length read.2.0 ∙ length-append line (line_feed ∷ []) in
      let so_far : lines ≤ length within.taken = within.many in
      omega (arith, own, so_far, length-append within.taken read.0);
  goes = λ rest.
      ap (journal_from None first) (append_assoc within.taken read.0 rest)
      ∙ within.goes (read.0 ++ rest)
      ∙ ap (λ (l : List ℕ). journal_from current place (l ++ rest)) read.2.0
      ∙ ap (journal_from current place) (append_assoc line (line_feed ∷ []) rest)
      ∙ journal-line current place line rest read.2.1 read.2.2
      ∙ ap (λ (l : List ℕ). stepped (line_step current l) place (length l + 1) (pieces_of rest)) (sym same)
      ∙ ap (λ (s : Step). stepped s place (length text + 1) (pieces_of rest)) (sym is);
}

-- the record goes on
pub IsWithin-more : (old new : Option (List ℕ)) (first place next : Place) (more : Open) (count lines : ℕ) → HasStepped old new first place (step.Goes more) count lines → next ≡ advanced count place →
    IsWithin old new first (Some more) next lines
IsWithin-more old new first place next more count lines has e =
    let P : Place → Type 0 = λ (p : Place). IsWithin old new first (Some more) p lines in
    subst P (sym e) (record { taken = has.taken; consumed = has.consumed; many = has.many; goes = has.goes })

-- as many lines as can be counted
pub GivesTooMuch-lines : (old new : Option (List ℕ)) (first : Place) (current : Option Open) (place : Place) (lines : ℕ) → IsWithin old new first current place lines → 2 ^ 64 - 1 ≤ lines → GivesTooMuch old new
GivesTooMuch-lines old new first current place lines within all = record {
  taken = within.taken;
  consumed = within.consumed;
  many = let so_far : lines ≤ length within.taken = within.many in omega (arith, so_far, all);
}

-- the record is whole
pub ReadsNext-found : (old new : Option (List ℕ)) (first place mid next : Place) (whole : Record) (count lines : ℕ) → HasStepped old new first place (step.Ends whole) count lines →
    mid ≡ advanced count place → next ≡ behind_record mid → ReadsNext old new first next (Found whole)
ReadsNext-found old new first place mid next whole count lines has m e =
    let P : Place → Type 0 = λ (p : Place). ReadsNext old new first p (Found whole) in
    subst P (sym (e ∙ ap behind_record m)) (record { taken = has.taken; consumed = has.consumed; told = has.goes })

-- the line belongs to no record
pub ReadsNext-bad : (old new : Option (List ℕ)) (first place mid last : Place) (ending : Ending) (count lines : ℕ) → HasStepped old new first place step.Bad count lines →
    mid ≡ advanced count place → ending ≡ faulty_at mid → ReadsNext old new first last (Ended ending)
ReadsNext-bad old new first place mid last ending count lines has m e =
    let P : Ending → Type 0 = λ (x : Ending). ReadsNext old new first last (Ended x) in
    subst P (sym (e ∙ ap faulty_at m)) (record { taken = has.taken; consumed = has.consumed; told = has.goes })

-- the record is damaged
pub ReadsNext-wrong : (old new next : Option (List ℕ)) (first place mid last : Place) (ending : Ending) (count lines : ℕ) → HasStepped old new first place step.Wrong count lines →
    mid ≡ advanced count place → EndsWrong new next mid ending → ReadsNext old next first last (Ended ending)
ReadsNext-wrong old new next first place mid last ending count lines has m (nothing consumed at_end e) =
    let P : Ending → Type 0 = λ (x : Ending). ReadsNext old next first last (Ended x) in
    subst P (sym (e ∙ ap cut_at m)) (record {
      taken = has.taken ++ [];
      consumed = Consumes-trans old new next has.taken [] has.consumed consumed;
      told = (has.goes [] ∙ ap ends (wrong-nothing place), at_end);
    })
ReadsNext-wrong old new next first place mid last ending count lines has m (something more consumed some e) =
    let P : Ending → Type 0 = λ (x : Ending). ReadsNext old next first last (Ended x) in
    subst P (sym (e ∙ ap faulty_at m)) (record {
      taken = has.taken ++ more;
      consumed = Consumes-trans old new next has.taken more has.consumed consumed;
      told = λ rest.
          ap (journal_from None first) (append_assoc has.taken more rest)
          ∙ has.goes (more ++ rest)
          ∙ ap ends (wrong-something place (more ++ rest) (omega (arith, some, length-append more rest)));
    })

-- the journal ends within a record
pub ReadsNext-ended : (old mid new : Option (List ℕ)) (first place last : Place) (current : Option Open) (lines : ℕ) (ending : Ending) → IsWithin old mid first current place lines → EndsIn mid new current place ending →
    ReadsNext old new first last (Ended ending)
ReadsNext-ended old mid new first place last current lines Whole within ended = record {
  taken = within.taken ++ ended.taken;
  consumed = Consumes-trans old mid new within.taken ended.taken within.consumed ended.consumed;
  told = (within.goes ended.taken ∙ ended.told.0, ended.told.1);
}
ReadsNext-ended old mid new first place last current lines (Cut begin) within ended = record {
  taken = within.taken ++ ended.taken;
  consumed = Consumes-trans old mid new within.taken ended.taken within.consumed ended.consumed;
  told = (within.goes ended.taken ∙ ended.told.0, ended.told.1);
}
ReadsNext-ended old mid new first place last current lines (Faulty number begin) within ended = record {
  taken = within.taken ++ ended.taken;
  consumed = Consumes-trans old mid new within.taken ended.taken within.consumed ended.consumed;
  told = λ rest. ap (journal_from None first) (append_assoc within.taken ended.taken rest) ∙ within.goes (ended.taken ++ rest) ∙ ended.told rest;
}
