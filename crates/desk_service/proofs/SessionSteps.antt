-- How many faults the ports of a session pass on, by how it ends.
use Rattle.std.proofs.{Common.{ℕ, ◌≡◌, ◌∙◌, Bool, true, false, Option, Some, None, refl, sym, ap}, lemmas.Option.none-some}
use Rattle.deck_files.specs.ShelfRelations.{ShelfRelations}
use Rattle.session_line.specs.{declared.rights.Rights.Rights, Serving.{Sides, read_faults_after, write_faults_after}, declared.serving.Outcome.Outcome, declared.serving.Outcome.TheVariants.{Served, Ended, ReadFault, WriteFault}, DeskRelations.DeskRelations}
use Rattle.text_ports.specs.{Faults.{count_after_flush, count_after_line, count_up}, declared.lines.LineIs.LineIs}
use Rattle.text_ports.specs.declared.lines.LineIs.TheVariants as line
use Rattle.desk_service.specs.{declared.openings.Opening.Opening, declared.sessions.Ending.Ending, Sessions.{Standing, ServesSo, ServesLines, ServesToEnd, ServesSession, OpensLine, OpensLines, OpensSession, ending_after, ending_in, ending_without, is_fault, opening_of, read_faults_at, write_faults_at, no_line, turned_away, first_line, no_stranger, next_stranger, ended_early, met, strange, next_line, ended, full, closed, opened}}
use Rattle.desk_service.specs.declared.sessions.Ending.TheVariants as ending

-- a line came where the session does not end without one
pub line-came : (answer : LineIs) → ending_without answer ≡ None → answer ≡ line.Line
line-came line.Line e = refl
line-came line.End e = absurd (none-some ending.Left (sym e))
line-came line.Cut e = absurd (none-some ending.Left (sym e))
line-came line.TooLong e = absurd (none-some ending.Left (sym e))
line-came line.Fault e = absurd (none-some ending.ReadFault (sym e))

-- what the counts are behind these, by how the session ends there
abbrev pub Counts : Option Ending → ℕ → ℕ → ℕ → ℕ → Type 0
Counts told reads writes reads_on writes_on = (reads_on ≡ read_faults_at told reads) × (writes_on ≡ write_faults_at told writes)

without-line : (answer : LineIs) (reads writes : ℕ) → Counts (ending_without answer) reads writes (count_after_line answer reads) writes
without-line line.Line reads writes = (refl, refl)
without-line line.End reads writes = (refl, refl)
without-line line.Cut reads writes = (refl, refl)
without-line line.TooLong reads writes = (refl, refl)
without-line line.Fault reads writes = (refl, refl)

behind-line : (outcome : Outcome) (flushed : Bool) (reads writes : ℕ) → (is_fault outcome ≡ true → flushed ≡ true) →
    Counts (ending_after outcome flushed) reads writes (read_faults_after outcome reads) (count_after_flush flushed (write_faults_after outcome writes))
behind-line Served true reads writes silent = (refl, refl)
behind-line Served false reads writes silent = (refl, refl)
behind-line Ended true reads writes silent = (refl, refl)
behind-line Ended false reads writes silent = (refl, refl)
behind-line ReadFault flushed reads writes silent = (refl, ap (λ b. count_after_flush b writes) (silent refl))
behind-line (WriteFault executed sent) flushed reads writes silent = (refl, ap (λ b. count_after_flush b (count_up writes)) (silent refl))

ending-opening : (told : Option Ending) (command : Bool) → ending_in (opening_of told command) ≡ told
ending-opening (Some ending) command = refl
ending-opening None true = refl
ending-opening None false = refl

module _ {C S : Type 0} where
  abbrev pub CountsIn : Option Ending → Standing C S → Standing C S → Type 0
  CountsIn told old new = Counts told old.read_faults old.write_faults new.read_faults new.write_faults

  -- behind lines that no fault ended
  then : (told : Option Ending) (old middle new : Standing C S) → CountsIn None old middle → CountsIn told middle new → CountsIn told old new
  then told old middle new before on = (on.0 ∙ ap (read_faults_at told) before.0, on.1 ∙ ap (write_faults_at told) before.1)

  of-line : {serves : Sides C S → Sides C S → Outcome → Type 0} (old new : Standing C S) (told : Option Ending) → ServesSo serves old new told → CountsIn told old new
  of-line old new told s =
      let by = behind-line s.outcome s.flushed old.read_faults old.write_faults s.silent in (
        s.sent.reader ∙ s.reads ∙ by.0 ∙ ap (λ t. read_faults_at t old.read_faults) (sym s.ends),
        s.sent.writer ∙ ap (count_after_flush s.flushed) s.writes ∙ by.1 ∙ ap (λ t. write_faults_at t old.write_faults) (sym s.ends),
      )

module _ {C S : Type 0} (rights : Rights) (calls : DeskRelations C) (files : ShelfRelations S) where
  of-first : (is_first : Bool) (old new : Standing C S) (what : Opening) → OpensLine rights calls files is_first old new what → CountsIn (ending_in what) old new
  of-first is_first old new what (no_line answer text ending taken without is) =
      let by = without-line answer old.read_faults old.write_faults in
      let told : ending_without answer ≡ ending_in what = without ∙ ap ending_in (sym is) in
      (taken.reader ∙ by.0 ∙ ap (λ t. read_faults_at t old.read_faults) told, taken.writer ∙ by.1 ∙ ap (λ t. write_faults_at t old.write_faults) told)
  of-first is_first old new what (turned_away text taken turned is) =
      (taken.reader ∙ ap (λ w. read_faults_at (ending_in w) old.read_faults) (sym is), taken.writer ∙ ap (λ w. write_faults_at (ending_in w) old.write_faults) (sym is))
  of-first is_first old new what (first_line text taken told takes turned served is) =
      let by = then told old taken new (takes.reader, takes.writer) (of-line taken new told served) in
      let same : told ≡ ending_in what = sym (ap ending_in is ∙ ending-opening told _) in
      (by.0 ∙ ap (λ t. read_faults_at t old.read_faults) same, by.1 ∙ ap (λ t. write_faults_at t old.write_faults) same)

  of-strangers : (first last : Standing C S) (count : ℕ) → OpensLines rights calls files first last count → CountsIn None first last
  of-strangers first _ _ no_stranger = (refl, refl)
  of-strangers first last _ (next_stranger middle _ count lines line) = then None first middle last (of-strangers first middle count lines) (of-first _ middle last _ line)

  of-opening : (first last : Standing C S) (told : Option Ending) → OpensSession rights calls files first last told → CountsIn told first last
  of-opening first last _ (ended_early middle count ending lines fewer line) = then (Some ending) first middle last (of-strangers first middle count lines) (of-first _ middle last _ line)
  of-opening first last _ (met middle count lines fewer line) = then None first middle last (of-strangers first middle count lines) (of-first _ middle last _ line)
  of-opening first last _ (strange lines) = of-strangers first last _ lines

  of-lines : (first last : Standing C S) (count : ℕ) → ServesLines rights calls files first last count → CountsIn None first last
  of-lines first _ _ no_line = (refl, refl)
  of-lines first last _ (next_line middle _ count lines line) = then None first middle last (of-lines first middle count lines) (of-line middle last None line)

  of-rest : (first last : Standing C S) (ending : Ending) → ServesToEnd rights calls files first last ending → CountsIn (Some ending) first last
  of-rest first last _ (ended middle count ending lines fewer line) = then (Some ending) first middle last (of-lines first middle count lines) (of-line middle last (Some ending) line)
  of-rest first last _ (full lines) = of-lines first last _ lines

  -- a session
  pub faults-counted : (first last : Standing C S) (ending : Ending) → ServesSession rights calls files first last ending → CountsIn (Some ending) first last
  faults-counted first last ending session = elim session.served [
    | closed opens ↦ of-opening _ last (Some ending) opens
    | opened middle opens rest ↦ then (Some ending) first middle last (of-opening _ middle None opens) (of-rest middle last ending rest)
  ]
