use Rattle.std.proofs.{Common.{◌≤◌, ◌-◌, ◌^◌, ap, arith, inl, inr, sym, ◌∙◌}, lemmas.Result.err_from_is_err_and}
use Rattle.text_ports.specs.Faults.{count_up}
use Rattle.journal.proofs.ReadingSteps.{GivesTooMuch-lines, HasStepped-line, IsWithin-more, ReadsNext-found, ReadsNext-bad, ReadsNext-wrong, ReadsNext-ended}
use Rattle.journal.proofs.reading.next_record.Goals as goal

pub returns-in-Some-clause-reads : goal.returns-in-Some-clause-reads
returns-in-Some-clause-reads g c = ReadsNext-ended _ _ _ _ _ _ _ _ _ c.loop.invariant.within (rw c.in-Some.is at c.in_ok-ending.ensures.ends)

pub returns-in-Ends-clause-reads : goal.returns-in-Ends-clause-reads
returns-in-Ends-clause-reads g c =
    ReadsNext-found _ _ _ _ _ _ _ _ _
    (HasStepped-line _ _ _ _ _ _ _ _ _ _ c.loop.invariant.within (rw c.in_default.is at c.in_ok-ending.ensures.line) c.as_slice-text.ensures.value (sym c.in-Ends.is ∙ c.in_ok-next.ensures))
    c.advance.ensures c.end_record.ensures

pub returns-in-Wrong-clause-reads : goal.returns-in-Wrong-clause-reads
returns-in-Wrong-clause-reads g c =
    ReadsNext-wrong _ _ _ _ _ _ _ _ _ _
    (HasStepped-line _ _ _ _ _ _ _ _ _ _ c.loop.invariant.within (rw c.in_default.is at c.in_ok-ending.ensures.line) c.as_slice-text.ensures.value (sym c.in-Wrong.is ∙ c.in_ok-next.ensures))
    c.advance.ensures c.in_ok-wrong_ending-in-Wrong.ensures.ends

pub returns-in-Bad-clause-reads : goal.returns-in-Bad-clause-reads
returns-in-Bad-clause-reads g c =
    ReadsNext-bad _ _ _ _ _ _ _ _ _
    (HasStepped-line _ _ _ _ _ _ _ _ _ _ c.loop.invariant.within (rw c.in_default.is at c.in_ok-ending.ensures.line) c.as_slice-text.ensures.value (sym c.in-Bad.is ∙ c.in_ok-next.ensures))
    c.advance.ensures c.faulty.ensures

pub loop-preserved : goal.loop-preserved
loop-preserved g c = record {
  within =
      IsWithin-more _ _ _ _ _ _ _ _
      (HasStepped-line _ _ _ _ _ _ _ _ _ _ c.loop.invariant.within (rw c.in_default.is at c.in_ok-ending.ensures.line) c.as_slice-text.ensures.value (sym c.in-Goes.is ∙ c.in_ok-next.ensures))
      c.advance.ensures;
  sound = c.in_ok-ending.ensures.sound ∙ c.loop.invariant.sound;
}

-- the reader failed at a line
pub returns-in_err-ending-clause-stops : goal.returns-in_err-ending-clause-stops
returns-in_err-ending-clause-stops g c =
    let p = err_from_is_err_and c.from_residual.result c.from_residual.ensures.1 in
    rw (p.1, p.2, c.in_err-ending.ensures.fault) (inl (c.in_err-ending.ensures.one_fault ∙ ap count_up c.loop.invariant.sound))

-- there is no memory for a line
pub returns-in_err-next-clause-stops : goal.returns-in_err-next-clause-stops
returns-in_err-next-clause-stops g c =
    let p = err_from_is_err_and c.from_residual-in_err-next.result c.from_residual-in_err-next.ensures.1 in
    rw (p.1, p.2) (c.in_ok-ending.ensures.sound ∙ c.loop.invariant.sound)

-- the reader failed behind a damaged record
pub returns-in_err-wrong_ending-in-Wrong-clause-stops : goal.returns-in_err-wrong_ending-in-Wrong-clause-stops
returns-in_err-wrong_ending-in-Wrong-clause-stops g c =
    let p = err_from_is_err_and c.from_residual-in_err-wrong_ending-in-Wrong.result c.from_residual-in_err-wrong_ending-in-Wrong.ensures.1 in
    rw (p.1, p.2, c.in_err-wrong_ending-in-Wrong.ensures.fault)
    (inl (c.in_err-wrong_ending-in-Wrong.ensures.one_fault ∙ ap count_up (c.in_ok-ending.ensures.sound ∙ c.loop.invariant.sound)))

-- no further line is counted
pub returns-clause-stops : goal.returns-clause-stops
returns-clause-stops g c =
    let all : 2 ^ 64 - 1 ≤ c.loop.counter = omega (arith, c.loop-test.false) in
    inr (c.loop.invariant.sound, GivesTooMuch-lines _ _ _ _ _ _ c.loop.invariant.within all)
