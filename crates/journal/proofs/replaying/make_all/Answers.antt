use Rattle.std.proofs.{Common.{◌≤◌, ◌-◌, ◌^◌, arith, inr, refl, ◌∙◌}, lemmas.Result.err_from_is_err_and}
use Rattle.journal.proofs.ReplaySteps.{AreMade-none, AreMade-more, GivesTooMuch-records, Replays-ended, Replays-stopped, StopsReplay-unmade, StopsReplay-unread}
use Rattle.journal.proofs.replaying.make_all.Goals as goal

pub loop-init : goal.loop-init
loop-init g c = record { made = AreMade-none _ _ _ c.requires c.at_start-place.ensures; sound = refl }

pub returns-in-Ended-clause-replays : goal.returns-in-Ended-clause-replays
returns-in-Ended-clause-replays g c = Replays-ended _ _ _ _ _ _ _ _ _ _ c.loop.invariant.made (rw c.in-Ended.is at c.in_ok-record.ensures.reads)

pub loop-preserved : goal.loop-preserved
loop-preserved g c = record {
  made = AreMade-more _ _ _ _ _ _ _ _ _ _ c.loop.invariant.made (rw c.in-Found.is at c.in_ok-record.ensures.reads) c.in_ok-take_record-in-Found.ensures.taken;
  sound = c.in_ok-record.ensures.sound ∙ c.loop.invariant.sound;
}

pub returns-then-version-last-clause-replays : goal.returns-then-version-last-clause-replays
returns-then-version-last-clause-replays g c = Replays-stopped _ _ _ _ _ _ _ c.loop.invariant.made (omega (arith, c.version.ensures, c.if-version-last.true))

-- the reader fails, or there is no memory for a record
pub returns-in_err-record-clause-stops : goal.returns-in_err-record-clause-stops
returns-in_err-record-clause-stops g c =
    let p = err_from_is_err_and c.from_residual.result c.from_residual.ensures.1 in
    rw (p.1, p.2) (StopsReplay-unread _ _ _ _ _ _ _ _ _ _ c.in_err-record.field-0.0 c.loop.invariant.made c.loop.invariant.sound c.in_err-record.ensures.stops)

-- a record can't be made again, or there is no memory
pub returns-in_err-take_record-in-Found-clause-stops : goal.returns-in_err-take_record-in-Found-clause-stops
returns-in_err-take_record-in-Found-clause-stops g c =
    let p = err_from_is_err_and c.from_residual-in_err-take_record-in-Found.result c.from_residual-in_err-take_record-in-Found.ensures.1 in
    rw (p.1, p.2)
    (StopsReplay-unmade _ _ _ _ _ _ _ _ _ _ _ c.in_err-take_record-in-Found.field-0.0 c.loop.invariant.made (c.in_ok-record.ensures.sound ∙ c.loop.invariant.sound)
    (rw c.in-Found.is at c.in_ok-record.ensures.reads) c.in_err-take_record-in-Found.ensures.not_taken)

-- no further record is counted
pub returns-clause-stops : goal.returns-clause-stops
returns-clause-stops g c =
    let all : 2 ^ 64 - 1 ≤ c.loop.counter = omega (arith, c.loop-test.false) in
    inr (c.loop.invariant.sound, GivesTooMuch-records _ _ _ _ _ _ c.loop.invariant.made all)
