use Rattle.std.proofs.Common.{ℕ, ◌+◌, ◌∙◌, ap, sym, drop, arith}
use Rattle.cards.{specs.Counts.fault_from, proofs.FaultLaws.{applies-at, fault-at-place}}
use Rattle.cards.proofs.faults.fault_from.Goals as goal

pub returns-in-Some : goal.returns-in-Some
returns-in-Some c =
    let place = c.loop-place.place in
    sym (c.loop-place.invariant ∙ fault-at-place c.args.edits.now place (place + 1) c.loop-place.left c.index-edits-place.result c.in-Some.fault (omega arith) c.index-edits-place.is cc)

pub loop-place-preserved : goal.loop-place-preserved
loop-place-preserved c =
    c.loop-place.invariant ∙ applies-at c.args.edits.now c.loop-place.place (c.loop-place.place + 1) c.loop-place.left c.index-edits-place.result (omega arith) c.index-edits-place.is (cc)
    ∙ ap (λ (count : ℕ). fault_from (c.loop-place.place + 1 + 1) count (drop (c.loop-place.place + 1) c.args.edits.now)) (sym c.count_after-left.ensures)
