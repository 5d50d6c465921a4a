use Rattle.std.proofs.{Common.{ℕ, ◌≡◌, ◌-◌, ◌≤◌, List, length, take, ap, ◌∙◌, arith}, lemmas.List.{length-take-le, take-append-le}}
use Rattle.journal.{specs.Marks.mark_behind, proofs.MarkSteps.read-more}
use Rattle.journal.proofs.marks.mark_of_front.Goals as goal

pub loop-preserved : goal.loop-preserved
loop-preserved g c =
    let buf = c.read.new.buf in
    let count = c.in_ok-count.count in
    let within : count ≤ length buf = c.in_ok-count.ensures.bound.0 in
    let front : c.split_at.result.0.now ≡ take count buf = c.split_at.ensures.front ∙ take-append-le count buf c.split_at_mut.result.1.now within in
    let size : length buf ≡ length c.split_at_mut.result.0.now = c.read.auto.buf in
    let room : length (take count buf) ≤ c.args.most - c.loop.mark.length = grind (arith, length-take-le count buf within, within, size, c.split_at_mut.ensures.front_len, c.saturating_sub.ensures, c.min-room.ensures) in
    record { read = read-more _ _ _ _ _ _ _ c.loop.invariant.read c.in_ok-count.ensures.bytes.0 room (c.in-Some.ensures.some ∙ ap (λ (l : List ℕ). mark_behind c.loop.mark l) front) }
