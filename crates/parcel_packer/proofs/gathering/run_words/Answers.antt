use Rattle.std.proofs.Common.{arith, ◌<◌, length, take, List, subst}
use Rattle.definitions.specs.{Kinds.unit_bits, Words.Parcel}
use Rattle.parcel_packer.{specs.Joins.Spans.parcels_in, specs.Joins.Filling.IsGathered, proofs.GatherSteps.{run_more, next_order, next_stands}}
use Rattle.parcel_packer.proofs.gathering.run_words.Goals as goal

pub loop-span-init : goal.loop-span-init
loop-span-init c =
    let first = c.in_ok-gathered.ensures.word in
    record { gathered = c.in_ok-gathered.ensures.gathered c.args.kind; order = (0, omega arith, c.requires) }

pub add_span-requires-clause-order : goal.add_span-requires-clause-order
add_span-requires-clause-order c =
    λ some. (next_order c.args.kind c.loop-span.gathered.next.word c.args.run.now c.loop-span.span-index _ (omega arith) c.loop-span.invariant.order some).0

pub add_span-requires-clause-room : goal.add_span-requires-clause-room
add_span-requires-clause-room c =
    λ some. let order = next_order c.args.kind c.loop-span.gathered.next.word c.args.run.now c.loop-span.span-index _ (omega arith) c.loop-span.invariant.order some in
    let top = order.1 in omega arith

pub loop-span-preserved : goal.loop-span-preserved
loop-span-preserved c =
    let run = c.args.run.now in
    let index = c.loop-span.span-index in
    let inside : index < length run = omega arith in
    let after = c.add_span.new.self in
    let Holds : List Parcel → Type 0 = λ ps. IsGathered c.args.kind ps after.words.items after.next in
    record {
      gathered = subst Holds (run_more (unit_bits c.args.kind) run index _ inside) (c.in_ok-add_span.ensures.gathered (parcels_in (unit_bits c.args.kind) (take index run)) c.loop-span.invariant.gathered);
      order = next_stands c.args.kind c.loop-span.gathered.next.word after.next.word run index _ inside c.loop-span.invariant.order c.in_ok-add_span.ensures.word c.in_ok-add_span.ensures.same;
    }
