use Rattle.std.proofs.Common.{◌+◌, reverse}
use Rattle.definitions.specs.Kinds.{unit_bits}
use Rattle.parcel_packer.{specs.Joins.Spans.{parcels_in_runs, run_of}, proofs.PutLaws.put_kept, proofs.PackedLaws.{most_kept, put_moved}}
use Rattle.parcel_packer.proofs.words.Words.put.Goals as goal

pub invariant_of-self-2 : goal.invariant_of-self-2
invariant_of-self-2 c =
    let inside = c.self.inside in
    let packed = c.args.self.now in
    let spans = inside.run.items in
    let size = c.parcel_bits-size in
    let next = c.moved_to-next in
    let runs = parcels_in_runs (unit_bits inside.kind) inside.earlier.items in
    let moved = put_moved packed inside.kind size.result spans inside.next next.result (reverse runs) c.args.at c.self.view_is size.ensures.size (next.ensures spans) c.requires.begins in
    let within = most_kept packed inside.kind (run_of (unit_bits inside.kind) spans inside.next) (reverse runs) (c.args.at + c.args.field.width) c.self.view_is c.requires.within in
    put_kept inside.kind size.result spans c.put_field.new.spans.items inside.next next.result c.in_ok-self-inside.field-0 c.args.at c.args.field runs size.ensures.size c.self.invariant moved c.in_ok-self-inside.ensures.put within
