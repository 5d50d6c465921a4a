use Rattle.std.proofs.Common.{◌≡◌, List, [], ◌∷◌, reverse, sym, subst}
use Rattle.definitions.specs.Kinds.{unit_bits}
use Rattle.parcel_packer.{specs.Joins.Packing.empty_run, specs.Joins.Spans.{IsKept, parcels_in_runs, run_of}, specs.declared.spans.Span.Span, proofs.PutLaws.empty_kept, proofs.PackedLaws.{block, begun_kept, begun_view}}
use Rattle.parcel_packer.proofs.words.Words.begin_run.Goals as goal

pub invariant_of-self : goal.invariant_of-self
invariant_of-self c =
    let kind = c.self.inside.kind in
    let runs = parcels_in_runs (unit_bits kind) c.push.new.self.items in
    let same : c.replace-run.result.items ≡ c.self.inside.run.items = cc in
    let none : c.replace-run.new.dest.items ≡ [] = cc in
    let Kept : List Span → Type 0 = λ spans. IsKept kind spans (record { place = 0; filled = 0; bits = 0 }) runs in
    subst Kept (sym none)
    (empty_kept kind runs (begun_kept kind c.self.inside.run.items c.self.inside.next c.self.inside.earlier.items c.push.new.self.items c.replace-run.result c.self.invariant c.in-Ok.ensures.items same))

pub returns-in-Ok-clause-begun : goal.returns-in-Ok-clause-begun
returns-in-Ok-clause-begun c =
    let kind = c.self.inside.kind in
    let packed = c.args.self.now in
    let same : c.replace-run.result.items ≡ c.self.inside.run.items = cc in
    let none : c.replace-run.new.dest.items ≡ [] = cc in
    let Begun : List Span → Type 0 =
    λ spans. block kind (run_of (unit_bits kind) spans (record { place = 0; filled = 0; bits = 0 })) (reverse (parcels_in_runs (unit_bits kind) c.push.new.self.items)) ≡ block packed.kind empty_run (packed.run.parcels ∷ packed.earlier) in
    subst Begun (sym none)
    (begun_view packed kind c.self.inside.run.items c.self.inside.next c.self.inside.earlier.items c.push.new.self.items c.replace-run.result c.self.view_is c.in-Ok.ensures.items same)
