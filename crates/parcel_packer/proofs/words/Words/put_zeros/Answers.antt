use Rattle.std.proofs.Common.{reverse}
use Rattle.definitions.specs.Kinds.{unit_bits}
use Rattle.parcel_packer.{specs.Joins.Spans.parcels_in_runs, proofs.PackedLaws.{zeros_kept_by, zeros_view}}
use Rattle.parcel_packer.proofs.words.Words.put_zeros.Goals as goal

pub invariant_of-self-2 : goal.invariant_of-self-2
invariant_of-self-2 c =
    let inside = c.self.inside in
    let runs = parcels_in_runs (unit_bits inside.kind) inside.earlier.items in
    zeros_kept_by c.args.self.now inside.kind c.units-units.result c.args.word c.args.count inside.run.items c.push.new.self.items inside.next runs (reverse runs)
    c.self.view_is c.units-units.ensures c.self.invariant c.requires.begins c.requires.within c.in_ok-push.ensures.items

pub returns-clause-put : goal.returns-clause-put
returns-clause-put c =
    let inside = c.self.inside in
    let runs = parcels_in_runs (unit_bits inside.kind) inside.earlier.items in
    zeros_view c.args.self.now inside.kind c.units-units.result c.args.word c.args.count inside.run.items c.push.new.self.items inside.next runs (reverse runs)
    c.self.view_is c.units-units.ensures c.self.invariant c.requires.whole c.in_ok-push.ensures.items
