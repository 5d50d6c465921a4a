use Rattle.std.proofs.Common.{ℕ, ◌/◌, ◌≤◌, take, drop}
use Rattle.definitions.specs.Kinds.{units, unit_bits}
use Rattle.parcel_packer.specs.{Joins.Spans.{RiseWithin, places, parcels_in}, Joins.Filling.IsGathered}
use Rattle.parcel_packer.proofs.gathering.run_words.Given as goal

abbrev pub invariant-loop-span : goal.invariant-loop-span
invariant-loop-span l = record {
  gathered : IsGathered l.kind (parcels_in (unit_bits l.kind) (take l.span-index l.run)) l.gathered.words.items l.gathered.next;
  order : (low : ℕ) × (l.gathered.next.word ≤ low / units l.kind) × RiseWithin low (places (parcels_in (unit_bits l.kind) (drop l.span-index l.run))) 524288;
}
