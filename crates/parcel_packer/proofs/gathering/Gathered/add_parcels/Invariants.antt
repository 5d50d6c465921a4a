use Rattle.std.proofs.Common.{◌≡◌, ◌+◌, ◌-◌, ◌*◌, ◌/◌, ◌^◌, ◌<◌, List, ◌++◌}
use Rattle.definitions.specs.{Kinds.{units, unit_bits}, Words.{Parcel, cut, parcels_from}}
use Rattle.parcel_packer.specs.Joins.Filling.{IsGathered}
use Rattle.parcel_packer.proofs.gathering.Gathered.add_parcels.Given as goal

abbrev pub invariant-loop-index : goal.invariant-loop-index
invariant-loop-index l = record {
  gathered : (parcels : List Parcel) → IsGathered l.kind parcels l.initial.self.words.items l.initial.self.next →
      IsGathered l.kind (parcels ++ parcels_from l.span.is_instruction l.span.place (cut (unit_bits l.kind) l.index (l.span.bits / 2 ^ (unit_bits l.kind * (l.span.count - l.index))))) l.self.words.items l.self.next;
  word : 0 < l.index → l.self.next.word ≡ (l.span.place + l.index - 1) / units l.kind;
  same : l.index ≡ 0 → l.self.next.word ≡ l.initial.self.next.word;
}
