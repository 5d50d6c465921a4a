use Rattle.std.proofs.Common.{arith, ℕ, ◌≡◌, ◌+◌, ◌-◌, ◌*◌, ◌/◌, ◌^◌, ◌<◌, List, [], ◌∷◌, ◌++◌, ap, ◌∙◌, subst}
use Rattle.definitions.specs.{Kinds.{units, unit_bits}, Words.{Parcel, cut, parcels_from}}
use Rattle.parcel_packer.{specs.Joins.Packing.parcel_at, specs.Joins.Filling.IsGathered, proofs.GatherSteps.{span_all, span_more}}
use Rattle.parcel_packer.proofs.gathering.Gathered.add_parcels.Goals as goal

pub loop-index-preserved : goal.loop-index-preserved
loop-index-preserved c =
    let span = c.args.span in
    let index = c.loop-index.index in
    let size = unit_bits c.args.kind in
    let after = c.add.new.self in
    let Holds : List Parcel → Type 0 = λ ps. IsGathered c.args.kind ps after.words.items after.next in
    let one_on : span.place + index ≡ span.place + (index + 1) - 1 = omega arith in
    let inside : index < span.count = omega arith in
    record {
      gathered = λ parcels h.
          let before = parcels ++ parcels_from span.is_instruction span.place (cut size index (span.bits / 2 ^ (size * (span.count - index)))) in
          let More : ℕ → Type 0 = λ last. Holds (before ++ parcel_at span.is_instruction (span.place + index) last ∷ []) in
          subst Holds (span_more parcels span.is_instruction span.place size span.count index span.bits inside)
          (subst More c.parcel-bits.ensures (c.in_ok-add.ensures.gathered before (c.loop-index.invariant.gathered parcels h)));
      word = λ some. c.in_ok-add.ensures.word ∙ ap (λ n. n / units c.args.kind) one_on;
      same = λ none. absurd (omega arith);
    }

pub returns-clause-gathered : goal.returns-clause-gathered
returns-clause-gathered c =
    let span = c.args.span in
    let size = unit_bits c.args.kind in
    let all : c.loop-index.index ≡ span.count = omega arith in
    let after = c.loop-index.self in
    λ parcels h.
    let Holds : List ℕ → Type 0 = λ bits. IsGathered c.args.kind (parcels ++ parcels_from span.is_instruction span.place bits) after.words.items after.next in
    let Ends : ℕ → Type 0 = λ n. Holds (cut size n (span.bits / 2 ^ (size * (span.count - n)))) in
    subst Holds (span_all size span.count span.bits) (subst Ends all (c.loop-index.invariant.gathered parcels h))
