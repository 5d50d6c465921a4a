use Rattle.std.proofs.Common.{List, ◌∙◌, sym, subst}
use Rattle.definitions.specs.Kinds.{unit_bits}
use Rattle.parcel_packer.{specs.Joins.Spans.{RiseWithin, places, parcels_in, parcels_in_runs}, specs.declared.spans.Span.Span, proofs.MergeLaws.if_ok, proofs.PutLaws.whole_rise, proofs.PackedLaws.fill_view}
use Rattle.parcel_packer.proofs.words.Words.filled.Goals as goal

pub run_words-requires : goal.run_words-requires
run_words-requires c =
    let inside = c.self.inside in
    let Rises : List Span → Type 0 = λ spans. RiseWithin 0 (places (parcels_in (unit_bits inside.kind) spans)) 524288 in
    subst Rises (sym c.as_slice-2.ensures.value) (whole_rise inside.kind inside.run.items inside.next (parcels_in_runs (unit_bits inside.kind) inside.earlier.items) c.self.invariant)

pub returns-clause-words : goal.returns-clause-words
returns-clause-words c =
    let inside = c.self.inside in
    let filled =
    fill_view c.args.self.now inside.kind inside.run.items c.as_slice-2.result.now inside.next inside.earlier.items c.as_slice.result.now
    c.in_ok-newer.newer.items c.in_ok-older.older.items c.as_slice-3.result.now c.in_ok-words.words.items
    c.self.view_is c.as_slice-2.ensures.value c.as_slice.ensures.value c.as_slice-3.ensures.value c.in_ok-newer.ensures c.in_ok-older.ensures c.in_ok-words.ensures in
    if_ok c.joined.result _ _ (λ spans same. same ∙ filled) c.joined.ensures.words
