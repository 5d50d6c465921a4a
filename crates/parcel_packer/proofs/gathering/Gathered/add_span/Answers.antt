use Rattle.std.proofs.{Common.{refl}, lemmas.Result.on_ok_weaker}
use Rattle.definitions.specs.Kinds.{unit_bits}
use Rattle.parcel_packer.{specs.Joins.Spans.span_parcels, proofs.WholeLaws.span_fills}
use Rattle.parcel_packer.proofs.gathering.Gathered.add_span.Goals as goal

pub returns-clause-gathered : goal.returns-clause-gathered
returns-clause-gathered c =
    let kind = c.args.kind in
    let span = c.args.span in
    let fill = span_fills kind span c.units.result c.units-3.result c.parcel_bits.result c.units-2.result c.go_to.new.self.next.word c.last_bits-value.result (c.if-not-are_words.ensures refl)
    c.units.ensures c.units-3.ensures c.parcel_bits.ensures.size c.units-2.ensures c.in_ok-go_to.ensures.word c.last_bits-value.ensures in
    on_ok_weaker c.add_words.result (λ put parcels h. put kind parcels (span_parcels (unit_bits kind) span) fill (c.in_ok-go_to.ensures.gathered parcels h)) c.add_words.ensures.gathered
