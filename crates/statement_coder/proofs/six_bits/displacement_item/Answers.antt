use Rattle.std.proofs.Common.{◌∙◌, ap, sym}
use Rattle.definitions.specs.Forms.{Names}
use Rattle.statement_coder.{specs.Joins.Items.deck_with, proofs.SixBitLaws.displaced}
use Rattle.statement_coder.proofs.six_bits.displacement_item.Goals as goal

pub returns-else-is_displacement : goal.returns-else-is_displacement
returns-else-is_displacement g c settled literals statement seen =
    let context = deck_with c.args.kind (g.B.BlockBases.rows c.args.bases.now) settled literals in
    c.short_distance.ensures c.args.kind settled literals
    ∙ displaced context statement _ c.in-Ok.form c.location.result
    (sym (c.small_value.ensures context statement seen) ∙ c.in-Ok.is)
    (sym c.is_displacement.ensures ∙ c.if-is_displacement.false)
    (c.location.ensures ∙ ap (λ (names : Names). names.location) seen)
