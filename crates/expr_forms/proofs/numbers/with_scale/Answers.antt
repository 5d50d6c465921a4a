use Rattle.expr_forms.proofs.ScaleLaws.{too_great-scale}
use Rattle.expr_forms.proofs.numbers.with_scale.Goals as goal

pub returns-then-scale-ge60 : goal.returns-then-scale-ge60
returns-then-scale-ge60 c number e = too_great-scale c.args.value number c.args.scale e c.if-value-eq0.false c.if-scale-ge60.true
