use Rattle.std.proofs.Common.{◌∙◌, sym, arith}
use Rattle.text_ports.proofs.Decimals.{decimal-same}
use Rattle.text_ports.proofs.digits.decimal_text.Goals as goal

pub returns : goal.returns
returns c = c.as_bytes.ensures.value ∙ c.format.ensures.text ∙ sym (decimal-same c.args.value (omega (arith, c.ranges.value.fits)))
