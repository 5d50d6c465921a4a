-- A text of more than nine characters is no symbol.
use Rattle.std.proofs.Common.{◌∙◌, ap, sym, arith}
use Rattle.definitions.specs.Laws.Agreement.{own_symbols}
use Rattle.deck_assembler.proofs.NameTexts.{own-none}
use Rattle.deck_assembler.proofs.sized_statement.label_of.Goals as goal

pub returns-else-location-le9 : goal.returns-else-location-le9
returns-else-location-le9 c = λ operation. ap (own_symbols operation) c.new-else-location-le9.ensures ∙ sym (own-none operation c.args.location.now (omega (arith, c.if-location-le9.false)))
