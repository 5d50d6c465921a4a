use Rattle.std.proofs.Common.{◌∙◌, sym}
use Rattle.deck_assembler.proofs.BlockLaws.{found-none, index-named}
use Rattle.deck_assembler.proofs.block_index.block_index.Goals as goal

pub returns-in-Some : goal.returns-in-Some
returns-in-Some c = λ few has. index-named c.args.name.now c.args.rows.now c.in-Some.place c.unwrap_or.result c.try_from.result (sym c.place_among.ensures ∙ c.in-Some.is) few c.try_from.ensures c.unwrap_or.ensures

pub returns-in-None : goal.returns-in-None
returns-in-None c = λ few has. absurd (found-none c.args.name.now c.args.rows.now (sym c.place_among.ensures ∙ c.in-None.is) has)
