-- A name is found by its number.
use Rattle.std.proofs.Common.{◌∙◌, ap, arith}
use Rattle.deck_assembler.{specs.Joins.FirstSymbols.symbol_in, proofs.SymbolLaws.symbol_in-some}
use Rattle.deck_assembler.proofs.symbol_table.SymbolTable.found.Goals as goal

pub returns-in-Some : goal.returns-in-Some
returns-in-Some c =
    c.copied.ensures ∙ c.get.ensures.value
    ∙ symbol_in-some c.self.inside.forms.entries c.args.name.now c.in-Some.name (λ i. omega (arith, c.type_inv.name i)) (cc)
    ∙ ap (λ forms. symbol_in forms c.args.name.now) c.self.view_is
