-- A name keeps its first value, and the call returns whether this is the first.
use Rattle.std.{proofs.Common.{◌≡◌, ◌∙◌, not, is_some, Option, ap, arith}, specs.Prelude.nat_eq, specs.Map.lookup, proofs.lemmas.Result.{IfOk-weaker, on_ok_weaker}}
use Rattle.definitions.specs.Forms.{Form}
use Rattle.deck_assembler.{specs.Joins.FirstSymbols.{symbol_in, with_symbol}, proofs.SymbolLaws.{symbol_in-kept, symbol_in-some}}
use Rattle.deck_assembler.proofs.symbol_table.SymbolTable.define.Goals as goal

pub returns-in-Some-clause-defined : goal.returns-in-Some-clause-defined
returns-in-Some-clause-defined c =
    on_ok_weaker c.keep.result
    (λ kept. symbol_in-kept c.self.inside.forms.entries c.keep.new.forms.entries c.args.name.now c.in-Some.name c.args.form (λ i. omega (arith, c.type_inv.name i)) (cc) kept
    ∙ ap (λ forms. with_symbol c.args.name.now c.args.form (symbol_in forms)) c.self.view_is)
    c.keep.ensures.kept

pub returns-in-Some-clause-first : goal.returns-in-Some-clause-first
returns-in-Some-clause-first c =
    let name = c.args.name.now in
    IfOk-weaker c.keep.result (λ first. first ≡ not (is_some (lookup (nat_eq c.in-Some.name.code) c.self.inside.forms.entries))) (λ first. first ≡ not (is_some (symbol_in c.args.self.now name)))
    (λ first told. told ∙ ap (λ (o : Option Form). not (is_some o)) (
    symbol_in-some c.self.inside.forms.entries name c.in-Some.name (λ i. omega (arith, c.type_inv.name i)) (cc)
    ∙ ap (λ forms. symbol_in forms name) c.self.view_is
    ))
    c.keep.ensures.first
