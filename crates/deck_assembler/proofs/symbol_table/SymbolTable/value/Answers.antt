-- No text is a name.
use Rattle.std.proofs.{Common.{◌≡◌, ◌==◌, ℕ, true, List, [], ◌∷◌, None, length, refl, arith}, lemmas.Bool.Decides.nat_tests}
use Rattle.definitions.specs.Forms.{Form}
use Rattle.deck_assembler.specs.Joins.FirstSymbols.{symbol_in}
use Rattle.deck_assembler.proofs.symbol_table.SymbolTable.value.Goals as goal

nameless : (forms : List (ℕ × Form)) (name : List ℕ) → true ≡ (length name == 0) → None ≡ symbol_in forms name
nameless forms [] e = refl
nameless forms (c ∷ cs) e = let none : length (c ∷ cs) ≡ 0 = grind (arith, nat_tests) in absurd (omega (arith, none))

pub returns-then-is_empty : goal.returns-then-is_empty
returns-then-is_empty c = nameless c.args.self.now c.args.name.now c.if-is_empty.ensures
