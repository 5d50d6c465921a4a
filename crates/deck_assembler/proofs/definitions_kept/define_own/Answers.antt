-- No location field is a name.
use Rattle.std.proofs.{Common.{◌≡◌, ◌==◌, ℕ, true, List, [], ◌∷◌, None, length, refl, sym, arith}, lemmas.Bool.Decides.nat_tests}
use Rattle.definitions.specs.Operands as operands
use Rattle.definitions.{specs.Settling.{View}, proofs.TestLaws.option_or-none}
use Rattle.statement_coder.specs.Joins.Sizings.{defines_in}
use Rattle.statement_coder.specs.declared.definitions_made.Defines as made
use Rattle.statement_coder.specs.declared.definitions_made.Defines.TheVariants as defines
use Rattle.deck_assembler.specs.Joins.FirstSymbols.{symbol_in, with_defined}
use Rattle.deck_assembler.proofs.definitions_kept.define_own.Goals as goal

nameless : (what : made.Defines) (v : View) → v ≡ with_defined [] operands.Unread what v
nameless defines.Nothing v = refl
nameless (defines.Symbol form) v = λ i other. sym (option_or-none (v other) None refl) i
nameless defines.Externals v = refl

no-field : (location : List ℕ) (what : made.Defines) (v : View) → true ≡ (length location == 0) → v ≡ with_defined location operands.Unread what v
no-field [] what v e = nameless what v
no-field (c ∷ cs) what v e = let none : length (c ∷ cs) ≡ 0 = grind (arith, nat_tests) in absurd (omega (arith, none))

pub returns-then-is_empty : goal.returns-then-is_empty
returns-then-is_empty c = no-field c.args.location.now (defines_in c.args.kind c.args.sizing.now) (symbol_in c.args.symbols.now) c.if-is_empty.ensures
