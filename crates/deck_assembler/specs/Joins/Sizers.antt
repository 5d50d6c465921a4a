-- The first statements of a deck, sized; all lists are read newest first.
use Rattle.std.specs.{Prelude.{ℕ, ◌≡◌, ⊤, ◌<◌, ◌≤◌, List, [], ◌∷◌, drop, length, reverse}, List.AllByRecursion}
use Rattle.definitions.specs.{Cards.Card, Entries.externals_of, Lengths.lengths_of, Blocks.block_in_use, Literals.{literal_words, operand_literals, with_literals}, Operands.Operand, Settled.defined, Settling.settled_all, Statements.{Statement, cards_in}, Laws.States.{Effect, state_after, advanced, lengths_advanced, names_of_blocks}, declared.deck_kind.DeckKind.DeckKind}
use Rattle.statement_coder.specs.declared.definitions_made.Defines.{Defines}
use Rattle.use_blocks.specs.Joins.BlockLengths.{block_names}
use Rattle.deck_assembler.specs.{Joins.DeckParts.DeckPiece, Joins.FirstSymbols.{symbol_in, with_defined, IsLawfulOperand}, Joins.PieceSteps.{most_statements, sized_newest}, Joins.SharedNames.with_new_by, Joins.SizedDecks.{IsSizedStatement, IsListedStatement}, declared.sized_statement.SizedStatement.SizedStatement, declared.sizer.Sizer.Sizer}

-- how many cards stand before the next statement
abbrev pub stood : List Statement → ℕ
stood earlier = length (cards_in earlier)

-- the cards that are ahead of the next statement
abbrev pub ahead : List Card → List Statement → List Card
ahead cards earlier = drop (stood earlier) cards

-- a statement of so many cards is the next one
abbrev pub IsNext : List Card → List Statement → ℕ → Statement → Type 0
IsNext cards earlier count statement = IsListedStatement (stood earlier) (ahead cards earlier) count statement

-- each statement was sized behind those before it
abbrev pub AreSized : DeckKind → List Card → List Statement → List SizedStatement → Type 0
AreSized kind cards [] [] = ⊤
AreSized kind cards (statement ∷ earlier) (sized ∷ before) =
    IsSizedStatement kind earlier (stood earlier) (ahead cards earlier) sized statement × AreSized kind cards earlier before
AreSized kind cards _ _ = ⊥

-- each piece has the state behind the statements before it, and together they have all
abbrev pub HaveStates : DeckKind → List Statement → List DeckPiece → Type 0
HaveStates kind statements [] = statements ≡ []
HaveStates kind statements (piece ∷ before) =
    let earlier = drop (length piece.statements) statements in
    (piece.state ≡ state_after (settled_all kind earlier)) × HaveStates kind earlier before

-- a piece has 1 to 128 statements
abbrev pub IsFilled : DeckPiece → Type 0
IsFilled piece = (0 < length piece.statements) × (length piece.statements ≤ most_statements)

-- the pieces before the latest are full
abbrev pub AreFilledNewest : List DeckPiece → Type 0
AreFilledNewest [] = ⊤
AreFilledNewest (latest ∷ before) = IsFilled latest × AllByRecursion (λ (piece : DeckPiece). length piece.statements ≡ most_statements) before

-- what was found is what these statements make
pub record IsSizer (kind : DeckKind) (cards : List Card) (statements : List Statement) (sizer : Sizer) : Type 0 where
  pub state : sizer.state ≡ state_after (settled_all kind statements)
  pub symbols : symbol_in sizer.symbols ≡ (λ name. defined name (settled_all kind statements))
  pub externals : sizer.externals.items ≡ externals_of (settled_all kind statements)
  pub literals : sizer.literals ≡ literal_words (settled_all kind statements)
  pub lengths : sizer.lengths ≡ lengths_of kind (settled_all kind statements)
  pub same_blocks : block_names sizer.lengths ≡ names_of_blocks sizer.state.blocks
  pub sized : AreSized kind cards statements (sized_newest (reverse sizer.pieces.items))
  pub states : HaveStates kind statements (reverse sizer.pieces.items)
  pub filled : AreFilledNewest (reverse sizer.pieces.items)

-- what a statement with this location field and this operand gives is taken in
pub record IsNoted (location : List ℕ) (operand : Operand) (defines : Defines) (effect : Effect) (old new : Sizer) : Type 0 where
  pub lawful : IsLawfulOperand operand
  pub literals : new.literals ≡ with_literals (operand_literals operand) old.literals
  pub symbols : symbol_in new.symbols ≡ with_defined location operand defines (symbol_in old.symbols)
  pub externals : new.externals.items ≡ with_new_by operand defines (symbol_in old.symbols) old.externals.items
  pub lengths : new.lengths ≡ lengths_advanced (block_in_use old.state.open_names) effect old.lengths
  pub same_blocks : block_names new.lengths ≡ names_of_blocks (advanced effect old.state).blocks
