-- What one statement more makes of the lines and the names of a deck, and of the count of what is coded.
use Rattle.std.specs.Prelude.{ℕ, ◌≡◌, ◌+◌, ◌-◌, ◌^◌, List, ◌∷◌, Option, Some, false, true, drop, min}
use Rattle.definitions.specs.{Laws.Rebound.is_rebound, Settling.{settle, settled_all}, StatementItems.Context, Statements.Statement}
use Rattle.deck_assembler.specs.{Joins.FormerLines.{IsNextLine, IsWalkedBeside}, Joins.Rebindings.AreBindings, Joins.SizedDecks.IsSizedStatement, Joins.Walks.{IsWhole, context_in, whole_of}, declared.deck_view.DeckView.DeckView, declared.deck_walk.Making.Making, declared.former_lines.FormerLine.FormerLine, declared.former_lines.FormerLines.FormerLines, declared.sized_statement.SizedStatement.SizedStatement}

-- a walk over a deck that is viewed comes past this statement, for which this line was found in the object before, or none
abbrev pub GoesPast : DeckView → SizedStatement → Option FormerLine → Making → Making → Type 0
GoesPast view sized found old new = (known others : List Statement) (left : List SizedStatement) (before after : FormerLines) → let whole = whole_of view known others in
    IsWhole whole → IsNextLine before after old.lines.stood sized.cards found → IsWalkedBeside whole (sized ∷ left) old before → IsWalkedBeside whole left new after

-- where its line was found, and no name that it reads is bound otherwise, it is not counted
abbrev pub IsUncounted : DeckView → SizedStatement → Option FormerLine → ℕ → ℕ → ℕ → Type 0
IsUncounted view sized found standing old_count new_count = (known others earlier : List Statement) (given : Statement) (old : Context) (one : FormerLine) → let whole = whole_of view known others in
    IsWhole whole → IsSizedStatement whole.deck.kind earlier standing (drop standing whole.cards) sized given → found ≡ Some one → AreBindings one.bindings old →
    is_rebound old (context_in whole) (settle whole.deck.kind (settled_all whole.deck.kind earlier) given) ≡ false → new_count ≡ old_count

-- and where one is, it is counted
abbrev pub IsCountedAnew : DeckView → SizedStatement → Option FormerLine → ℕ → ℕ → ℕ → Type 0
IsCountedAnew view sized found standing old_count new_count = (known others earlier : List Statement) (given : Statement) (old : Context) (one : FormerLine) → let whole = whole_of view known others in
    IsWhole whole → IsSizedStatement whole.deck.kind earlier standing (drop standing whole.cards) sized given → found ≡ Some one → AreBindings one.bindings old →
    is_rebound old (context_in whole) (settle whole.deck.kind (settled_all whole.deck.kind earlier) given) ≡ true → new_count ≡ min (old_count + 1) (2 ^ 64 - 1)
