-- The lines of a tail that stayed as it was sized, in the order of the deck.
use Rattle.std.specs.Prelude.{ℕ, zero, suc, ◌-◌, ⊤, List, [], ◌∷◌}
use Rattle.definitions.specs.{Statements.Statement, declared.deck_kind.DeckKind.DeckKind}
use Rattle.deck_objects.specs.declared.lines.Line.{Line}
use Rattle.deck_assembler.specs.Joins.Tails.{IsSettledAlike}

-- the lines behind those of so many first cards
abbrev pub lines_behind : ℕ → List Line → List Line
lines_behind count [] = []
lines_behind zero (line ∷ lines) = line ∷ lines
lines_behind (suc count) (line ∷ lines) = lines_behind (suc count - line.cards) lines

-- statements in order, behind these, are settled as those of an old deck behind others are, but for the number of cards before each
abbrev pub AreAlikeOn : DeckKind → List Statement → List Statement → List Statement → List Statement → Type 0
AreAlikeOn kind before later earlier [] = ⊤
AreAlikeOn kind before [] earlier (statement ∷ coming) = ⊥
AreAlikeOn kind before (other ∷ later) earlier (statement ∷ coming) =
    IsSettledAlike kind before other earlier statement × AreAlikeOn kind (other ∷ before) later (statement ∷ earlier) coming
