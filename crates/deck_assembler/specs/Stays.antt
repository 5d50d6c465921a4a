-- Which statements of an edited deck are settled as in the deck before, and how many are not (ours).
-- Lists of statements are newest first, up to END.
use Rattle.std.specs.Prelude.{ℕ, ⊤, ◌≡◌, ◌+◌, ◌-◌, ◌^◌, ◌<◌, ◌⊎◌, List, [], ◌∷◌, ◌++◌, length, min}
use Rattle.definitions.specs.{Laws.Agreement.unnumbered, Settling.{settle, settled_all}, Statements.Statement, declared.deck_kind.DeckKind.DeckKind}

-- a statement behind these is settled as one of the old deck is in its place, but for the number of cards before it
pub record IsAsBefore (kind : DeckKind) (old earlier : List Statement) (statement : Statement) : Type 0 where
  pub before : List Statement
  pub other : Statement
  pub behind : List Statement
  pub of_old : behind ++ other ∷ before ≡ old
  pub alike : unnumbered (settle kind (settled_all kind before) other) ≡ unnumbered (settle kind (settled_all kind earlier) statement)

-- all of these statements are so, but for so many at most
abbrev pub AreAsBeforeBut : DeckKind → List Statement → ℕ → List Statement → Type 0
AreAsBeforeBut kind old count [] = ⊤
AreAsBeforeBut kind old count (statement ∷ earlier) =
    (IsAsBefore kind old earlier statement × AreAsBeforeBut kind old count earlier) ⊎ ((fewer : ℕ) × ((fewer < count) × AreAsBeforeBut kind old fewer earlier))

-- a count rises by one at least for each of these statements that is not so, unless that is beyond its greatest value
abbrev pub RisesAnew : DeckKind → List Statement → List Statement → ℕ → ℕ → Type 0
RisesAnew kind old statements count now = count + length statements < 2 ^ 64 → AreAsBeforeBut kind old (now - count) statements

-- one statement more is counted, or it is settled as before
abbrev pub IsCountedOrStays : DeckKind → List Statement → List Statement → Statement → ℕ → ℕ → Type 0
IsCountedOrStays kind old earlier statement count now = (now ≡ min (count + 1) (2 ^ 64 - 1)) ⊎ ((now ≡ count) × IsAsBefore kind old earlier statement)
