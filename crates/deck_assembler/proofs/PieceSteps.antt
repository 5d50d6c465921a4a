-- One statement more in pieces that are read newest first.
use Rattle.std.{proofs.Common.{◌≡◌, suc, ◌<◌, ◌≤◌, Bool, true, false, not, nat_lt, List, [], ◌∷◌, ◌++◌, length, drop, refl, sym, ap, ◌∙◌, subst, arith, if◌then◌else◌, length-append}, specs.Prelude.reverse, proofs.lemmas.Bool.Decides.nat_tests, proofs.lemmas.List.reverse-append}
use Rattle.definitions.specs.{Settling.settled_all, Statements.Statement, Laws.States.{BlockState, state_after}, declared.deck_kind.DeckKind.DeckKind}
use Rattle.deck_assembler.specs.{Joins.DeckParts.DeckPiece, Joins.PieceSteps.{most_statements, is_full, with_pushed, onto_latest, with_statement, sized_newest}, Joins.Sizers.{HaveStates, IsFilled, AreFilledNewest}, declared.sized_statement.SizedStatement.SizedStatement}

-- a piece is begun with one statement
abbrev begun : BlockState → SizedStatement → DeckPiece
begun state sized = record { state = state; statements = sized ∷ [] }

abbrev with_if : Bool → BlockState → SizedStatement → List DeckPiece → List DeckPiece
with_if full state sized pieces = if full then begun state sized ∷ pieces else onto_latest sized pieces

length-pushed : (sized : SizedStatement) (piece : DeckPiece) → length (with_pushed sized piece).statements ≡ suc (length piece.statements)
length-pushed sized piece = length-append piece.statements (sized ∷ []) ∙ (omega arith)

-- the statements are those before and the new one
pub sized-step : (state : BlockState) (sized : SizedStatement) (pieces : List DeckPiece) → sized_newest (with_statement state sized pieces) ≡ sized ∷ sized_newest pieces
sized-step state sized [] = refl
sized-step state sized (latest ∷ before) = by (is_full (latest ∷ before))
  where
    by : (b : Bool) → sized_newest (with_if b state sized (latest ∷ before)) ≡ sized ∷ (reverse latest.statements ++ sized_newest before)
    by true = refl
    by false = ap (λ (l : List SizedStatement). l ++ sized_newest before) (reverse-append latest.statements (sized ∷ []))

-- the states stay those before each piece
pub states-step : (kind : DeckKind) (given : Statement) (earlier : List Statement) (state : BlockState) (sized : SizedStatement) (pieces : List DeckPiece) →
    state ≡ state_after (settled_all kind earlier) → HaveStates kind earlier pieces → HaveStates kind (given ∷ earlier) (with_statement state sized pieces)
states-step kind given earlier state sized [] e h = (e, h)
states-step kind given earlier state sized (latest ∷ before) e h = by (is_full (latest ∷ before))
  where
    by : (b : Bool) → HaveStates kind (given ∷ earlier) (with_if b state sized (latest ∷ before))
    by true = (e, h)
    by false =
        subst (λ n. (latest.state ≡ state_after (settled_all kind (drop n (given ∷ earlier)))) × HaveStates kind (drop n (given ∷ earlier)) before)
        (sym (length-pushed sized latest)) h

filled-at : (sized : SizedStatement) (latest : DeckPiece) → not (nat_lt (length latest.statements) most_statements) ≡ false → IsFilled (with_pushed sized latest)
filled-at sized latest e =
    let few : length latest.statements < 128 = grind (arith, nat_tests) in
    let more = length-pushed sized latest in
    (omega arith, omega arith)

full-at : (latest : DeckPiece) → IsFilled latest → not (nat_lt (length latest.statements) most_statements) ≡ true → length latest.statements ≡ most_statements
full-at latest h e =
    let many : 128 ≤ length latest.statements = grind (arith, nat_tests) in
    let few = h.1 in
    omega arith

-- all pieces but the latest stay full
pub filled-step : (state : BlockState) (sized : SizedStatement) (pieces : List DeckPiece) → AreFilledNewest pieces → AreFilledNewest (with_statement state sized pieces)
filled-step state sized [] h = ((omega arith, omega arith), tt)
filled-step state sized (latest ∷ before) h = by (is_full (latest ∷ before)) refl
  where
    by : (b : Bool) → is_full (latest ∷ before) ≡ b → AreFilledNewest (with_if b state sized (latest ∷ before))
    by true e = ((omega arith, omega arith), (full-at latest h.0 e, h.1))
    by false e = (filled-at sized latest e, h.1)
