-- The statements of pieces, counted.
use Rattle.std.proofs.Common.{◌≡◌, ℕ, zero, suc, ◌+◌, ◌<◌, ◌≤◌, List, [], ◌∷◌, length, take, drop, get_or, ap, arith, length-append}
use Rattle.definitions.specs.{Cards.Card, Statements.Statement, declared.deck_kind.DeckKind.DeckKind}
use Rattle.deck_assembler.specs.{Joins.DeckParts.{DeckPiece, sized_in}, Joins.SizedDecks.AreSizedFrom, declared.sized_statement.SizedStatement.SizedStatement}

-- those of a piece and of those before it are among all
pub pieces-within : (pieces : List DeckPiece) (i : ℕ) (piece : DeckPiece) → i < length pieces → piece ≡ get_or pieces i piece → length (sized_in (take i pieces)) + length piece.statements ≤ length (sized_in pieces)
pieces-within [] i piece h e = absurd (omega (arith, h))
pieces-within (first ∷ pieces) zero piece h e =
    let whole = length-append first.statements (sized_in pieces) in
    let same : length piece.statements ≡ length first.statements = ap (λ (p : DeckPiece). length p.statements) e in
    omega (arith, whole, same)
pieces-within (first ∷ pieces) (suc i) piece h e =
    let rest = pieces-within pieces i piece (omega (arith, h)) e in
    let whole = length-append first.statements (sized_in pieces) in
    let front = length-append first.statements (sized_in (take i pieces)) in
    omega (arith, rest, whole, front)

-- as many were sized as there are
pub sized-length : (kind : DeckKind) (earlier : List Statement) (stood : ℕ) (ahead : List Card) (sized : List SizedStatement) (statements : List Statement) (behind : List ℕ) (others : List Statement) →
    AreSizedFrom kind earlier stood ahead sized statements behind others → length sized ≡ length statements
sized-length kind earlier stood ahead [] [] behind others h = omega arith
sized-length kind earlier stood ahead [] (statement ∷ statements) behind others h = absurd h
sized-length kind earlier stood ahead (one ∷ sized) [] behind others h = absurd h
sized-length kind earlier stood ahead (one ∷ sized) (statement ∷ statements) behind others h =
    let rest = sized-length kind (statement ∷ earlier) (stood + one.cards) (drop one.cards ahead) sized statements behind others h.1 in omega (arith, rest)

-- the statements of one piece more
pub pieces-more : (pieces : List DeckPiece) (i : ℕ) (piece : DeckPiece) → i < length pieces → piece ≡ get_or pieces i piece → length (sized_in (take (i + 1) pieces)) ≡ length (sized_in (take i pieces)) + length piece.statements
pieces-more [] i piece h e = absurd (omega (arith, h))
pieces-more (first ∷ pieces) zero piece h e =
    let one = length-append first.statements [] in
    let same : length piece.statements ≡ length first.statements = ap (λ (p : DeckPiece). length p.statements) e in
    omega (arith, one, same)
pieces-more (first ∷ pieces) (suc i) piece h e =
    let rest = pieces-more pieces i piece (omega (arith, h)) e in
    let more = length-append first.statements (sized_in (take (i + 1) pieces)) in
    let front = length-append first.statements (sized_in (take i pieces)) in
    let turned : length (sized_in (take (suc i + 1) (first ∷ pieces))) ≡ length (sized_in (take (suc (i + 1)) (first ∷ pieces))) =
    ap (λ k. length (sized_in (take k (first ∷ pieces)))) (let n : suc i + 1 ≡ suc (i + 1) = omega arith in n) in
    omega (arith, rest, more, front, turned)
