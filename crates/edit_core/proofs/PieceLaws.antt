-- The pieces of a record have all its statements.
use Rattle.std.{specs.List.sum, proofs.Common.{ℕ, ◌≡◌, ◌+◌, ◌-◌, ◌<◌, ◌≤◌, All, List, [], ◌∷◌, length, drop, suc, refl, sym, ap, ◌∙◌, arith, length-append, reverse}, proofs.lemmas.List.length-reverse, proofs.lemmas.List.Elements.{All-nil, All-cons}, proofs.lemmas.List.Sums.sum_by-cons}
use Rattle.definitions.specs.{Cards.Card, DeckKinds.up_to_end, Statements.{Statement, statements_of}, declared.deck_kind.DeckKind.DeckKind}
use Rattle.deck_assembler.specs.{Joins.DeckParts.{DeckPiece, DeckParts, sized_in}, Joins.SizedDecks.{AreSizedFrom, AreFilled, IsSizedDeck}, declared.sized_statement.SizedStatement.SizedStatement}
use Rattle.edit_core.specs.Records.{piece_counts, ArePieces}

-- as many are sized as there are statements
sized-length : (kind : DeckKind) (earlier : List Statement) (stood : ℕ) (ahead : List Card) (sized : List SizedStatement) (statements : List Statement) (behind : List ℕ) (others : List Statement) →
    AreSizedFrom kind earlier stood ahead sized statements behind others → length sized ≡ length statements
sized-length kind earlier stood ahead [] [] behind others are = refl
sized-length kind earlier stood ahead [] (statement ∷ statements) behind others are = absurd are
sized-length kind earlier stood ahead (one ∷ later) [] behind others are = absurd are
sized-length kind earlier stood ahead (one ∷ later) (statement ∷ statements) behind others are = ap suc (sized-length kind (statement ∷ earlier) (stood + one.cards) (drop one.cards ahead) later statements behind others are.1)

-- the statements of a piece and of those behind it
two-lengths : (piece : DeckPiece) (pieces : List DeckPiece) → length (sized_in (piece ∷ pieces)) ≡ length piece.statements + length (sized_in pieces)
two-lengths piece pieces = length-append piece.statements (sized_in pieces)

-- filled pieces, by their numbers
pieces-are : (pieces : List DeckPiece) (count : ℕ) → AreFilled pieces → length (sized_in pieces) ≡ count → ArePieces count (piece_counts pieces)
pieces-are [] count filled all = sym all
pieces-are (piece ∷ []) count filled all = let both = two-lengths piece [] in (omega (arith, both, all), filled)
pieces-are (piece ∷ next ∷ pieces) count filled all =
    let both = two-lengths piece (next ∷ pieces) in
    let whole = filled.0 in
    (whole, (omega (arith, both, whole, all), pieces-are (next ∷ pieces) (count - 128) filled.1 (omega (arith, both, whole, all))))

-- the pieces of a deck that is sized
pub deck-pieces : (cards : List Card) (deck : DeckParts) → IsSizedDeck cards deck → ArePieces (length (up_to_end (statements_of (reverse cards)))) (piece_counts deck.pieces)
deck-pieces cards deck is =
    let statements = up_to_end (statements_of (reverse cards)) in
    pieces-are deck.pieces (length statements) is.filled (sized-length _ _ _ _ (sized_in deck.pieces) (reverse statements) _ _ is.sized ∙ length-reverse statements)

-- each of the pieces has 1 to 128 statements
pub pieces-each : (count : ℕ) (pieces : List ℕ) → ArePieces count pieces → All (λ piece. (0 < piece) × (piece ≤ 128)) pieces
pieces-each count [] are = All-nil (λ piece. (0 < piece) × (piece ≤ 128))
pieces-each count (piece ∷ []) are = All-cons (λ piece. (0 < piece) × (piece ≤ 128)) piece [] are.1 (All-nil (λ piece. (0 < piece) × (piece ≤ 128)))
pieces-each count (piece ∷ next ∷ pieces) are =
    let whole = are.0 in
    All-cons (λ piece. (0 < piece) × (piece ≤ 128)) piece (next ∷ pieces) (omega (arith, whole), omega (arith, whole)) (pieces-each (count - 128) (next ∷ pieces) are.1.1)

-- and together they have all
pub pieces-sum : (count : ℕ) (pieces : List ℕ) → ArePieces count pieces → sum pieces ≡ count
pieces-sum count [] are = sym are
pieces-sum count (piece ∷ []) are = let both = sum_by-cons (λ n. n) piece [] in let same = are.0 in omega (arith, both, same)
pieces-sum count (piece ∷ next ∷ pieces) are =
    let both = sum_by-cons (λ n. n) piece (next ∷ pieces) in
    let whole = are.0 in
    let least = are.1.0 in
    let others = pieces-sum (count - 128) (next ∷ pieces) are.1.1 in
    omega (arith, both, whole, least, others)
