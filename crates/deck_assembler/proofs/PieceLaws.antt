-- The pieces in order, and newest first.
use Rattle.std.{proofs.Common.{ℕ, suc, ◌≡◌, ◌-◌, ◌<◌, List, [], ◌∷◌, ◌++◌, length, take, get_or, set, sym, ap, ◌∙◌, arith}, specs.Prelude.reverse, proofs.lemmas.List.{set_split, set-get_or, drop_all, reverse-append}}
use Rattle.deck_assembler.specs.{Joins.DeckParts.DeckPiece, Joins.PieceSteps.{with_pushed, onto_latest}, declared.sized_statement.SizedStatement.SizedStatement}

set-last : (pieces : List DeckPiece) (count : ℕ) (piece : DeckPiece) → count ≡ length pieces → 0 < count → set pieces (count - 1) piece ≡ take (count - 1) pieces ++ piece ∷ []
set-last pieces count piece all some =
    set_split pieces (count - 1) piece (omega arith)
    ∙ ap (λ (rest : List DeckPiece). take (count - 1) pieces ++ piece ∷ rest) (drop_all (suc (count - 1)) pieces (omega arith))

last-split : (pieces : List DeckPiece) (count : ℕ) (piece : DeckPiece) → count ≡ length pieces → 0 < count → piece ≡ get_or pieces (count - 1) piece → pieces ≡ take (count - 1) pieces ++ piece ∷ []
last-split pieces count piece all some e =
    sym (set-get_or pieces (count - 1) piece)
    ∙ set-last pieces count (get_or pieces (count - 1) piece) all some
    ∙ ap (λ (last : DeckPiece). take (count - 1) pieces ++ last ∷ []) (sym e)

-- a statement more in the last piece
pub last-pushed : (sized : SizedStatement) (pieces : List DeckPiece) (count : ℕ) (latest next : DeckPiece) → count ≡ length pieces → 0 < count → latest ≡ get_or pieces (count - 1) latest →
    next ≡ with_pushed sized latest → reverse (set pieces (count - 1) next) ≡ onto_latest sized (reverse pieces)
last-pushed sized pieces count latest next all some e n =
    let front = take (count - 1) pieces in
    ap reverse (set-last pieces count next all some)
    ∙ reverse-append front (next ∷ [])
    ∙ ap (λ (piece : DeckPiece). piece ∷ reverse front) n
    ∙ ap (onto_latest sized) (sym (ap reverse (last-split pieces count latest all some e) ∙ reverse-append front (latest ∷ [])))
