-- The state of each piece, and how many statements it has, in the order of the deck.
use Rattle.std.{proofs.Common.{◌≡◌, ℕ, zero, suc, ◌+◌, List, [], ◌∷◌, ◌++◌, length, take, drop, refl, sym, ap, ◌∙◌, subst, arith, length-append}, specs.Prelude.reverse, specs.List.AllByRecursion, proofs.lemmas.List.{reverse-append, length-reverse, length-drop}}
use Rattle.definitions.specs.{Settling.settled_all, Statements.Statement, Laws.States.state_after, declared.deck_kind.DeckKind.DeckKind}
use Rattle.deck_assembler.{specs.Joins.DeckParts.DeckPiece, specs.Joins.PieceSteps.{most_statements, sized_newest}, specs.Joins.SizedDecks.{passed, HaveStatesFrom, AreFilled}, specs.Joins.Sizers.{HaveStates, AreFilledNewest}, proofs.OntoLaws.{onto, onto-reverse, onto-back, drop-onto, drop-more, append-none}}

-- how many statements pieces have
abbrev total : List DeckPiece → ℕ
total [] = 0
total (piece ∷ pieces) = length piece.statements + total pieces

-- the pieces before some, behind which stand so many statements
states-behind : (kind : DeckKind) (statements : List Statement) (later before : List DeckPiece) → HaveStates kind statements (onto later before) → HaveStates kind (drop (total later) statements) before
states-behind kind statements [] before h = h
states-behind kind statements (piece ∷ later) before h =
    let rest = (states-behind kind statements later (piece ∷ before) h).1 in
    subst (λ (s : List Statement). HaveStates kind s before) (drop-more (length piece.statements) (total later) statements ∙ ap (λ n. drop n statements) (omega arith)) rest

passed-whole : (count : ℕ) (statements earlier : List Statement) → onto (drop count statements) (passed count statements earlier) ≡ onto statements earlier
passed-whole zero statements earlier = refl
passed-whole (suc count) [] earlier = refl
passed-whole (suc count) (statement ∷ statements) earlier =
    ap (onto (drop count statements)) (sym (onto-reverse (statement ∷ take count statements) earlier) ∙ onto-reverse (take count statements) (statement ∷ earlier))
    ∙ passed-whole count statements (statement ∷ earlier)

-- the states of the pieces behind some, in order
states-forward : (kind : DeckKind) (later before : List DeckPiece) (statements earlier : List Statement) → length statements ≡ total later →
    HaveStates kind (onto statements earlier) (onto later before) → HaveStatesFrom kind earlier later statements
states-forward kind [] before statements earlier e h = tt
states-forward kind (piece ∷ later) before statements earlier e h =
    let count = length piece.statements in
    let whole = onto statements earlier in
    let here = (states-behind kind whole later (piece ∷ before) h).0 in
    let there : drop count (drop (total later) whole) ≡ earlier =
    drop-more count (total later) whole ∙ ap (λ n. drop n whole) (omega arith) ∙ drop-onto statements earlier in
    let left : length (drop count statements) ≡ total later = length-drop count statements ∙ (omega arith) in (
      here ∙ ap (λ (s : List Statement). state_after (settled_all kind s)) there,
      states-forward kind later (piece ∷ before) (drop count statements) (passed count statements earlier) left
          (subst (λ (s : List Statement). HaveStates kind s (onto later (piece ∷ before))) (sym (passed-whole count statements earlier)) h),
    )

total-append : (pieces others : List DeckPiece) → total (pieces ++ others) ≡ total pieces + total others
total-append [] others = omega arith
total-append (piece ∷ pieces) others = let rest = total-append pieces others in omega arith

total-reverse : (pieces : List DeckPiece) → total (reverse pieces) ≡ total pieces
total-reverse [] = refl
total-reverse (piece ∷ pieces) = ap total (reverse-append (piece ∷ []) pieces) ∙ total-append (reverse pieces) (piece ∷ []) ∙ (let rest = total-reverse pieces in omega arith)

count-newest : (pieces : List DeckPiece) → length (sized_newest pieces) ≡ total pieces
count-newest [] = refl
count-newest (piece ∷ pieces) =
    let rest = count-newest pieces in
    let own = length-reverse piece.statements in
    length-append (reverse piece.statements) (sized_newest pieces) ∙ (omega arith)

-- the state of each piece, in order
pub all-states : (kind : DeckKind) (statements : List Statement) (pieces : List DeckPiece) → length statements ≡ length (sized_newest (reverse pieces)) → HaveStates kind statements (reverse pieces) →
    HaveStatesFrom kind [] pieces (reverse statements)
all-states kind statements pieces count h =
    let told : HaveStates kind (onto (reverse statements) []) (onto pieces []) =
    subst (λ (both : List Statement × List DeckPiece). HaveStates kind both.0 both.1) (λ i. (sym (onto-back statements) i, sym (onto-reverse pieces [] ∙ append-none (reverse pieces)) i)) h in
    states-forward kind pieces [] (reverse statements) [] (length-reverse statements ∙ count ∙ count-newest (reverse pieces) ∙ total-reverse pieces) told

fills : (before rest : List DeckPiece) → AllByRecursion (λ (piece : DeckPiece). length piece.statements ≡ most_statements) before → (latest : DeckPiece) (behind : List DeckPiece) → rest ≡ latest ∷ behind →
    AreFilled rest → AreFilled (onto before rest)
fills [] rest full latest behind e h = h
fills (piece ∷ before) rest full latest behind e h =
    fills before (piece ∷ rest) full.1 piece rest refl
    (subst (λ (r : List DeckPiece). AreFilled (piece ∷ r)) (sym e) (full.0, subst AreFilled e h))

filled-newest : (pieces : List DeckPiece) → AreFilledNewest pieces → AreFilled (onto pieces [])
filled-newest [] h = tt
filled-newest (latest ∷ before) h = fills before (latest ∷ []) h.1 latest [] refl h.0

-- all pieces but the last are full
pub all-filled : (pieces : List DeckPiece) → AreFilledNewest (reverse pieces) → AreFilled pieces
all-filled pieces h = subst AreFilled (onto-back pieces) (filled-newest (reverse pieces) h)
