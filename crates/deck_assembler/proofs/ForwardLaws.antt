-- What is stated of statements newest first, stated in the order of the deck.
use Rattle.std.{proofs.Common.{◌≡◌, ℕ, suc, ◌+◌, ◌≤◌, List, [], ◌∷◌, ◌++◌, length, take, drop, refl, sym, ap, ap₂, ◌∙◌, subst, arith, append_assoc, length-append, length-take-le}, specs.Prelude.reverse, proofs.lemmas.List.{reverse-append, length-reverse}}
use Rattle.definitions.specs.{Cards.Card, Statements.{Statement, cards_in}, declared.deck_kind.DeckKind.DeckKind}
use Rattle.deck_assembler.{specs.Joins.DeckParts.{DeckPiece, sized_in}, specs.Joins.PieceSteps.sized_newest, specs.Joins.SizedDecks.{AreListedFrom, AreSizedFrom}, specs.Joins.Sizers.{stood, ahead, AreSized}, proofs.OntoLaws.{onto, onto-reverse, onto-back, append-none, drop-more}, specs.declared.sized_statement.SizedStatement.SizedStatement}

-- so many cards more stand before what follows a statement of so many
pub stood-more : (earlier : List Statement) (statement : Statement) (cards : List Card) (count : ℕ) → take count cards ≡ statement.cards → count ≤ length cards →
    stood earlier + count ≡ stood (statement ∷ earlier)
stood-more earlier statement cards count e within =
    let all = length-append (cards_in earlier) statement.cards in
    let own : length statement.cards ≡ count = ap length (sym e) ∙ length-take-le count cards within in
    omega arith

-- and so many less are ahead
pub ahead-less : (cards : List Card) (earlier : List Statement) (statement : Statement) (count : ℕ) → stood earlier + count ≡ stood (statement ∷ earlier) →
    drop count (ahead cards earlier) ≡ ahead cards (statement ∷ earlier)
ahead-less cards earlier statement count e = drop-more count (stood earlier) cards ∙ ap (λ n. drop n cards) e

sized-behind : (kind : DeckKind) (cards : List Card) (statements earlier : List Statement) (sized before : List SizedStatement) → length statements ≡ length sized →
    AreSized kind cards (onto statements earlier) (onto sized before) → AreSized kind cards earlier before
sized-behind kind cards [] earlier [] before e h = h
sized-behind kind cards [] earlier (s ∷ sized) before e h = cc
sized-behind kind cards (statement ∷ statements) earlier [] before e h = cc
sized-behind kind cards (statement ∷ statements) earlier (s ∷ sized) before e h = (sized-behind kind cards statements (statement ∷ earlier) sized (s ∷ before) (omega arith) h).1

-- the statements behind these, in order
sized-forward : (kind : DeckKind) (cards : List Card) (statements earlier : List Statement) (sized before : List SizedStatement) (counts : List ℕ) (others : List Statement) → length statements ≡ length sized →
    AreSized kind cards (onto statements earlier) (onto sized before) →
    AreListedFrom (stood (onto statements earlier)) (ahead cards (onto statements earlier)) counts others →
    AreSizedFrom kind earlier (stood earlier) (ahead cards earlier) sized statements counts others
sized-forward kind cards [] earlier [] before counts others e h l = l
sized-forward kind cards [] earlier (s ∷ sized) before counts others e h l = cc
sized-forward kind cards (statement ∷ statements) earlier [] before counts others e h l = cc
sized-forward kind cards (statement ∷ statements) earlier (s ∷ sized) before counts others e h l =
    let here = (sized-behind kind cards statements (statement ∷ earlier) sized (s ∷ before) (omega arith) h).0 in
    let more = stood-more earlier statement (ahead cards earlier) s.cards here.cards here.within in
    let rest = sized-forward kind cards statements (statement ∷ earlier) sized (s ∷ before) counts others (omega arith) h l in
    (here, subst (λ (both : ℕ × List Card). AreSizedFrom kind (statement ∷ earlier) both.0 both.1 sized statements counts others) (λ i. (sym more i, sym (ahead-less cards earlier statement s.cards more) i)) rest)

sized_newest-append : (pieces others : List DeckPiece) → sized_newest (pieces ++ others) ≡ sized_newest pieces ++ sized_newest others
sized_newest-append [] others = refl
sized_newest-append (piece ∷ pieces) others =
    ap (λ (l : List SizedStatement). reverse piece.statements ++ l) (sized_newest-append pieces others)
    ∙ sym (append_assoc (reverse piece.statements) (sized_newest pieces) (sized_newest others))

-- the statements of pieces newest first
pub sized_newest-reverse : (pieces : List DeckPiece) → sized_newest (reverse pieces) ≡ reverse (sized_in pieces)
sized_newest-reverse [] = refl
sized_newest-reverse (piece ∷ pieces) =
    ap sized_newest (reverse-append (piece ∷ []) pieces)
    ∙ sized_newest-append (reverse pieces) (piece ∷ [])
    ∙ ap₂ (λ (a b : List SizedStatement). a ++ b) (sized_newest-reverse pieces) (append-none (reverse piece.statements))
    ∙ sym (reverse-append piece.statements (sized_in pieces))

pub sized-count : (kind : DeckKind) (cards : List Card) (statements : List Statement) (sized : List SizedStatement) → AreSized kind cards statements sized → length statements ≡ length sized
sized-count kind cards [] [] h = refl
sized-count kind cards [] (s ∷ sized) h = absurd h
sized-count kind cards (statement ∷ statements) [] h = absurd h
sized-count kind cards (statement ∷ statements) (s ∷ sized) h = ap suc (sized-count kind cards statements sized h.1)

-- all statements up to END, in order, and those behind it
pub all-forward : (kind : DeckKind) (cards : List Card) (statements : List Statement) (pieces : List DeckPiece) (counts : List ℕ) (others : List Statement) →
    AreSized kind cards statements (sized_newest (reverse pieces)) → AreListedFrom (stood statements) (ahead cards statements) counts others →
    AreSizedFrom kind [] 0 cards (sized_in pieces) (reverse statements) counts others
all-forward kind cards statements pieces counts others h l =
    let back = onto-back statements in
    let told : AreSized kind cards (onto (reverse statements) []) (onto (sized_in pieces) []) =
    subst (λ (both : List Statement × List SizedStatement). AreSized kind cards both.0 both.1)
    (λ i. (sym back i, (sized_newest-reverse pieces ∙ sym (onto-reverse (sized_in pieces) [] ∙ append-none (reverse (sized_in pieces)))) i)) h in
    let listed : AreListedFrom (stood (onto (reverse statements) [])) (ahead cards (onto (reverse statements) [])) counts others =
    subst (λ (s : List Statement). AreListedFrom (stood s) (ahead cards s) counts others) (sym back) l in
    let count : length (reverse statements) ≡ length (sized_in pieces) =
    length-reverse statements ∙ sized-count kind cards statements (sized_newest (reverse pieces)) h ∙ ap length (sized_newest-reverse pieces) ∙ length-reverse (sized_in pieces) in
    sized-forward kind cards (reverse statements) [] (sized_in pieces) [] counts others count told listed
