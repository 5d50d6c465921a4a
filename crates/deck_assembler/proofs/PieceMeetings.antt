-- A piece of the old deck that is left: how it is chosen, and that it stays ahead until the walk comes to it.
use Rattle.std.{proofs.Common.{◌≡◌, ℕ, suc, ◌+◌, ◌<◌, ◌≤◌, inl, inr, ◌⊎◌, List, [], ◌∷◌, ◌++◌, drop, length, slice_index_or, refl, sym, ap, ◌∙◌, subst, arith, append_assoc, length-append}, specs.List.AllByRecursion, specs.Prelude.reverse, proofs.lemmas.Bool.cases_lt, proofs.lemmas.List.{length-drop, reverse-append}}
use Rattle.definitions.specs.{Cards.Card, Statements.{Statement, cards_in}, declared.deck_kind.DeckKind.DeckKind}
use Rattle.deck_assembler.{specs.Joins.Agreements.left, specs.Joins.DeckParts.{DeckPiece, sized_in}, specs.Joins.Meetings.{cards_of, HasPiece, IsBegunOf, IsNextOf, IsShort}, specs.Joins.SizedDecks.AreSizedFrom, specs.declared.old_deck.OldDeck.OldDeck, specs.declared.sized_statement.SizedStatement.SizedStatement, proofs.AlikeLaws.sized_in-append, proofs.ForwardLaws.stood-more, proofs.OntoLaws.drop-more}

pub cards_of-append : (a b : List SizedStatement) → cards_of (a ++ b) ≡ cards_of a + cards_of b
cards_of-append [] b = omega arith
cards_of-append (sized ∷ a) b = let rest = cards_of-append a b in omega (arith, rest)

pub first-of : {X : Type 0} (a b : X) (x y : List X) → a ∷ x ≡ b ∷ y → a ≡ b
first-of a b x y e = cc

rest-of : {X : Type 0} (a b : X) (x y : List X) → a ∷ x ≡ b ∷ y → x ≡ y
rest-of a b x y e = cc

-- a list that is the rest of itself
pub own-rest : (l : List SizedStatement) → l ≡ drop 1 l → l ≡ []
own-rest [] e = refl
own-rest (sized ∷ l) e = let n = ap length e in absurd (omega (arith, n))

-- the first of a list that has some
pub first-left : (l : List SizedStatement) (sized : SizedStatement) → 0 < length l → sized ≡ slice_index_or l 0 sized → l ≡ sized ∷ drop 1 l
first-left [] sized some e = absurd (omega (arith, some))
first-left (first ∷ l) sized some e = ap (λ (s : SizedStatement). s ∷ l) (sym e)

-- the first statement of the piece that was begun is the next one
pub begun-next : (old begun next : OldDeck) (sized : SizedStatement) → IsBegunOf old begun → begun.statements.items ≡ sized ∷ next.statements.items → begun.pieces.items ≡ next.pieces.items → IsNextOf old next sized
begun-next old begun next sized (inl both) first pieces = inl (both.0 ∙ first, both.1 ∙ pieces)
begun-next old begun next sized (inr none) first pieces = inr (none.0, (none.1.0, none.1.1 ∙ ap (λ (l : List DeckPiece). none.1.0 ∷ l) pieces, none.1.2 ∙ first))

-- a piece that has nothing was not begun here
pub none-begun : (old begun : OldDeck) → IsBegunOf old begun → begun.statements.items ≡ [] → (begun.statements.items ≡ old.statements.items) × (begun.pieces.items ≡ old.pieces.items)
none-begun old begun (inl both) none = (sym both.0, sym both.1)
none-begun old begun (inr piece) none = let some = piece.1.3 in let n = ap length none in absurd (omega (arith, some, n))

-- so many cards less are left behind a statement
less-left : (new before : List Card) (count rest : ℕ) → (count ≤ length before → new ≡ drop count before) → length before ≡ count + rest → length new ≡ rest
less-left new before count rest moved e =
    let same = ap length (moved (omega (arith, e))) in
    let left = length-drop count before in
    omega (arith, same, left, e)

-- a piece stays ahead behind a statement, where more cards are left
pub piece-more : (old next new : OldDeck) (sized : SizedStatement) (tail : List SizedStatement) (count : ℕ) → IsNextOf old next sized → next.ahead.now ≡ old.ahead.now →
    new.statements.items ≡ next.statements.items → new.pieces.items ≡ next.pieces.items → (sized.cards ≤ length next.ahead.now → new.ahead.now ≡ drop sized.cards next.ahead.now) →
    count < length old.ahead.now → HasPiece old tail count → HasPiece new tail count
piece-more old next new sized tail count is ahead begun pieces moved more has = by is has.passed has.split has.cards
  where
    same : length next.ahead.now ≡ length old.ahead.now
    same = ap length ahead

    by : IsNextOf old next sized → (passed : List DeckPiece) → old.pieces.items ≡ passed ++ has.pieces → length old.ahead.now ≡ cards_of (old.statements.items ++ sized_in passed) + count → HasPiece new tail count
    by (inl both) passed split cards =
        let left = less-left new.ahead.now next.ahead.now sized.cards (cards_of (next.statements.items ++ sized_in passed) + count) moved
        (let whole = ap (λ (l : List SizedStatement). cards_of (l ++ sized_in passed)) both.0 in omega (arith, same, cards, whole)) in
        record {
          passed = passed;
          pieces = has.pieces;
          split = pieces ∙ sym both.1 ∙ split;
          tail_is = has.tail_is;
          cards = left ∙ ap (λ (l : List SizedStatement). cards_of (l ++ sized_in passed) + count) (sym begun);
        }
    by (inr next_piece) [] split cards =
        let none = ap (λ (l : List SizedStatement). cards_of (l ++ [])) next_piece.0 in absurd (omega (arith, cards, none, more))
    by (inr next_piece) (piece ∷ passed) split cards =
        let two = sym next_piece.1.1 ∙ split in
        let own = first-of next_piece.1.0 piece next.pieces.items (passed ++ has.pieces) two in
        let statements : piece.statements ≡ sized ∷ next.statements.items = ap (λ (p : DeckPiece). p.statements) (sym own) ∙ next_piece.1.2 in
        let whole : cards_of (old.statements.items ++ sized_in (piece ∷ passed)) ≡ sized.cards + cards_of (next.statements.items ++ sized_in passed) =
        ap (λ (l : List SizedStatement). cards_of (l ++ sized_in (piece ∷ passed))) next_piece.0 ∙ ap (λ (l : List SizedStatement). cards_of (l ++ sized_in passed)) statements in
        let left = less-left new.ahead.now next.ahead.now sized.cards (cards_of (next.statements.items ++ sized_in passed) + count) moved (omega (arith, same, cards, whole)) in
        record {
          passed = passed;
          pieces = has.pieces;
          split = pieces ∙ rest-of next_piece.1.0 piece next.pieces.items (passed ++ has.pieces) two;
          tail_is = has.tail_is;
          cards = left ∙ ap (λ (l : List SizedStatement). cards_of (l ++ sized_in passed) + count) (sym begun);
        }

-- a piece of a deck that has the same left
pub piece-same : (old new : OldDeck) (tail : List SizedStatement) (count : ℕ) → new.statements.items ≡ old.statements.items → new.pieces.items ≡ old.pieces.items → new.ahead.now ≡ old.ahead.now →
    HasPiece old tail count → HasPiece new tail count
piece-same old new tail count begun pieces ahead has = record {
  passed = has.passed;
  pieces = has.pieces;
  split = pieces ∙ has.split;
  tail_is = has.tail_is;
  cards = ap length ahead ∙ has.cards ∙ ap (λ (l : List SizedStatement). cards_of (l ++ sized_in has.passed) + count) (sym begun);
}

-- what is left of a deck: the statements up to a piece, and those from there on
pub left-piece : (deck : OldDeck) (tail : List SizedStatement) (count : ℕ) (has : HasPiece deck tail count) → left deck ≡ (deck.statements.items ++ sized_in has.passed) ++ tail
left-piece deck tail count has =
    ap (λ (l : List DeckPiece). deck.statements.items ++ sized_in l) has.split ∙ ap (λ (l : List SizedStatement). deck.statements.items ++ l) (sized_in-append has.passed has.pieces ∙ ap (λ (l : List SizedStatement). sized_in has.passed ++ l) (sym has.tail_is))
    ∙ sym (append_assoc deck.statements.items (sized_in has.passed) tail)

abbrev HaveSome : List SizedStatement → Type 0
HaveSome statements = AllByRecursion (λ (sized : SizedStatement). 0 < sized.cards) statements

-- each statement that was sized has a card
pub sized-some : (kind : DeckKind) (earlier : List Statement) (stood : ℕ) (ahead : List Card) (sized : List SizedStatement) (statements : List Statement) (behind : List ℕ) (others : List Statement) →
    AreSizedFrom kind earlier stood ahead sized statements behind others → AllByRecursion (λ (sized : SizedStatement). 0 < sized.cards) sized
sized-some kind earlier stood ahead [] [] behind others are = tt
sized-some kind earlier stood ahead [] (statement ∷ statements) behind others are = tt
sized-some kind earlier stood ahead (sized ∷ later) [] behind others are = absurd are
sized-some kind earlier stood ahead (sized ∷ later) (statement ∷ statements) behind others are =
    (are.0.some, sized-some kind (statement ∷ earlier) (stood + sized.cards) (drop sized.cards ahead) later statements behind others are.1)

no-cards : (a b : List SizedStatement) → HaveSome (a ++ b) → cards_of a ≡ 0 → a ≡ []
no-cards [] b h none = refl
no-cards (sized ∷ a) b h none = let some = h.0 in absurd (omega (arith, none, some))

none-of : (a b : List SizedStatement) → a ++ b ≡ [] → (a ≡ []) × (b ≡ [])
none-of [] b e = (refl, e)
none-of (sized ∷ a) b e = cc

-- the walk has come to the piece, where no more cards are left
pub at-piece : (deck : OldDeck) (tail : List SizedStatement) (count : ℕ) → HasPiece deck tail count → AllByRecursion (λ (sized : SizedStatement). 0 < sized.cards) (left deck) → length deck.ahead.now ≤ count →
    (deck.statements.items ≡ []) × (left deck ≡ tail)
at-piece deck tail count has some few =
    let whole = left-piece deck tail count has in
    let cards = has.cards in
    let none = no-cards (deck.statements.items ++ sized_in has.passed) tail (subst HaveSome whole some) (omega (arith, cards, few)) in
    ((none-of deck.statements.items (sized_in has.passed) none).0, whole ∙ ap (λ (l : List SizedStatement). l ++ tail) none)

-- the first piece that begins behind a place, where so many statements are left
pub record IsChosen (pieces : List DeckPiece) (rest : ℕ) : Type 0 where
  pub passed : List DeckPiece
  pub others : List DeckPiece
  pub split : pieces ≡ passed ++ others
  pub behind : length (sized_in others) < rest
  pub near : rest ≤ length (sized_in others) + 128

pub chosen : (pieces : List DeckPiece) (rest : ℕ) → AllByRecursion IsShort pieces → 0 < rest → rest ≤ length (sized_in pieces) + 128 → IsChosen pieces rest
chosen [] rest short some near = record { passed = []; others = []; split = refl; behind = some; near = near }
chosen (piece ∷ pieces) rest short some near = by (cases_lt (length (sized_in (piece ∷ pieces))) rest) (chosen pieces rest short.1 some)
  where
    by : (length (sized_in (piece ∷ pieces)) < rest) ⊎ (rest ≤ length (sized_in (piece ∷ pieces))) → (rest ≤ length (sized_in pieces) + 128 → IsChosen pieces rest) → IsChosen (piece ∷ pieces) rest
    by (inl behind) more = record { passed = []; others = piece ∷ pieces; split = refl; behind = behind; near = near }
    by (inr few) more =
        let parts = length-append piece.statements (sized_in pieces) in
        let own = short.0 in
        let found = more (omega (arith, few, parts, own)) in
        record { passed = piece ∷ found.passed; others = found.others; split = ap (λ (l : List DeckPiece). piece ∷ l) found.split; behind = found.behind; near = found.near }

-- statements in order that were sized, in two parts
pub record IsSizedCut (kind : DeckKind) (earlier : List Statement) (stood : ℕ) (ahead : List Card) (first later : List SizedStatement) (statements : List Statement) (behind : List ℕ) (others : List Statement) : Type 0 where
  pub front : List Statement
  pub rest : List Statement
  pub all : reverse rest ++ front ≡ reverse statements ++ earlier
  pub cards : cards_of first ≤ length ahead
  pub place : length (cards_in front) ≡ length (cards_in earlier) + cards_of first
  pub are : AreSizedFrom kind front (stood + cards_of first) (drop (cards_of first) ahead) later rest behind others

pub sized-cut : (kind : DeckKind) (earlier : List Statement) (stood : ℕ) (ahead : List Card) (first later : List SizedStatement) (statements : List Statement) (behind : List ℕ) (others : List Statement) →
    AreSizedFrom kind earlier stood ahead (first ++ later) statements behind others → IsSizedCut kind earlier stood ahead first later statements behind others
sized-cut kind earlier stood ahead [] later statements behind others are = record {
  front = earlier;
  rest = statements;
  all = refl;
  cards = omega arith;
  place = omega arith;
  are = subst (λ n. AreSizedFrom kind earlier n ahead later statements behind others) (omega arith) are;
}
sized-cut kind earlier stood ahead (sized ∷ first) later [] behind others are = absurd are
sized-cut kind earlier stood ahead (sized ∷ first) later (statement ∷ statements) behind others are =
    let more = sized-cut kind (statement ∷ earlier) (stood + sized.cards) (drop sized.cards ahead) first later statements behind others are.1 in
    let within = are.0.within in
    let left = length-drop sized.cards ahead in
    let few = more.cards in
    let before = stood-more earlier statement ahead sized.cards are.0.cards are.0.within in
    let place = more.place in
    let sum : stood + sized.cards + cards_of first ≡ stood + (sized.cards + cards_of first) = omega arith in
    record {
      front = more.front;
      rest = more.rest;
      all = more.all ∙ sym (append_assoc (reverse statements) (statement ∷ []) earlier) ∙ ap (λ (l : List Statement). l ++ earlier) (sym (reverse-append (statement ∷ []) statements));
      cards = omega (arith, within, left, few);
      place = omega (arith, place, before);
      are = subst (λ (both : ℕ × List Card). AreSizedFrom kind more.front both.0 both.1 later more.rest behind others)
          (λ i. (sum i, (drop-more (cards_of first) sized.cards ahead) i)) more.are;
    }

-- as many are sized as there are statements
pub sized-length : (kind : DeckKind) (earlier : List Statement) (stood : ℕ) (ahead : List Card) (sized : List SizedStatement) (statements : List Statement) (behind : List ℕ) (others : List Statement) →
    AreSizedFrom kind earlier stood ahead sized statements behind others → length sized ≡ length statements
sized-length kind earlier stood ahead [] [] behind others are = refl
sized-length kind earlier stood ahead [] (statement ∷ statements) behind others are = absurd are
sized-length kind earlier stood ahead (sized ∷ later) [] behind others are = absurd are
sized-length kind earlier stood ahead (sized ∷ later) (statement ∷ statements) behind others are =
    ap suc (sized-length kind (statement ∷ earlier) (stood + sized.cards) (drop sized.cards ahead) later statements behind others are.1)
