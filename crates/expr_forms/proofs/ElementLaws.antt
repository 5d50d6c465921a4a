-- The pairs of a text by the pieces that begin it.
use Rattle.std.{proofs.Common.{◌≡◌, ◌≢◌, ℕ, List, [], ◌∷◌, Bool, true, false, if◌then◌else◌, ◌==◌, Option, Some, None, refl, sym, ◌∙◌, ap, ap₂, subst, length}, proofs.Math.Bool.and-false}
use Rattle.definitions.{specs.CountedItems.{CountedSpan, counted_item_at}, specs.Pieces.{Mark, Star, Equals, Inside, ByMark, Piece, IsMark, begun_by_counted_item, spot_behind, left_of, onto_pieces, pieces_at, pieces_of}, specs.Expressions.{LocationCounter, OriginCounter, Operator, counter_of, onto_pairs, pairs_of}, specs.declared.number_base.NumberBase.NumberBase, proofs.GrammarLaws.{EndsElement, pairs_from-star, pairs_from}}
use Rattle.expr_forms.specs.Joins.{Elements.{ends_element}, PiecesFound.{piece_as, spot_behind_piece}}
use Rattle.expr_forms.specs.declared.pieces.Piece as codes

-- pieces that begin with this one
abbrev pub with_piece : codes.Piece → List ℕ → List Piece
with_piece piece rest = piece_as piece ∷ pieces_at (spot_behind_piece (piece_as piece)) 0 rest

-- a piece that is known
pub found_is : (pieces : List Piece) (found piece : codes.Piece) (rest : List ℕ) → pieces ≡ with_piece found rest → found ≡ piece → pieces ≡ with_piece piece rest
found_is pieces found piece rest e same = e ∙ ap (λ (p : codes.Piece). with_piece p rest) same

-- where nothing but a mark begins a text, it makes no difference whether an item may begin there
same_inside : (c : ℕ) (cs : List ℕ) (o : Option CountedSpan) →
    EndsElement (onto_pieces (begun_by_counted_item c o) (pieces_at (spot_behind (begun_by_counted_item c o)) (left_of (begun_by_counted_item c o)) cs)) →
    onto_pieces (begun_by_counted_item c o) (pieces_at (spot_behind (begun_by_counted_item c o)) (left_of (begun_by_counted_item c o)) cs) ≡ pieces_at Inside 0 (c ∷ cs)
same_inside c cs None ends = refl
same_inside c cs (Some counted) ends = absurd ends

inside_at : (c : ℕ) (cs : List ℕ) (equals : Bool) →
    EndsElement (let begun = (if equals then ByMark Equals else begun_by_counted_item c (counted_item_at (c ∷ cs))) in onto_pieces begun (pieces_at (spot_behind begun) (left_of begun) cs)) →
    (let begun = (if equals then ByMark Equals else begun_by_counted_item c (counted_item_at (c ∷ cs))) in onto_pieces begun (pieces_at (spot_behind begun) (left_of begun) cs)) ≡ pieces_at Inside 0 (c ∷ cs)
inside_at c cs true ends = absurd ends
inside_at c cs false ends = same_inside c cs (counted_item_at (c ∷ cs)) ends

pub inside-start : (text : List ℕ) → EndsElement (pieces_of text) → pieces_of text ≡ pieces_at Inside 0 text
inside-start [] ends = refl
inside-start (c ∷ cs) ends = inside_at c cs (c == 61) ends

-- a star with nothing but an operator behind it
pub star-alone : (base : NumberBase) (o : Operator) (text : List ℕ) (pieces : List Piece) → pieces_of text ≡ pieces → EndsElement pieces →
    pairs_from base o (IsMark Star ∷ pieces_of text) ≡ onto_pairs o (Some LocationCounter) (pairs_of base 0 (pieces_at Inside 0 text))
star-alone base o text pieces e ends =
    let here : EndsElement (pieces_of text) = subst EndsElement (sym e) ends in
    pairs_from-star base o (pieces_of text) here ∙ ap (λ (p : List Piece). onto_pairs o (Some LocationCounter) (pairs_of base 0 p)) (inside-start text here)

-- each mark but an equals sign ends an element
pub mark-ends : (mark : Mark) (pieces : List Piece) → ends_element mark ≡ true → EndsElement (IsMark mark ∷ pieces)
mark-ends Equals pieces e = cc
mark-ends mark pieces e = tt

-- no run of another length is a counter
pub counter-length : (run : List ℕ) → length run ≢ 1 → counter_of run ≡ None
counter-length [] other = refl
counter-length (c ∷ []) other = absurd (other refl)
counter-length (c ∷ d ∷ cs) other =
    ap₂ (λ (t u : Bool). if t then Some OriginCounter else if u then Some LocationCounter else None) (and-false (c == 79)) (and-false (c == 76))
