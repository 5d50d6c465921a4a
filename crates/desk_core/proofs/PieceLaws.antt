-- Cards in pieces: what pieces hold of which one is cut, and what an edit of one piece makes of all cards.
use Rattle.std.{specs.Prelude.{insert, remove}, proofs.Common.{◌≡◌, ℕ, zero, suc, ◌+◌, ◌-◌, ◌<◌, ◌≤◌, Bool, true, false, ◌&&◌, List, [], ◌∷◌, ◌++◌, length, take, drop, set, get_or, refl, sym, ap, ap₂, ◌∙◌, append_assoc, add-one, ne_eqb, length-append, ◌==◌, arith}, proofs.lemmas.List.{set_split, set-append_left, set-append_right, take-append-drop, take-take, drop-take, drop-drop, length-drop, length-take-le, at_drop_more, get_or_append_left, get_or-append-add}, proofs.lemmas.List.Concat.flat_map-append, proofs.lemmas.List.Edits.{insert-append_left, insert-append_right, remove-append_left, remove-append_right}}
use Rattle.desk_core.{specs.Joins.Language.{Card, same_text}, specs.Joins.Pieces.{joined, part, IsSpot, IsGap}, specs.Delivering.same_cards, proofs.DeliverDone.other-cards}

-- a part has as many cards as there are places between its ends
pub part-length : (from until : ℕ) (cards : List Card) → until ≤ length cards → length (part from until cards) ≡ until - from
part-length from until cards within = length-drop from (take until cards) ∙ ap (λ (n : ℕ). n - from) (length-take-le until cards within)

-- the front of a part
pub part-front : (from until count : ℕ) (cards : List Card) → from + count ≤ until → part from (from + count) cards ≡ take count (part from until cards)
part-front from until count cards within =
    let behind = until - from in
    drop-take from count cards ∙ (sym (take-take count behind (drop from cards) (omega (arith, within)))
    ∙ ap (λ (left : List Card). take count left) (sym (ap (λ (n : ℕ). drop from (take n cards)) (omega (arith, within)) ∙ drop-take from behind cards)))

-- what is left of a part behind its front
pub part-rest : (from until count : ℕ) (cards : List Card) → part (from + count) until cards ≡ drop count (part from until cards)
part-rest from until count cards = sym (drop-drop count from (take until cards))

-- the cards of pieces and of those behind them
pub joined-append : (front rest : List (List Card)) → joined (front ++ rest) ≡ joined front ++ joined rest
joined-append front rest = flat_map-append (λ (piece : List Card). piece) front rest

-- the cards of the pieces in front of one, its own, and those of the pieces behind it
parts-suc : (pieces : List (List Card)) (i : ℕ) → joined pieces ≡ joined (take i pieces) ++ (get_or pieces i [] ++ joined (drop (suc i) pieces))
parts-suc [] zero = refl
parts-suc [] (suc i) = refl
parts-suc (piece ∷ pieces) zero = refl
parts-suc (piece ∷ pieces) (suc i) =
    ap (λ (cards : List Card). piece ++ cards) (parts-suc pieces i) ∙ sym (append_assoc piece (joined (take i pieces)) (get_or pieces i [] ++ joined (drop (suc i) pieces)))

-- a piece that has cards is one of the pieces
pub is-piece : (pieces : List (List Card)) (i : ℕ) → 1 ≤ length (get_or pieces i []) → i < length pieces
is-piece [] i some = absurd (omega arith)
is-piece (piece ∷ pieces) zero some = omega arith
is-piece (piece ∷ pieces) (suc i) some = let later = is-piece pieces i some in omega arith

-- pieces, one of them cut in two
cut-suc : (pieces : List (List Card)) (i count : ℕ) → i < length pieces →
    joined (set (insert pieces i (take count (get_or pieces i []))) (suc i) (drop count (get_or pieces i []))) ≡ joined pieces
cut-suc [] i count within = absurd (omega (arith, within))
cut-suc (piece ∷ pieces) zero count within =
    sym (append_assoc (take count piece) (drop count piece) (joined pieces)) ∙ ap (λ (cards : List Card). cards ++ joined pieces) (take-append-drop count piece)
cut-suc (piece ∷ pieces) (suc i) count within = ap (λ (cards : List Card). piece ++ cards) (cut-suc pieces i count (omega (arith, within)))

pub joined-cut : (pieces : List (List Card)) (i count : ℕ) → i < length pieces →
    joined (set (insert pieces i (take count (get_or pieces i []))) (i + 1) (drop count (get_or pieces i []))) ≡ joined pieces
joined-cut pieces i count within =
    ap (λ (next : ℕ). joined (set (insert pieces i (take count (get_or pieces i []))) next (drop count (get_or pieces i [])))) (add-one i) ∙ cut-suc pieces i count within

-- the card at a spot
pub card-inside : (pieces : List (List Card)) (place i card : ℕ) → length (joined (take i pieces)) + card ≡ place → card < length (get_or pieces i []) →
    get_or (get_or pieces i []) card [] ≡ get_or (joined pieces) place []
card-inside pieces place i card placed within =
    let front = joined (take i pieces) in
    let piece = get_or pieces i [] in
    let behind = joined (drop (suc i) pieces) in
    sym (ap₂ (λ (cards : List Card) (n : ℕ). get_or cards n []) (parts-suc pieces i) (sym placed)
    ∙ (get_or-append-add front (piece ++ behind) card [] ∙ get_or_append_left piece behind [] card within))

-- a change at a place of cards, made in the piece that has the place: cards behind that piece stay, and so do those in front of it
changed-inside : (change : List Card → ℕ → List Card) (more : ℕ)
    → ((xs ys : List Card) (i : ℕ) → i < length xs + more → change (xs ++ ys) i ≡ change xs i ++ ys)
    → ((xs ys : List Card) (n i : ℕ) → length xs ≡ n → n ≤ i → change (xs ++ ys) i ≡ xs ++ change ys (i - n))
    → (pieces : List (List Card)) (place i card : ℕ) → i < length pieces → length (joined (take i pieces)) + card ≡ place → card < length (get_or pieces i []) + more
    → joined (set pieces i (change (get_or pieces i []) card)) ≡ change (joined pieces) place
changed-inside change more left right pieces place i card within placed inside =
    let front = joined (take i pieces) in
    let piece = get_or pieces i [] in
    let behind = joined (drop (suc i) pieces) in
    ap joined (set_split pieces i (change piece card) within) ∙ (joined-append (take i pieces) (change piece card ∷ drop (suc i) pieces)
    ∙ sym (ap (λ (cards : List Card). change cards place) (parts-suc pieces i) ∙ (right front (piece ++ behind) (length front) place refl (omega (arith, placed))
    ∙ (ap (λ (n : ℕ). front ++ change (piece ++ behind) n) (omega (arith, placed)) ∙ ap (λ (cards : List Card). front ++ cards) (left piece behind card inside)))))

pub inserted-inside : (pieces : List (List Card)) (place i card : ℕ) (new : Card) → IsGap pieces place i card →
    joined (set pieces i (insert (get_or pieces i []) card new)) ≡ insert (joined pieces) place new
inserted-inside pieces place i card new gap =
    changed-inside (λ (cards : List Card) (n : ℕ). insert cards n new) 1 (λ xs ys n less. insert-append_left xs ys n new (omega (arith, less))) (λ xs ys k n e le. insert-append_right xs ys k n new e le)
    pieces place i card gap.within gap.placed (omega (arith, gap.inside))

pub replaced-inside : (pieces : List (List Card)) (place i card : ℕ) (new : Card) → IsSpot pieces place i card → place < length (joined pieces) →
    joined (set pieces i (set (get_or pieces i []) card new)) ≡ set (joined pieces) place new
replaced-inside pieces place i card new spot less =
    let inside = spot.begun less in
    changed-inside (λ (cards : List Card) (n : ℕ). set cards n new) 0 (λ xs ys n below. set-append_left xs ys n new (omega (arith, below))) (λ xs ys k n e le. set-append_right xs ys k n new e le)
    pieces place i card (is-piece pieces i (omega (arith, inside))) spot.placed (omega (arith, inside))

pub removed-inside : (pieces : List (List Card)) (place i card : ℕ) → IsSpot pieces place i card → place < length (joined pieces) →
    joined (set pieces i (remove (get_or pieces i []) card)) ≡ remove (joined pieces) place
removed-inside pieces place i card spot less =
    let inside = spot.begun less in
    changed-inside (λ (cards : List Card) (n : ℕ). remove cards n) 0 (λ xs ys n below. remove-append_left xs ys n (omega (arith, below))) (λ xs ys k n e le. remove-append_right xs ys k n e le)
    pieces place i card (is-piece pieces i (omega (arith, inside))) spot.placed (omega (arith, inside))

and-assoc : (x y z : Bool) → ((x && y) && z) ≡ (x && (y && z))
and-assoc true y z = refl
and-assoc false y z = refl

-- cards that begin alike are the same where they go on alike
pub same-parts : (a b c d : List Card) → length a ≡ length c → same_cards (a ++ b) (c ++ d) ≡ (same_cards a c && same_cards b d)
same-parts [] b [] d e = refl
same-parts [] b (y ∷ c) d e = absurd (omega (arith, e))
same-parts (x ∷ a) b [] d e = absurd (omega (arith, e))
same-parts (x ∷ a) b (y ∷ c) d e =
    ap (λ (later : Bool). same_text x y && later) (same-parts a b c d (omega (arith, e))) ∙ sym (and-assoc (same_text x y) (same_cards a c) (same_cards b d))

-- the cards of a piece and of those behind it
joined-next : (pieces : List (List Card)) (i : ℕ) (piece : List Card) → i < length pieces → piece ≡ get_or pieces i piece → joined (drop i pieces) ≡ piece ++ joined (drop (i + 1) pieces)
joined-next pieces i piece within is = at_drop_more joined pieces i piece within ∙ ap (λ (one : List Card). one ++ joined (drop (i + 1) pieces)) (sym is)

-- a piece has no more cards than stand behind those in front of it
pub piece-room : (pieces : List (List Card)) (i : ℕ) (piece : List Card) → i < length pieces → piece ≡ get_or pieces i piece → length (joined (take i pieces)) + length piece ≤ length (joined pieces)
piece-room pieces i piece within is =
    let whole : joined pieces ≡ joined (take i pieces) ++ (piece ++ joined (drop (i + 1) pieces)) =
    sym (ap joined (take-append-drop i pieces)) ∙ (joined-append (take i pieces) (drop i pieces) ∙ ap (λ (cards : List Card). joined (take i pieces) ++ cards) (joined-next pieces i piece within is)) in
    omega (arith, ap length whole, length-append (joined (take i pieces)) (piece ++ joined (drop (i + 1) pieces)), length-append piece (joined (drop (i + 1) pieces)))

-- cards compared with pieces: first as many as the next piece has, then the others
pub same-next : (pieces : List (List Card)) (i : ℕ) (piece left : List Card) → i < length pieces → piece ≡ get_or pieces i piece → length piece ≤ length left →
    same_cards left (joined (drop i pieces)) ≡ (same_cards (take (length piece) left) piece && same_cards (drop (length piece) left) (joined (drop (i + 1) pieces)))
same-next pieces i piece left within is many =
    ap₂ same_cards (sym (take-append-drop (length piece) left)) (joined-next pieces i piece within is)
    ∙ same-parts (take (length piece) left) (drop (length piece) left) piece (joined (drop (i + 1) pieces)) (length-take-le (length piece) left many)

-- where fewer are left than the next piece has, they are not the same
pub same-short : (pieces : List (List Card)) (i : ℕ) (piece left : List Card) → i < length pieces → piece ≡ get_or pieces i piece → length left < length piece → same_cards left (joined (drop i pieces)) ≡ false
same-short pieces i piece left within is less =
    let behind = joined (drop (i + 1) pieces) in
    ap (λ (cards : List Card). same_cards left cards) (joined-next pieces i piece within is)
    ∙ other-cards left (piece ++ behind) (ne_eqb (length left) (length (piece ++ behind)) (λ e. omega (arith, e, less, length-append piece behind)))

-- two comparisons, of which the fronts are compared together
pub both-on : (front other behind others : Bool) → (front && other) ≡ true → ((front && behind) && (other && others)) ≡ (behind && others)
both-on true true behind others e = refl
both-on true false behind others e = cc
both-on false other behind others e = cc

pub both-end : (front other behind others : Bool) → (front && other) ≡ false → ((front && behind) && (other && others)) ≡ false
both-end true true behind others e = cc
both-end true false true others e = refl
both-end true false false others e = refl
both-end false other behind others e = refl

-- where no pieces are left, cards are the same if none are left
pub same-none : (cards : List Card) → same_cards cards [] ≡ (length cards == 0)
same-none [] = refl
same-none (card ∷ cards) = sym (ne_eqb (length (card ∷ cards)) 0 (λ e. omega (arith, e)))

pub both-itself : (is : Bool) → (is && is) ≡ is
both-itself true = refl
both-itself false = refl
