-- The numbers of the cards that have a text, card by card.
use Rattle.std.{proofs.Common.{ℕ, ◌≡◌, ◌+◌, ◌<◌, Bool, List, [], ◌∷◌, ◌++◌, Option, length, take, drop, get_or, refl, sym, ap, subst, ◌∙◌, arith, append-nil, append_assoc, length-append, length-take, take-append-drop}, specs.Prelude.decimal, specs.Io.KnownBytes.Appends, proofs.KnownBytes.Appends-trans, proofs.lemmas.Grind.flat_map-append, proofs.lemmas.List.{take_more, drop_more}}
use Rattle.definitions.specs.Cards.{Card}
use Rattle.text_ports.proofs.SendSteps.{IsPart, part-first, part-second}
use Rattle.session_line.specs.{Replies.{line_of, numbers_text}, Views.{number_where, numbers_from, numbers_of}}
use Rattle.session_commands.specs.Sought.{has_text}

-- cards, and others behind them
numbers_from-append : (number : ℕ) (text : List ℕ) (cards others : List Card) →
    numbers_from number text (cards ++ others) ≡ numbers_from number text cards ++ numbers_from (number + length cards) text others
numbers_from-append number text [] others = ap (λ (n : ℕ). numbers_from n text others) (let e : number ≡ number + 0 = omega arith in e)
numbers_from-append number text (card ∷ cards) others =
    ap (λ (l : List ℕ). number_where (has_text text card) number ++ l) (numbers_from-append (number + 1) text cards others)
    ∙ ap (λ (n : ℕ). number_where (has_text text card) number ++ (numbers_from (number + 1) text cards ++ numbers_from n text others))
    (let e : number + 1 + length cards ≡ number + length (card ∷ cards) = omega arith in e)
    ∙ sym (append_assoc (number_where (has_text text card) number) (numbers_from (number + 1) text cards) (numbers_from (number + length (card ∷ cards)) text others))

-- as many cards are taken as there are, at most
taken-length : (i : ℕ) (cards : List Card) → i < length cards → length (take i cards) ≡ i
taken-length i cards within = omega (arith, length-take i cards, within)

-- the card at a place, behind those in front of it
numbers-at : (text : List ℕ) (cards others : List Card) (i : ℕ) (card : Card) → i < length cards → card ≡ get_or cards i card →
    numbers_from (1 + length (take i cards)) text (get_or cards i card ∷ others) ≡ number_where (has_text text card) (i + 1) ++ numbers_from (i + 1 + 1) text others
numbers-at text cards others i card within is =
    ap (λ (n : ℕ). numbers_from n text (get_or cards i card ∷ others)) (let e : 1 + length (take i cards) ≡ i + 1 = let t = taken-length i cards within in omega (arith, t) in e)
    ∙ ap (λ (c : Card). numbers_from (i + 1) text (c ∷ others)) (sym is)

-- the numbers of one card more
pub numbers-more : (text : List ℕ) (cards : List Card) (i : ℕ) (card : Card) → i < length cards → card ≡ get_or cards i card →
    numbers_of text (take (i + 1) cards) ≡ numbers_of text (take i cards) ++ number_where (has_text text card) (i + 1)
numbers-more text cards i card within is =
    ap (numbers_of text) (take_more cards i card within)
    ∙ numbers_from-append 1 text (take i cards) (get_or cards i card ∷ [])
    ∙ ap (λ (l : List ℕ). numbers_of text (take i cards) ++ l) (numbers-at text cards [] i card within is)
    ∙ ap (λ (l : List ℕ). numbers_of text (take i cards) ++ l) (append-nil (number_where (has_text text card) (i + 1)))

-- and their lines
pub found-more : (text : List ℕ) (cards : List Card) (i : ℕ) (card : Card) → i < length cards → card ≡ get_or cards i card →
    numbers_text (numbers_of text (take (i + 1) cards)) ≡ numbers_text (numbers_of text (take i cards)) ++ numbers_text (number_where (has_text text card) (i + 1))
found-more text cards i card within is =
    ap numbers_text (numbers-more text cards i card within is)
    ∙ flat_map-append (λ number. line_of (decimal number)) (numbers_of text (take i cards)) (number_where (has_text text card) (i + 1))

-- all numbers: those so far, that of this card, and those behind it
found-split : (text : List ℕ) (cards : List Card) (i : ℕ) (card : Card) → i < length cards → card ≡ get_or cards i card →
    numbers_text (numbers_of text cards)
    ≡ numbers_text (numbers_of text (take i cards)) ++ (numbers_text (number_where (has_text text card) (i + 1)) ++ numbers_text (numbers_from (i + 1 + 1) text (drop (i + 1) cards)))
found-split text cards i card within is =
    let lines = λ (number : ℕ). line_of (decimal number) in
    ap (λ (l : List Card). numbers_text (numbers_of text l)) (sym (take-append-drop i cards) ∙ ap (λ (l : List Card). take i cards ++ l) (drop_more cards i card within))
    ∙ ap numbers_text (numbers_from-append 1 text (take i cards) (get_or cards i card ∷ drop (i + 1) cards))
    ∙ ap (λ (l : List ℕ). numbers_text (numbers_of text (take i cards) ++ l)) (numbers-at text cards (drop (i + 1) cards) i card within is)
    ∙ flat_map-append lines (numbers_of text (take i cards)) (number_where (has_text text card) (i + 1) ++ numbers_from (i + 1 + 1) text (drop (i + 1) cards))
    ∙ ap (λ (l : List ℕ). numbers_text (numbers_of text (take i cards)) ++ l) (flat_map-append lines (number_where (has_text text card) (i + 1)) (numbers_from (i + 1 + 1) text (drop (i + 1) cards)))

-- the line of a card that went out
pub Appends-found : (old mid new : Option (List ℕ)) (text : List ℕ) (cards : List Card) (i : ℕ) (card : Card) (bytes : List ℕ) → i < length cards → card ≡ get_or cards i card →
    bytes ≡ numbers_text (number_where (has_text text card) (i + 1)) → Appends old mid (numbers_text (numbers_of text (take i cards))) → Appends mid new bytes →
    Appends old new (numbers_text (numbers_of text (take (i + 1) cards)))
Appends-found old mid new text cards i card bytes within is same first second =
    let front = numbers_text (numbers_of text (take i cards)) in
    subst (λ l. Appends old new l) (ap (λ (l : List ℕ). front ++ l) same ∙ sym (found-more text cards i card within is)) (Appends-trans old mid new front bytes first second)

-- the line of a card of which a part went out
pub part-found : (old mid new : Option (List ℕ)) (text : List ℕ) (cards : List Card) (i sent more : ℕ) (card : Card) (bytes : List ℕ) → i < length cards → card ≡ get_or cards i card →
    bytes ≡ numbers_text (number_where (has_text text card) (i + 1)) → sent ≡ length (numbers_text (numbers_of text (take i cards))) →
    Appends old mid (numbers_text (numbers_of text (take i cards))) → IsPart mid new bytes more → IsPart old new (numbers_text (numbers_of text cards)) (sent + more)
part-found old mid new text cards i sent more card bytes within is same count first part =
    let front = numbers_text (numbers_of text (take i cards)) in
    let behind = numbers_text (numbers_from (i + 1 + 1) text (drop (i + 1) cards)) in
    let whole : front ++ (bytes ++ behind) ≡ numbers_text (numbers_of text cards) = ap (λ (l : List ℕ). front ++ (l ++ behind)) same ∙ sym (found-split text cards i card within is) in
    let joined : IsPart old new (front ++ (bytes ++ behind)) (length front + more) =
    part-second old mid new front front (bytes ++ behind) more refl first (part-first mid new bytes behind more part) in
    subst (λ (l : List ℕ). IsPart old new l (sent + more)) whole (subst (λ (n : ℕ). IsPart old new (front ++ (bytes ++ behind)) (n + more)) (sym count) joined)

-- how many have the text, with one card more
pub count-more : (text : List ℕ) (cards : List Card) (i : ℕ) (card columns : Card) (holds : Bool) (count next : ℕ) → i < length cards → card ≡ get_or cards i card → columns ≡ card → holds ≡ has_text text columns →
    count ≡ length (numbers_of text (take i cards)) → next ≡ count + length (number_where holds (i + 1)) → next ≡ length (numbers_of text (take (i + 1) cards))
count-more text cards i card columns holds count next within is same holds-is counted grows =
    grows
    ∙ ap (λ (b : Bool). count + length (number_where b (i + 1))) (holds-is ∙ ap (has_text text) same)
    ∙ ap (λ (n : ℕ). n + length (number_where (has_text text card) (i + 1))) counted
    ∙ sym (length-append (numbers_of text (take i cards)) (number_where (has_text text card) (i + 1)))
    ∙ ap length (sym (numbers-more text cards i card within is))

-- how many bytes went out, with the line of one card more
pub found-length : (text : List ℕ) (cards : List Card) (i sent : ℕ) (card : Card) (bytes : List ℕ) → i < length cards → card ≡ get_or cards i card → bytes ≡ numbers_text (number_where (has_text text card) (i + 1)) →
    sent ≡ length (numbers_text (numbers_of text (take i cards))) → sent + length bytes ≡ length (numbers_text (numbers_of text (take (i + 1) cards)))
found-length text cards i sent card bytes within is same count =
    let front = numbers_text (numbers_of text (take i cards)) in
    ap (λ (n : ℕ). n + length bytes) count
    ∙ ap (λ (l : List ℕ). length front + length l) same
    ∙ sym (length-append front (numbers_text (number_where (has_text text card) (i + 1))))
    ∙ ap length (sym (found-more text cards i card within is))
