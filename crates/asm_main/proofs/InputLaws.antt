-- A fault of the input stays; lines without a fault are few.
use Rattle.std.{proofs.Common.{codes, ℕ, suc, ◌≡◌, ◌+◌, ◌*◌, ◌≤◌, List, [], ◌∷◌, ◌++◌, length, reverse, not, nat_le, refl, ap, subst, ◌∙◌, arith}, specs.Prelude.⊤, specs.List.AllByRecursion, proofs.lemmas.Bool.{cond_both, leb-false}, proofs.lemmas.List.{reverse-append, reverse-reverse}}
use Rattle.definitions.specs.{Characters.same_text, Cards.{Card, CardRead, IsCard, TooWide, BadCharacter, card_of}, Fields.fields_of, DeckInput.{Deck, Input, Decks, Faulty, InputFault, BadName, NameTaken, TooManyDecks, DeckFull, most_decks, most_cards, is_deck_name, name_on, is_taken, begun, continued, with_card, with_read, with_line, input_of}, InputLines.{InputLine, Line, TooLong, Cut, lines_of}}
use Rattle.asm_main.specs.Inputs.{input_in}
use Rattle.deck_cuts.specs.Joins.CardRoles.{begun_named}

-- a fault stays, whatever lines follow
pub input_of-stays : (later earlier : List InputLine) (fault : InputFault) → input_of earlier ≡ Faulty fault → input_of (later ++ earlier) ≡ Faulty fault
input_of-stays [] earlier fault e = e
input_of-stays (line ∷ later) earlier fault e = ap (with_line (length (later ++ earlier) + 1) line) (input_of-stays later earlier fault e)

-- a fault of the first lines is the fault of all
pub input_in-faulty : (bytes : List ℕ) (lines later : List InputLine) (fault : InputFault) → lines_of bytes ≡ reverse lines ++ later → input_of lines ≡ Faulty fault → input_in bytes ≡ Faulty fault
input_in-faulty bytes lines later fault e f =
    ap (λ (l : List InputLine). input_of (reverse l)) e
    ∙ ap input_of (reverse-append (reverse lines) later ∙ ap (λ (l : List InputLine). reverse later ++ l) (reverse-reverse lines))
    ∙ input_of-stays (reverse later) lines fault f

-- how many cards decks have
abbrev card_count : List Deck → ℕ
card_count [] = 0
card_count (deck ∷ decks) = length deck.cards + card_count decks

abbrev IsShort : Deck → Type 0
IsShort deck = length deck.cards ≤ most_cards

-- at most 64 decks of at most 20,000 cards, with a card for each line
record AreWithin (lines : ℕ) (decks : List Deck) : Type 0 where
  few : length decks ≤ most_decks
  short : AllByRecursion IsShort decks
  counted : card_count decks ≡ lines

abbrev IsWithin : ℕ → Input → Type 0
IsWithin lines (Decks decks) = AreWithin lines decks
IsWithin lines (Faulty fault) = ⊤

card_count-few : (decks : List Deck) → AllByRecursion IsShort decks → card_count decks ≤ most_cards * length decks
card_count-few [] h = omega arith
card_count-few (deck ∷ decks) h = let e = card_count-few decks h.1 in let s = h.0 in omega (arith, e, s)

begun_named-within : (lines : ℕ) (name : List ℕ) (card : Card) (decks : List Deck) → AreWithin lines decks → IsWithin (suc lines) (begun_named name card decks)
begun_named-within lines name card decks h =
    cond_both (is_taken name decks) (Faulty NameTaken) _ (IsWithin (suc lines)) (λ _. tt)
    (λ _.
    cond_both (nat_le most_decks (length decks)) (Faulty TooManyDecks) (Decks (record { name = name; cards = card ∷ [] } ∷ decks)) (IsWithin (suc lines)) (λ _. tt)
    (λ few.
    let room = leb-false most_decks (length decks) few in
    let counted = h.counted in
    record { few = omega (arith, room); short = (omega arith, h.short); counted = omega (arith, counted) }))

begun-within : (lines number : ℕ) (name : List ℕ) (card : Card) (decks : List Deck) → AreWithin lines decks → IsWithin (suc lines) (begun number name card decks)
begun-within lines number name card decks h =
    cond_both (not (is_deck_name name)) (Faulty (BadName number)) (begun_named name card decks) (IsWithin (suc lines)) (λ _. tt) (λ _. begun_named-within lines name card decks h)

continued-within : (lines number : ℕ) (card : Card) (decks : List Deck) → AreWithin lines decks → IsWithin (suc lines) (continued number card decks)
continued-within lines number card [] h = tt
continued-within lines number card (deck ∷ decks) h =
    cond_both (nat_le most_cards (length deck.cards)) (Faulty DeckFull) (Decks (record { name = deck.name; cards = card ∷ deck.cards } ∷ decks)) (IsWithin (suc lines)) (λ _. tt)
    (λ few.
    let room = leb-false most_cards (length deck.cards) few in
    let counted = h.counted in
    record { few = h.few; short = (omega (arith, room), h.short.1); counted = omega (arith, counted) })

with_card-within : (lines number : ℕ) (card : Card) (decks : List Deck) → AreWithin lines decks → IsWithin (suc lines) (with_card number card decks)
with_card-within lines number card decks h =
    cond_both (same_text (fields_of (card ∷ [])).operation (codes "IDENT")) (begun number (name_on (fields_of (card ∷ []))) card decks) (continued number card decks) (IsWithin (suc lines))
    (λ _. begun-within lines number (name_on (fields_of (card ∷ []))) card decks h) (λ _. continued-within lines number card decks h)

with_read-within : (lines number : ℕ) (read : CardRead) (decks : List Deck) → AreWithin lines decks → IsWithin (suc lines) (with_read number read decks)
with_read-within lines number (IsCard card) decks h = with_card-within lines number card decks h
with_read-within lines number TooWide decks h = tt
with_read-within lines number (BadCharacter column) decks h = tt

with_line-within : (lines number : ℕ) (line : InputLine) (input : Input) → IsWithin lines input → IsWithin (suc lines) (with_line number line input)
with_line-within lines number line (Faulty fault) h = tt
with_line-within lines number (Line bytes) (Decks decks) h = with_read-within lines number (card_of bytes) decks h
with_line-within lines number TooLong (Decks decks) h = tt
with_line-within lines number Cut (Decks decks) h = tt

input_of-within : (lines : List InputLine) → IsWithin (length lines) (input_of lines)
input_of-within [] = record { few = omega arith; short = tt; counted = refl }
input_of-within (line ∷ earlier) = with_line-within (length earlier) (length earlier + 1) line (input_of earlier) (input_of-within earlier)

-- lines without a fault are no more than the cards of full decks
pub few_lines : (lines : List InputLine) (decks : List Deck) → input_of lines ≡ Decks decks → length lines ≤ 1280000
few_lines lines decks e =
    let h : AreWithin (length lines) decks = subst (IsWithin (length lines)) e (input_of-within lines) in
    let few = h.few in
    let counted = h.counted in
    omega (arith, few, counted, card_count-few decks h.short)

-- there are at most 64 decks
pub few_decks : (lines : List InputLine) (decks : List Deck) → input_of lines ≡ Decks decks → length decks ≤ 64
few_decks lines decks e = let h : AreWithin (length lines) decks = subst (IsWithin (length lines)) e (input_of-within lines) in h.few
