-- What a fault of the cut shows, and the cut of cards one by one.
use Rattle.std.{proofs.Common.{ℕ, ◌≡◌, ◌+◌, ◌<◌, ◌≤◌, List, [], ◌∷◌, ◌++◌, Option, None, Some, Result, Ok, Err, length, reverse, take, drop, get_or, sym, ap, subst, ◌∙◌, arith, length-take, take-append-drop, IfErr, IfSome}, specs.Prelude.{IsErrAnd, MatchOption}, proofs.lemmas.List.{reverse-append, length-reverse, take_more, take_all}}
use Rattle.definitions.specs.{Cards.Card, DeckInput.{Deck, Input, Decks, Faulty, InputFault, with_card}}
use Rattle.deck_cuts.specs.{Cuts.{newest_first, input_with, input_of_cards, input_fault, IsSound, IsFaultOf, TellsFaultOf}, declared.cut_fault.CutFault.CutFault, declared.cut_fault.CutFault.TheVariants.OutOfMemory}

-- what holds of the fault that a step passes on
pub IfErr-passed : {T F : Type 0} (r : Result T F) (fault : F) (P : F → Type 0) → IsErrAnd r (λ passed. passed ≡ fault) → P fault → IfErr r P
IfErr-passed (Ok value) fault P same p = tt
IfErr-passed (Err passed) fault P same p = subst P (sym same) p

-- memory that is short where the input is sound
pub IsFaultOf-memory : {T : Type 0} (r : Result T CutFault) (input : Input) (found : List Deck) → IsErrAnd r (λ fault. fault ≡ OutOfMemory) → input ≡ Decks found → IfErr r (IsFaultOf input)
IsFaultOf-memory r input found short sound = IfErr-passed r OutOfMemory (IsFaultOf input) short (subst IsSound (sym sound) tt)

-- the input with the card behind the first ones
input-at : (cards : List Card) (k : ℕ) (card : Card) (decks : List Deck) → k < length cards → input_of_cards (reverse (take k cards)) ≡ Decks decks →
    input_of_cards (card ∷ reverse (take k cards)) ≡ with_card (k + 1) card decks
input-at cards k card decks within sofar =
    let front = reverse (take k cards) in
    let many : length front ≡ k = length-reverse (take k cards) ∙ omega (arith, length-take k cards, within) in
    ap (input_with (length front + 1) card) sofar ∙ ap (λ (n : ℕ). with_card (n + 1) card decks) many

-- a card more
pub cut-more : (cards : List Card) (k : ℕ) (card : Card) (decks next : List Deck) → k < length cards → card ≡ get_or cards k card → input_of_cards (reverse (take k cards)) ≡ Decks (newest_first decks) →
    with_card (k + 1) card (newest_first decks) ≡ Decks (newest_first next) → input_of_cards (reverse (take (k + 1) cards)) ≡ Decks (newest_first next)
cut-more cards k card decks next within is sofar more =
    ap (λ (c : List Card). input_of_cards (reverse c)) (take_more cards k card within)
    ∙ ap input_of_cards (reverse-append (take k cards) (get_or cards k card ∷ []))
    ∙ ap (λ (c : Card). input_of_cards (c ∷ reverse (take k cards))) (sym is)
    ∙ input-at cards k card (newest_first decks) within sofar
    ∙ more

-- all of them
pub cut-all : (cards : List Card) (k : ℕ) (decks : List Deck) → length cards ≤ k → input_of_cards (reverse (take k cards)) ≡ Decks (newest_first decks) → input_of_cards (reverse cards) ≡ Decks (newest_first decks)
cut-all cards k decks past sofar = ap (λ (c : List Card). input_of_cards (reverse c)) (sym (take_all k cards past)) ∙ sofar

-- a fault stays, whatever cards follow
fault-stays : (later earlier : List Card) (fault : InputFault) → input_of_cards earlier ≡ Faulty fault → input_of_cards (later ++ earlier) ≡ Faulty fault
fault-stays [] earlier fault is = is
fault-stays (card ∷ later) earlier fault is = ap (input_with (length (later ++ earlier) + 1) card) (fault-stays later earlier fault is)

-- the cards behind the first ones, newest first, and those
split-at : (cards : List Card) (k : ℕ) (card : Card) → k < length cards → card ≡ get_or cards k card → reverse cards ≡ reverse (drop (k + 1) cards) ++ card ∷ reverse (take k cards)
split-at cards k card within is =
    ap reverse (sym (take-append-drop (k + 1) cards) ∙ ap (λ (c : List Card). c ++ drop (k + 1) cards) (take_more cards k card within ∙ ap (λ (c : Card). take k cards ++ c ∷ []) (sym is)))
    ∙ reverse-append (take k cards ++ card ∷ []) (drop (k + 1) cards)
    ∙ ap (λ (c : List Card). reverse (drop (k + 1) cards) ++ c) (reverse-append (take k cards) (card ∷ []))

ends-told : (told : Option InputFault) (all found : Input) (P : Type 0) → ((fault : InputFault) → found ≡ Faulty fault → all ≡ Faulty fault) → MatchOption told P (λ fault. found ≡ Faulty fault) → IfSome told (λ fault. all ≡ Faulty fault)
ends-told None all found P stays f = tt
ends-told (Some fault) all found P stays f = stays fault f

-- a card that ends the cut
pub cut-ends : (cards : List Card) (k : ℕ) (card : Card) (decks : List Deck) (fault : CutFault) → k < length cards → card ≡ get_or cards k card → input_of_cards (reverse (take k cards)) ≡ Decks (newest_first decks) →
    IsFaultOf (with_card (k + 1) card (newest_first decks)) fault → TellsFaultOf (input_of_cards (reverse cards)) fault
cut-ends cards k card decks fault within is sofar ends =
    let front = reverse (take k cards) in
    ends-told (input_fault fault) (input_of_cards (reverse cards)) (with_card (k + 1) card (newest_first decks)) _
    (λ told faulty.
    ap input_of_cards (split-at cards k card within is)
    ∙ fault-stays (reverse (drop (k + 1) cards)) (card ∷ front) told (input-at cards k card (newest_first decks) within sofar ∙ faulty))
    ends
