-- Texts one behind the other: their bytes, their lines, and what of them went out.
use Rattle.std.{proofs.Common.{ℕ, ◌≡◌, ◌+◌, ◌<◌, ◌≤◌, Bool, true, false, cond, List, [], ◌∷◌, ◌++◌, Option, length, filter, take, drop, get_or, refl, sym, ap, subst, ◌∙◌, arith, length-append}, specs.Prelude.{◌==◌, flat_map}, specs.Io.KnownBytes.Appends, proofs.lemmas.List.at_drop_more, proofs.lemmas.List.Elements.filter-append}
use Rattle.definitions.specs.{Characters.line_feed, DeckInput.Deck}
use Rattle.text_ports.proofs.SendSteps.{IsPart, Appends-text, part-text, part-second}
use Rattle.deck_listing.specs.ListedObjects.{lines_in}
use Rattle.deck_linker.{specs.Joins.InPieces.deck_text, specs.Publishing.listings, proofs.InPieceLaws.{sent-more, sent-within}}

-- the listings, deck by deck
pub listings-flat : (decks : List Deck) → flat_map deck_text decks ≡ listings decks
listings-flat [] = refl
listings-flat (deck ∷ decks) = ap (λ (l : List ℕ). deck_text deck ++ l) (listings-flat decks)

-- the lines of two texts
pub lines-append : (xs ys : List ℕ) → lines_in (xs ++ ys) ≡ lines_in xs + lines_in ys
lines-append xs ys =
    let ends : ℕ → Bool = λ c. c == line_feed in
    ap length (filter-append ends xs ys) ∙ length-append (filter ends xs) (filter ends ys)

-- one character more is one line more at most
one-more : (ends : Bool) (c n : ℕ) (found : List ℕ) → length found ≤ n → length (cond ends (c ∷ found) found) ≤ n + 1
one-more true c n found h = omega (arith, h)
one-more false c n found h = omega (arith, h)

-- no text has more lines than bytes
pub lines-within : (text : List ℕ) → lines_in text ≤ length text
lines-within [] = omega arith
lines-within (c ∷ text) = let rest = one-more (c == line_feed) c (length text) (filter (λ c. c == line_feed) text) (lines-within text) in omega (arith, rest)

-- what is counted of the listings that are left, where two texts have what both have
pub listings-split : (count : List ℕ → ℕ) → ((xs ys : List ℕ) → count (xs ++ ys) ≡ count xs + count ys) → (decks : List Deck) (i : ℕ) (deck : Deck) → i < length decks → deck ≡ get_or decks i deck →
    count (listings (drop i decks)) ≡ count (deck_text deck) + count (listings (drop (i + 1) decks))
listings-split count both decks i deck within is =
    let left = listings (drop (i + 1) decks) in
    at_drop_more (λ (l : List Deck). count (listings l)) decks i deck within
    ∙ ap (λ (d : Deck). count (deck_text d ++ left)) (sym is)
    ∙ both (deck_text deck) left

-- a listing that went out
pub Appends-listing : (old mid new : Option (List ℕ)) (decks : List Deck) (i : ℕ) (deck : Deck) (text : List ℕ) → i < length decks → deck ≡ get_or decks i deck → text ≡ deck_text deck →
    Appends old mid (listings (take i decks)) → Appends mid new text → Appends old new (listings (take (i + 1) decks))
Appends-listing old mid new decks i deck text within is same first second =
    subst (λ l. Appends old new l) (listings-flat (take (i + 1) decks))
    (Appends-text deck_text old mid new decks i deck text within is same (subst (λ l. Appends old mid l) (sym (listings-flat (take i decks))) first) second)

-- a listing of which a part went out
pub part-listing : (old mid new : Option (List ℕ)) (decks : List Deck) (i sent more : ℕ) (deck : Deck) (text : List ℕ) → i < length decks → deck ≡ get_or decks i deck → text ≡ deck_text deck →
    sent ≡ length (listings (take i decks)) → Appends old mid (listings (take i decks)) → IsPart mid new text more → IsPart old new (listings decks) (sent + more)
part-listing old mid new decks i sent more deck text within is same count first part =
    let flat = listings-flat (take i decks) in
    subst (λ (l : List ℕ). IsPart old new l (sent + more)) (listings-flat decks)
    (part-text deck_text old mid new decks i sent more deck text within is same (count ∙ ap length (sym flat)) (subst (λ l. Appends old mid l) (sym flat) first) part)

-- how many bytes went out with it
pub listing-sent : (decks : List Deck) (i sent : ℕ) (deck : Deck) (text : List ℕ) → i < length decks → deck ≡ get_or decks i deck → text ≡ deck_text deck →
    sent ≡ length (listings (take i decks)) → sent + length text ≡ length (listings (take (i + 1) decks))
listing-sent decks i sent deck text within is same count =
    ap (λ (l : List ℕ). sent + length l) same
    ∙ sent-more deck_text decks i sent deck within is (count ∙ ap length (sym (listings-flat (take i decks))))
    ∙ ap length (listings-flat (take (i + 1) decks))

-- the first listings have no more bytes than all
pub listings-within : (n : ℕ) (decks : List Deck) → length (listings (take n decks)) ≤ length (listings decks)
listings-within n decks = let few = sent-within deck_text n decks in omega (arith, few, ap length (listings-flat (take n decks)), ap length (listings-flat decks))

-- a part of a text behind another that went out
pub part-behind-all : (old mid new : Option (List ℕ)) (head body : List ℕ) (sent more : ℕ) → sent ≡ length head → Appends old mid head → IsPart mid new body more → IsPart old new (head ++ body) (sent + more)
part-behind-all old mid new head body sent more count first part =
    subst (λ (n : ℕ). IsPart old new (head ++ body) (n + more)) (sym count) (part-second old mid new head head body more refl first part)
