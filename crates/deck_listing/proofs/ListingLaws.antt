-- The text of the parts of an object is the listing of its deck.
use Rattle.std.{proofs.Common.{◌≡◌, ℕ, suc, ◌+◌, ◌<◌, ◌≤◌, Bool, true, false, List, [], ◌∷◌, ◌++◌, Option, None, Some, ◌⊎◌, inl, inr, ⊎_elim, length, take, drop, reverse, refl, sym, ap, ap₂, ◌∙◌, arith, length-append}, specs.Prelude.{codes, filter, flat_map, if◌then◌else◌, nat_lt}, proofs.Math.Seq.{take-nil, drop-nil}, proofs.lemmas.Bool.cases_lt, proofs.lemmas.List.{drop_all, length-take-le, reverse-append}, proofs.lemmas.List.Elements.filter-append}
use Rattle.definitions.specs.{Cards.Card, Kinds.kind_text, Lengths.BlockRow, Listing.{block_line, card_lines, deck_listing, errors_of, is_flagged, letters_line, line, shown_lines, unlinked}, Numerals.decimal_of, Objects.{Object, Shown}, Words.Coded, declared.deck_kind.DeckKind.DeckKind}
use Rattle.deck_objects.specs.declared.lines.FieldLists.{FieldLists}
use Rattle.deck_objects.specs.{Joins.CodedLines.{AreShown, IsShown, IsStored}, Joins.LineItems.kept_items, Joins.PartsOf.ArePartsOf, declared.lines.CodedLine.CodedLine, declared.lines.Line.Line, declared.object.ObjectParts.ObjectParts}
use Rattle.deck_listing.{specs.Joins.ListedParts.{flagged_lines, has_letters, line_text, lines_text, parts_text, stored_text}, specs.Joins.WordLines.fields_text, proofs.FieldTexts.{fields_text-items, fields_text-same}}

-- a statement in the listing of a deck of this kind with these blocks
abbrev shown_text : DeckKind → List BlockRow → Shown → List ℕ
shown_text kind rows shown = card_lines shown.statement.before shown.statement.cards ++ (letters_line shown.letters ++ shown_lines kind (unlinked rows) shown.coded)

-- what a line stores has the lines of what the statement stores
stored-same : (kind : DeckKind) (rows : List BlockRow) (lists : FieldLists) (found : Option CodedLine) (coded : Option Coded) → IsStored kind rows lists found coded →
    stored_text kind rows lists found ≡ shown_lines kind (unlinked rows) coded
stored-same kind rows lists None None is = refl
stored-same kind rows lists None (Some coded) is = absurd is
stored-same kind rows lists (Some stored) None is = absurd is
stored-same kind rows lists (Some stored) (Some coded) is =
    ap₂ (λ operation place. fields_text kind (unlinked rows) operation place (kept_items kind lists stored)) is.operation is.place
    ∙ fields_text-same kind (unlinked rows) coded.settled.read.operation coded.settled.place (kept_items kind lists stored) coded.fields is.fields
    ∙ fields_text-items kind (unlinked rows) coded

-- numbers of cards, where there are any
cards-same : (before stood : ℕ) (cards : List Card) → (cards ≡ []) ⊎ (before ≡ stood) → card_lines before cards ≡ card_lines stood cards
cards-same before stood cards which =
    ⊎_elim (λ (none : cards ≡ []). ap₂ (λ n c. card_lines n c) refl none ∙ sym (ap (card_lines stood) none)) (λ (same : before ≡ stood). ap (λ n. card_lines n cards) same) which

-- a line has the text of the statement that it shows
line-same : (kind : DeckKind) (rows : List BlockRow) (lists : FieldLists) (before stood : ℕ) (cards : List Card) (shown : Line) (statement : Shown) →
    IsShown kind rows lists stood cards shown statement → (take shown.cards cards ≡ []) ⊎ (before ≡ stood) →
    line_text kind rows lists before (take shown.cards cards) shown ≡ shown_text kind rows statement
line-same kind rows lists before stood cards shown statement is which =
    ap₂ (λ front rest. front ++ rest)
    (cards-same before stood (take shown.cards cards) which ∙ ap₂ card_lines is.before is.cards)
    (ap₂ (λ front rest. letters_line front ++ rest) is.letters (stored-same kind rows lists shown.coded statement.coded is.stored))

-- no cards of none
pub take-none : (n : ℕ) (cards : List Card) → cards ≡ [] → take n cards ≡ []
take-none n cards none = ap (take n) none ∙ take-nil n

-- behind some cards so many stand as stood before them and they are, or no card is left
pub behind-cards : (n before stood : ℕ) (cards : List Card) → (cards ≡ []) ⊎ (before ≡ stood) → (drop n cards ≡ []) ⊎ (before + length (take n cards) ≡ stood + n)
behind-cards n before stood cards which =
    ⊎_elim (λ (none : cards ≡ []). inl (ap (drop n) none ∙ drop-nil n))
    (λ (same : before ≡ stood). ⊎_elim
    (λ (within : n < length cards). inr (let e = length-take-le n cards (omega (arith, within)) in omega (arith, same, e)))
    (λ (past : length cards ≤ n). inl (drop_all n cards past))
    (cases_lt n (length cards)))
    which

-- lines have the text of the statements that they show
lines-same : (kind : DeckKind) (rows : List BlockRow) (lists : FieldLists) (before stood : ℕ) (cards : List Card) (lines : List Line) (all : List Shown) →
    AreShown kind rows lists stood cards lines all → (cards ≡ []) ⊎ (before ≡ stood) →
    lines_text kind rows lists before cards lines ≡ flat_map (shown_text kind rows) all
lines-same kind rows lists before stood cards [] [] are which = refl
lines-same kind rows lists before stood cards [] (statement ∷ others) are which = absurd are
lines-same kind rows lists before stood cards (shown ∷ lines) [] are which = absurd are
lines-same kind rows lists before stood cards (shown ∷ lines) (statement ∷ others) are which =
    ap₂ (λ front rest. front ++ rest)
    (line-same kind rows lists before stood cards shown statement are.0 (⊎_elim (λ none. inl (take-none shown.cards cards none)) (λ same. inr same) which))
    (lines-same kind rows lists (before + length (take shown.cards cards)) (stood + shown.cards) (drop shown.cards cards) lines others are.1 (behind-cards shown.cards before stood cards which))

pub one_more : {X Y : Type 0} (b : Bool) (x : X) (xs : List X) (y : Y) (ys : List Y) → length xs ≡ length ys → length (if b then x ∷ xs else xs) ≡ length (if b then y ∷ ys else ys)
one_more true x xs y ys e = ap (λ n. suc n) e
one_more false x xs y ys e = e

-- as many lines are flagged as statements
flagged-same : (kind : DeckKind) (rows : List BlockRow) (lists : FieldLists) (stood : ℕ) (cards : List Card) (lines : List Line) (all : List Shown) →
    AreShown kind rows lists stood cards lines all → flagged_lines lines ≡ length (filter is_flagged all)
flagged-same kind rows lists stood cards [] [] are = refl
flagged-same kind rows lists stood cards [] (statement ∷ others) are = absurd are
flagged-same kind rows lists stood cards (shown ∷ lines) [] are = absurd are
flagged-same kind rows lists stood cards (shown ∷ lines) (statement ∷ others) are =
    let same : has_letters shown ≡ is_flagged statement = ap (λ l. nat_lt 0 (length l)) are.0.letters in
    ap (λ (b : Bool). length (if b then shown ∷ filter has_letters lines else filter has_letters lines)) same
    ∙ one_more (is_flagged statement) shown (filter has_letters lines) statement (filter is_flagged others)
    (flagged-same kind rows lists (stood + shown.cards) (drop shown.cards cards) lines others are.1)

single : (test : Shown → Bool) (b : Bool) (x : Shown) (xs : List Shown) → length (filter test xs) + length (if b then x ∷ [] else []) ≡ length (if b then x ∷ filter test xs else filter test xs)
single test true x xs = omega arith
single test false x xs = omega arith

-- the order does not matter
pub filter-reverse : (test : Shown → Bool) (all : List Shown) → length (filter test (reverse all)) ≡ length (filter test all)
filter-reverse test [] = refl
filter-reverse test (x ∷ xs) =
    ap (λ l. length (filter test l)) (reverse-append (x ∷ []) xs)
    ∙ ap length (filter-append test (reverse xs) (x ∷ []))
    ∙ length-append (filter test (reverse xs)) (filter test (x ∷ []))
    ∙ ap (λ n. n + length (filter test (x ∷ []))) (filter-reverse test xs)
    ∙ single test (test x) x xs

-- the errors of a deck are the lines with letters
pub errors-same : (cards : List Card) (parts : ObjectParts) (object : Object) → ArePartsOf cards parts object → flagged_lines parts.lines.items ≡ errors_of object
errors-same cards parts object are =
    flagged-same parts.kind parts.bases parts.fields 0 cards parts.lines.items (reverse object.shown) are.shown ∙ filter-reverse is_flagged object.shown

-- the text of the parts of an object is its listing
pub listing-same : (cards : List Card) (parts : ObjectParts) (object : Object) → ArePartsOf cards parts object → parts_text object.name cards parts ≡ deck_listing object
listing-same cards parts object are =
    ap₂ (λ first rest. first ++ rest)
    (ap (λ kind. line (codes "DECK " ++ (object.name ++ (codes " " ++ kind_text kind)))) are.kind)
    (ap₂ (λ statements rest. statements ++ rest)
    (lines-same parts.kind parts.bases parts.fields 0 0 cards parts.lines.items (reverse object.shown) are.shown (inr refl)
    ∙ ap₂ (λ kind rows. flat_map (shown_text kind rows) (reverse object.shown)) are.kind are.rows)
    (ap₂ (λ blocks errors. flat_map block_line blocks ++ line (codes "ERRORS " ++ decimal_of errors)) are.rows (errors-same cards parts object are)))
