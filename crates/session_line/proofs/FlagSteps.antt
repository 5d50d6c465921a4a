-- The flagged statements of a deck, statement by statement.
use Rattle.std.{proofs.Common.{ℕ, ◌≡◌, ◌+◌, ◌<◌, ◌≤◌, Bool, true, false, List, [], ◌∷◌, ◌++◌, ◌⊎◌, inl, inr, ⊎_elim, length, take, drop, get_or, reverse, refl, sym, ap, ap₂, ◌∙◌, arith, append-nil, append_assoc, length-append, if◌then◌else◌}, specs.Prelude.{All, ◌&&◌, codes, filter, flat_map, is_none, map}, specs.List.{AllByRecursion, count_by}, proofs.lemmas.Grind.flat_map-append, proofs.lemmas.List.{drop_all, drop_more, reverse-append, take_all, take_more}, proofs.lemmas.List.Elements.All-from_recursion, proofs.lemmas.List.Sums.{count_by-le-length, length-filter}}
use Rattle.text_ports.proofs.SendSteps.{texts-more}
use Rattle.definitions.specs.{Cards.Card, Characters.is_among, DeckInput.Deck, DeckKinds.{behind_end, kind_of_statements, up_to_end}, Letters.{letters_of, texts}, Objects.{Shown, context_of, object_of, only_listed, shown_of}, Settled.Settled, Settling.settled_all, StatementItems.Context, Statements.{Statement, statements_of}}
use Rattle.deck_objects.specs.{Joins.CodedLines.AreShown, Joins.PartsOf.ArePartsOf, declared.lines.Line.Line, declared.object.ObjectParts.ObjectParts}
use Rattle.deck_listing.proofs.{BehindLaws.behind-same, ListingLaws.{behind-cards, take-none}}
use Rattle.deck_cuts.specs.Cuts.{begins_deck}
use Rattle.session_line.specs.{Errors.{Begins, Flag, deck_errors, errors_where, flag_of, flags_of, flag_text, shown_flag, shows_deck}, Joins.FlagWalks.{flags_in, flags_text}, Replies.{line_of, text_of_lines}}
use Rattle.session_commands.specs.declared.views.ErrorsView.{ErrorsView}

-- the lines of some, and of others behind them
flags_text-append : (name : List ℕ) (flags others : List Flag) → flags_text name (flags ++ others) ≡ flags_text name flags ++ flags_text name others
flags_text-append name [] others = refl
flags_text-append name (flag ∷ flags) others =
    let first = line_of (flag_text name flag) in
    ap (λ (l : List ℕ). first ++ l) (flags_text-append name flags others) ∙ sym (append_assoc first (flags_text name flags) (flags_text name others))

-- the next statement, and those behind it
pub flags-next : (before : ℕ) (cards : List Card) (lines : List Line) (i : ℕ) (shown : Line) → i < length lines → shown ≡ get_or lines i shown →
    flags_in before cards (drop i lines) ≡ flag_of before (take shown.cards cards) shown.letters (is_none shown.coded) ++ flags_in (before + length (take shown.cards cards)) (drop shown.cards cards) (drop (i + 1) lines)
flags-next before cards lines i shown within is =
    ap (flags_in before cards) (drop_more lines i shown within)
    ∙ ap (λ (line : Line). flags_in before cards (line ∷ drop (i + 1) lines)) (sym is)

-- and their lines
pub texts-next : (name : List ℕ) (before : ℕ) (cards : List Card) (lines : List Line) (i : ℕ) (shown : Line) → i < length lines → shown ≡ get_or lines i shown →
    flags_text name (flags_in before cards (drop i lines))
    ≡ flags_text name (flag_of before (take shown.cards cards) shown.letters (is_none shown.coded)) ++ flags_text name (flags_in (before + length (take shown.cards cards)) (drop shown.cards cards) (drop (i + 1) lines))
texts-next name before cards lines i shown within is =
    ap (flags_text name) (flags-next before cards lines i shown within is)
    ∙ flags_text-append name (flag_of before (take shown.cards cards) shown.letters (is_none shown.coded)) (flags_in (before + length (take shown.cards cards)) (drop shown.cards cards) (drop (i + 1) lines))

-- the same, where cards and bytes are shown otherwise
pub texts-step : (name : List ℕ) (before : ℕ) (cards own behind : List Card) (lines : List Line) (i : ℕ) (shown : Line) (bytes : List ℕ) → i < length lines → shown ≡ get_or lines i shown →
    own ≡ take shown.cards cards → behind ≡ drop shown.cards cards → bytes ≡ flags_text name (flag_of before own shown.letters (is_none shown.coded)) →
    flags_text name (flags_in before cards (drop i lines)) ≡ bytes ++ flags_text name (flags_in (before + length own) behind (drop (i + 1) lines))
texts-step name before cards own behind lines i shown bytes within is own-is behind-is bytes-is =
    texts-next name before cards lines i shown within is
    ∙ ap₂ (λ (o b : List Card). flags_text name (flag_of before o shown.letters (is_none shown.coded)) ++ flags_text name (flags_in (before + length o) b (drop (i + 1) lines))) (sym own-is) (sym behind-is)
    ∙ ap (λ (l : List ℕ). l ++ flags_text name (flags_in (before + length own) behind (drop (i + 1) lines))) (sym bytes-is)

-- no statement is left
pub texts-end : (name : List ℕ) (before : ℕ) (cards : List Card) (lines : List Line) (i : ℕ) → length lines ≤ i → flags_text name (flags_in before cards (drop i lines)) ≡ []
texts-end name before cards lines i past = ap (λ (l : List Line). flags_text name (flags_in before cards l)) (drop_all i lines past)

-- how many one is does not depend on its number
begun-count : (told : Bool) (m n : ℕ) (card : Card) → length (if told then Begins m card ∷ [] else []) ≡ length (if told then Begins n card ∷ [] else [])
begun-count true m n card = refl
begun-count false m n card = refl

flag-count : (m n : ℕ) (cards : List Card) (letters : List ℕ) (behind : Bool) → length (flag_of m cards letters behind) ≡ length (flag_of n cards letters behind)
flag-count m n [] letters behind = refl
flag-count m n (card ∷ cards) [] behind = begun-count (behind && begins_deck card) (m + 1) (n + 1) card
flag-count m n (card ∷ cards) (letter ∷ letters) behind = refl

flags-count : (m n : ℕ) (cards : List Card) (lines : List Line) → length (flags_in m cards lines) ≡ length (flags_in n cards lines)
flags-count m n cards [] = refl
flags-count m n cards (shown ∷ lines) =
    let own = take shown.cards cards in
    let behind = drop shown.cards cards in
    length-append (flag_of m own shown.letters (is_none shown.coded)) (flags_in (m + length own) behind lines)
    ∙ ap₂ (λ (x y : ℕ). x + y) (flag-count m n own shown.letters (is_none shown.coded)) (flags-count (m + length own) (n + length own) behind lines)
    ∙ sym (length-append (flag_of n own shown.letters (is_none shown.coded)) (flags_in (n + length own) behind lines))

-- how many are left, with the next
pub count-next : (cards : List Card) (lines : List Line) (i : ℕ) (shown : Line) → i < length lines → shown ≡ get_or lines i shown →
    length (flags_in 0 cards (drop i lines)) ≡ length (flag_of 0 (take shown.cards cards) shown.letters (is_none shown.coded)) + length (flags_in 0 (drop shown.cards cards) (drop (i + 1) lines))
count-next cards lines i shown within is =
    let own = take shown.cards cards in
    ap length (flags-next 0 cards lines i shown within is)
    ∙ length-append (flag_of 0 own shown.letters (is_none shown.coded)) (flags_in (0 + length own) (drop shown.cards cards) (drop (i + 1) lines))
    ∙ ap (λ (n : ℕ). length (flag_of 0 own shown.letters (is_none shown.coded)) + n) (flags-count (0 + length own) 0 (drop shown.cards cards) (drop (i + 1) lines))

-- numbers of cards, where there are any
flag-same : (before stood : ℕ) (cards : List Card) (letters : List ℕ) (behind : Bool) → (cards ≡ []) ⊎ (before ≡ stood) → flag_of before cards letters behind ≡ flag_of stood cards letters behind
flag-same before stood cards letters behind which =
    ⊎_elim (λ (none : cards ≡ []). ap (λ (c : List Card). flag_of before c letters behind) none ∙ sym (ap (λ (c : List Card). flag_of stood c letters behind) none))
    (λ (same : before ≡ stood). ap (λ (n : ℕ). flag_of n cards letters behind) same) which

-- what is stated of lines is what is stated of the statements that they show
flags-same : (parts : ObjectParts) (before stood : ℕ) (cards : List Card) (lines : List Line) (all : List Shown) →
    AreShown parts.kind parts.bases parts.fields stood cards lines all → (cards ≡ []) ⊎ (before ≡ stood) →
    flags_in before cards lines ≡ flat_map shown_flag all
flags-same parts before stood cards [] [] are which = refl
flags-same parts before stood cards [] (statement ∷ others) are which = absurd are
flags-same parts before stood cards (shown ∷ lines) [] are which = absurd are
flags-same parts before stood cards (shown ∷ lines) (statement ∷ others) are which =
    let own = take shown.cards cards in
    ap₂ (λ (front rest : List Flag). front ++ rest)
    (flag-same before stood own shown.letters (is_none shown.coded) (⊎_elim (λ none. inl (take-none shown.cards cards none)) (λ same. inr same) which)
    ∙ ap (λ (n : ℕ). flag_of n own shown.letters (is_none shown.coded)) are.0.before
    ∙ ap₂ (λ (c : List Card) (l : List ℕ). flag_of statement.statement.before c l (is_none shown.coded)) are.0.cards are.0.letters
    ∙ ap (λ (b : Bool). flag_of statement.statement.before statement.statement.cards statement.letters b) (behind-same parts.kind parts.bases parts.fields shown.coded statement.coded are.0.stored))
    (flags-same parts (before + length own) (stood + shown.cards) (drop shown.cards cards) lines others are.1 (behind-cards shown.cards before stood cards which))

-- those of a deck
pub deck-flags : (deck : Deck) (parts : ObjectParts) → ArePartsOf deck.cards parts (object_of deck) → flags_in 0 deck.cards parts.lines.items ≡ flags_of deck
deck-flags deck parts are = flags-same parts 0 0 deck.cards parts.lines.items (reverse (object_of deck).shown) are.shown (inr refl)

-- what is shown of a deck that is shown
pub shown-deck : (view : ErrorsView) (deck : Deck) (name : List ℕ) (shows : Bool) → shows ≡ shows_deck view name → name ≡ deck.name → shows ≡ true → errors_where view deck ≡ deck_errors deck
shown-deck view deck name shows is same h = ap (λ (t : Bool). if t then deck_errors deck else []) (sym (is ∙ ap (shows_deck view) same) ∙ h)

-- the lines of what a deck's parts have are those of what is shown of it
pub deck-text : (view : ErrorsView) (deck : Deck) (parts : ObjectParts) (name other : List ℕ) (cards : List Card) (lines : List Line) (shows : Bool) →
    ArePartsOf deck.cards parts (object_of deck) → shows ≡ shows_deck view name → name ≡ deck.name → shows ≡ true → other ≡ deck.name → cards ≡ deck.cards → lines ≡ parts.lines.items →
    flags_text other (flags_in 0 cards lines) ≡ text_of_lines (errors_where view deck)
deck-text view deck parts name other cards lines shows are is name-is h other-is cards-is lines-is =
    ap (λ (n : List ℕ). flags_text n (flags_in 0 cards lines)) other-is
    ∙ ap₂ (λ (c : List Card) (l : List Line). flags_text deck.name (flags_in 0 c l)) cards-is lines-is
    ∙ ap (flags_text deck.name) (deck-flags deck parts are)
    ∙ sym (ap text_of_lines (shown-deck view deck name shows is name-is h))

-- how many bytes of decks, with those of one deck more
pub bytes-more : (f : Deck → List ℕ) (decks : List Deck) (i : ℕ) (deck : Deck) (text : List ℕ) (sent size : ℕ) → i < length decks → deck ≡ get_or decks i deck → text ≡ f deck → size ≡ length text →
    sent ≡ length (flat_map f (take i decks)) → sent + size ≡ length (flat_map f (take (i + 1) decks))
bytes-more f decks i deck text sent size within is same size-is count =
    let grown : length (flat_map f (take (i + 1) decks)) ≡ length (flat_map f (take i decks)) + length (f deck) =
    ap length (texts-more f decks i deck within is) ∙ length-append (flat_map f (take i decks)) (f deck) in
    let long : length text ≡ length (f deck) = ap length same in
    omega (arith, grown, long, size-is, count)

-- the lines of all decks are those of each, one behind the other
pub texts-of : (f : Deck → List (List ℕ)) (decks : List Deck) → flat_map (λ deck. text_of_lines (f deck)) decks ≡ text_of_lines (flat_map f decks)
texts-of f [] = refl
texts-of f (deck ∷ decks) =
    ap (λ (l : List ℕ). text_of_lines (f deck) ++ l) (texts-of f decks)
    ∙ sym (flat_map-append line_of (f deck) (flat_map f decks))

-- all decks
pub texts-all : (view : ErrorsView) (decks : List Deck) (i : ℕ) → length decks ≤ i →
    flat_map (λ deck. text_of_lines (errors_where view deck)) (take i decks) ≡ text_of_lines (flat_map (errors_where view) decks)
texts-all view decks i past = ap (flat_map (λ deck. text_of_lines (errors_where view deck))) (take_all i decks past) ∙ texts-of (errors_where view) decks

-- how many are shown, with those of one deck more
pub counts-more : (f : Deck → List (List ℕ)) (decks : List Deck) (i : ℕ) (deck : Deck) → i < length decks → deck ≡ get_or decks i deck →
    length (flat_map f (take (i + 1) decks)) ≡ length (flat_map f (take i decks)) + length (f deck)
counts-more f decks i deck within is =
    ap (λ (l : List Deck). length (flat_map f l)) (take_more decks i deck within)
    ∙ ap length (flat_map-append f (take i decks) (get_or decks i deck ∷ []))
    ∙ length-append (flat_map f (take i decks)) (f (get_or decks i deck) ++ [])
    ∙ ap (λ (l : List (List ℕ)). length (flat_map f (take i decks)) + length l) (append-nil (f (get_or decks i deck)) ∙ ap f (sym is))

-- a statement has at most as many letters as there are
abbrev IsShort : Shown → Type 0
IsShort shown = length shown.letters ≤ 9

short-listed : (behind : List Statement) → AllByRecursion IsShort (map only_listed behind)
short-listed [] = tt
short-listed (statement ∷ behind) = (omega arith, short-listed behind)

short-one : (context : Context) (settled : Settled) → IsShort (shown_of context settled)
short-one context settled =
    let test = λ (c : ℕ). is_among c (texts (letters_of context settled)) in
    let few : count_by test (codes "ACDLORUVZ") ≤ 9 = count_by-le-length test (codes "ACDLORUVZ") in
    let same : length (filter test (codes "ACDLORUVZ")) ≡ count_by test (codes "ACDLORUVZ") = length-filter test (codes "ACDLORUVZ") in
    omega (arith, few, same)

short-shown : (context : Context) (all : List Settled) → AllByRecursion IsShort (map (shown_of context) all)
short-shown context [] = tt
short-shown context (settled ∷ all) = (short-one context settled, short-shown context all)

short-append : (xs ys : List Shown) → AllByRecursion IsShort xs → AllByRecursion IsShort ys → AllByRecursion IsShort (xs ++ ys)
short-append [] ys h k = k
short-append (x ∷ xs) ys h k = (h.0, short-append xs ys h.1 k)

short-reverse : (xs : List Shown) → AllByRecursion IsShort xs → AllByRecursion IsShort (reverse xs)
short-reverse [] h = tt
short-reverse (x ∷ xs) h = rw (reverse-append (x ∷ []) xs) (short-append (reverse xs) (x ∷ []) (short-reverse xs h.1) (h.0, tt))

-- and so has a line
short-lines : (parts : ObjectParts) (stood : ℕ) (cards : List Card) (lines : List Line) (all : List Shown) →
    AreShown parts.kind parts.bases parts.fields stood cards lines all → AllByRecursion IsShort all → AllByRecursion (λ (shown : Line). length shown.letters ≤ 9) lines
short-lines parts stood cards [] [] are short = tt
short-lines parts stood cards [] (statement ∷ others) are short = absurd are
short-lines parts stood cards (shown ∷ lines) [] are short = absurd are
short-lines parts stood cards (shown ∷ lines) (statement ∷ others) are short = (
  (let same : length shown.letters ≡ length statement.letters = ap length are.0.letters in omega (arith, same, short.0)),
  short-lines parts (stood + shown.cards) (drop shown.cards cards) lines others are.1 short.1,
)

deck-short : (deck : Deck) → AllByRecursion IsShort (object_of deck).shown
deck-short deck =
    let statements = statements_of (reverse deck.cards) in
    let kind = kind_of_statements (up_to_end statements) in
    let context = context_of kind (settled_all kind (up_to_end statements)) in
    short-append (map only_listed (behind_end statements)) (map (shown_of context) context.settled) (short-listed (behind_end statements)) (short-shown context context.settled)

pub deck-letters : (deck : Deck) (parts : ObjectParts) → ArePartsOf deck.cards parts (object_of deck) → All (λ (shown : Line). length shown.letters ≤ 9) parts.lines.items
deck-letters deck parts are =
    All-from_recursion _ parts.lines.items
    (short-lines parts 0 deck.cards parts.lines.items (reverse (object_of deck).shown) are.shown (short-reverse (object_of deck).shown (deck-short deck)))
