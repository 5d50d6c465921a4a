-- Lines of messages, letter by letter and statement by statement.
use Rattle.std.{proofs.Common.{ℕ, ◌≡◌, ◌+◌, ◌<◌, ◌≤◌, Bool, true, false, List, [], ◌∷◌, ◌++◌, length, take, drop, get_or, refl, sym, ap, ap₂, subst, ◌∙◌, append-nil, append_assoc, if◌then◌else◌}, specs.Prelude.{◌&&◌, flat_map, is_none}, proofs.lemmas.Grind.flat_map-append, proofs.lemmas.List.{drop_all, drop_more}}
use Rattle.definitions.specs.Cards.{Card}
use Rattle.deck_objects.specs.declared.lines.Line.{Line}
use Rattle.deck_cuts.specs.Cuts.{begins_deck}
use Rattle.session_line.{specs.Errors.{Begins, flag_of}, specs.Joins.FlagWalks.flags_in, specs.Joins.MessageWalks.{AddsMessages, told_letters}, specs.Messages.{AreMessages, IsMessage, Lettered, Message, letters_of, lettered, message_text}, specs.Replies.line_of, proofs.FlagSteps.flags-next}

-- a text has lines of messages so far: with those of the letters that are left it has those of all
abbrev pub IsSoFar : List ℕ → List Lettered → List Lettered → List ℕ → List ℕ → Type 0
IsSoFar name all left old new = (rest : List ℕ) → AreMessages name left rest → AddsMessages name all old (new ++ rest)

-- lines of messages, and of others behind them
are-append : (name : List ℕ) (letters others : List Lettered) (lines rest : List ℕ) → AreMessages name letters lines → AreMessages name others rest → AreMessages name (letters ++ others) (lines ++ rest)
are-append name [] others lines rest are behind = subst (λ (l : List ℕ). AreMessages name others (l ++ rest)) (sym are) behind
are-append name (of ∷ letters) others lines rest are behind = record {
  message = are.message;
  lawful = are.lawful;
  behind = are.behind ++ rest;
  rest = are-append name letters others are.behind rest are.rest behind;
  is = ap (λ (l : List ℕ). l ++ rest) are.is ∙ append_assoc (line_of (message_text name of are.message)) are.behind rest;
}

-- some more are put
pub far-more : (name : List ℕ) (all some left : List Lettered) (old text new : List ℕ) → IsSoFar name all (some ++ left) old text → AddsMessages name some text new → IsSoFar name all left old new
far-more name all some left old text new far adds rest are =
    let whole = far (adds.lines ++ rest) (are-append name some left adds.lines rest adds.are are) in
    record {
      lines = whole.lines;
      are = whole.are;
      is = ap (λ (l : List ℕ). l ++ rest) adds.is ∙ append_assoc text adds.lines rest ∙ whole.is;
    }

-- no letter is left
pub far-end : (name : List ℕ) (all left : List Lettered) (old new : List ℕ) → IsSoFar name all left old new → left ≡ [] → AddsMessages name all old new
far-end name all left old new far none =
    let whole = far [] (subst (λ (l : List Lettered). AreMessages name l []) (sym none) refl) in
    record { lines = whole.lines; are = whole.are; is = sym (append-nil new) ∙ whole.is }

-- one message
pub adds-one : (name : List ℕ) (of : Lettered) (message : Message) (old new : List ℕ) → IsMessage message → new ≡ old ++ line_of (message_text name of message) → AddsMessages name (of ∷ []) old new
adds-one name of message old new lawful is =
    let line = line_of (message_text name of message) in
    record { lines = line; are = record { message = message; lawful = lawful; behind = []; rest = refl; is = sym (append-nil line) }; is = is }

-- none
pub adds-none : (name : List ℕ) (letters : List Lettered) (text : List ℕ) → letters ≡ [] → AddsMessages name letters text text
adds-none name letters text none = record { lines = []; are = subst (λ (l : List Lettered). AreMessages name l []) (sym none) refl; is = sym (append-nil text) }

-- the next letter of a statement
pub letters-next : (number : ℕ) (letters : List ℕ) (i other : ℕ) → i < length letters →
    lettered number (drop i letters) ≡ (record { number = number; letter = get_or letters i other } ∷ []) ++ lettered number (drop (i + 1) letters)
letters-next number letters i other within = ap (lettered number) (drop_more letters i other within)

-- and none behind the last
pub letters-end : (number : ℕ) (letters : List ℕ) (i : ℕ) → length letters ≤ i → lettered number (drop i letters) ≡ []
letters-end number letters i past = ap (lettered number) (drop_all i letters past)

-- the letters of a statement are those of its flag
begun-letters : (told : Bool) (number : ℕ) (card : Card) → flat_map letters_of (if told then Begins number card ∷ [] else []) ≡ []
begun-letters true number card = refl
begun-letters false number card = refl

flag-letters : (before : ℕ) (cards : List Card) (letters : List ℕ) (behind : Bool) → flat_map letters_of (flag_of before cards letters behind) ≡ told_letters before cards letters
flag-letters before [] letters behind = refl
flag-letters before (card ∷ cards) [] behind = begun-letters (behind && begins_deck card) (before + 1) card
flag-letters before (card ∷ cards) (letter ∷ letters) behind = append-nil (lettered (before + 1) (letter ∷ letters))

-- those of the next statement, and of those behind it
pub statements-next : (before : ℕ) (cards own behind : List Card) (lines : List Line) (i : ℕ) (shown : Line) (letters : List ℕ) → i < length lines → shown ≡ get_or lines i shown →
    own ≡ take shown.cards cards → behind ≡ drop shown.cards cards → letters ≡ shown.letters →
    flat_map letters_of (flags_in before cards (drop i lines)) ≡ told_letters before own letters ++ flat_map letters_of (flags_in (before + length own) behind (drop (i + 1) lines))
statements-next before cards own behind lines i shown letters within is own-is behind-is letters-is =
    let o = take shown.cards cards in
    let rest = flags_in (before + length o) (drop shown.cards cards) (drop (i + 1) lines) in
    ap (flat_map letters_of) (flags-next before cards lines i shown within is)
    ∙ flat_map-append letters_of (flag_of before o shown.letters (is_none shown.coded)) rest
    ∙ ap (λ (l : List Lettered). l ++ flat_map letters_of rest) (flag-letters before o shown.letters (is_none shown.coded))
    ∙ ap₂ (λ (x b : List Card). told_letters before x shown.letters ++ flat_map letters_of (flags_in (before + length x) b (drop (i + 1) lines))) (sym own-is) (sym behind-is)
    ∙ ap (λ (l : List ℕ). told_letters before own l ++ flat_map letters_of (flags_in (before + length own) behind (drop (i + 1) lines))) (sym letters-is)

-- and none behind the last
pub statements-end : (before : ℕ) (cards : List Card) (lines : List Line) (i : ℕ) → length lines ≤ i → flat_map letters_of (flags_in before cards (drop i lines)) ≡ []
statements-end before cards lines i past = ap (λ (l : List Line). flat_map letters_of (flags_in before cards l)) (drop_all i lines past)
