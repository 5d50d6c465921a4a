-- Texts without line feeds, and how long they are.
use Rattle.std.{proofs.Common.{ℕ, zero, suc, ◌≡◌, ◌≢◌, ◌<◌, ◌≤◌, ◌==◌, inl, inr, Bool, true, false, ◌&&◌, List, [], ◌∷◌, ◌++◌, Option, None, Some, position, length, get_or, refl, sym, ap, subst, ◌∙◌, arith, cond, eqb-true, true≢false, le-ltb, lt-ltb}, specs.Prelude.{nat_le, decimal, is_none, if◌then◌else◌, ◌||◌}, specs.List.{list_all, position_or_len}, proofs.lemmas.List.Sums.fails_before_first, proofs.lemmas.Bool.{and_parts, and_from, le-leb, leb-true, or_cases}, proofs.lemmas.Bool.Decides.leb_tells, proofs.lemmas.List.Elements.{All-nil, All-cons}, proofs.lemmas.Fmt.length-decimal-le, proofs.lemmas.List.Folds.list_all-append, proofs.lemmas.List.Quantifiers.position-Some}
use Rattle.definitions.specs.{Characters.{blank, is_digit, is_letter, characters, display_code_of}, Cards.{Card, CardRead, IsCard, TooWide, BadCharacter, card_of, checked, trimmed}, DeckInput.is_deck_name}
use Rattle.text_ports.specs.Lines.{line_feed, IsUnbroken}
use Rattle.session_commands.{specs.Words.greatest_number, proofs.ReadBack.{all-by, digit-no_blank, no_blank, spells-decimal, IsWord}}
use Rattle.moments.{specs.Moments.is_moment, proofs.MomentTexts.{moment-all, moment-length}}

-- a character from the blank on
abbrev pub is_plain : ℕ → Bool
is_plain c = nat_le blank c

-- a text of such characters
abbrev pub ArePlain : List ℕ → Type 0
ArePlain text = list_all is_plain text ≡ true

-- no line feed is among them
pub plain-unbroken : (text : List ℕ) → ArePlain text → IsUnbroken text
plain-unbroken [] plain = All-nil (λ b. b ≢ line_feed)
plain-unbroken (c ∷ cs) plain =
    let parts = and_parts (is_plain c) (list_all is_plain cs) plain in
    let least : 32 ≤ c = leb-true 32 c parts.0 in
    All-cons (λ b. b ≢ line_feed) c cs (λ e. absurd (omega (arith, e, least))) (plain-unbroken cs parts.1)

-- one text behind another
pub plain-append : (a b : List ℕ) → ArePlain a → ArePlain b → ArePlain (a ++ b)
plain-append a b first second = list_all-append is_plain a b ∙ and_from (list_all is_plain a) (list_all is_plain b) first second

plain-above : (least c : ℕ) → 32 ≤ least → nat_le least c ≡ true → is_plain c ≡ true
plain-above least c above is = let h : least ≤ c = leb-true least c is in le-leb 32 c (omega (arith, above, h))

digit-plain : (c : ℕ) → is_digit c ≡ true → is_plain c ≡ true
digit-plain c is = plain-above 48 c (omega arith) (and_parts (nat_le 48 c) (nat_le c 57) is).0

letter-plain : (c : ℕ) → is_letter c ≡ true → is_plain c ≡ true
letter-plain c is = plain-above 65 c (omega arith) (and_parts (nat_le 65 c) (nat_le c 90) is).0

name_character-plain : (c : ℕ) → (is_letter c || is_digit c) ≡ true → is_plain c ≡ true
name_character-plain c is = elim (or_cases (is_letter c) (is_digit c) is) [ inl l ↦ letter-plain c l | inr d ↦ digit-plain c d ]

-- numbers
pub decimal-plain : (n : ℕ) → n ≤ greatest_number → ArePlain (decimal n)
decimal-plain n within = all-by is_digit is_plain digit-plain (decimal n) (spells-decimal n within).0

pub decimal-short : (n : ℕ) → n ≤ greatest_number → length (decimal n) ≤ 19
decimal-short n within = length-decimal-le 19 n (omega arith) (omega (arith, within)) (omega (arith, within))

-- names
pub name-plain : (name : List ℕ) → is_deck_name name ≡ true → ArePlain name
name-plain name is =
    let parts = and_parts (nat_le 1 (length name) && nat_le (length name) 7) (list_all (λ c. is_letter c || is_digit c) name) is in
    all-by (λ c. is_letter c || is_digit c) is_plain name_character-plain name parts.1

pub name-short : (name : List ℕ) → is_deck_name name ≡ true → length name ≤ 7
name-short name is =
    let parts = and_parts (nat_le 1 (length name) && nat_le (length name) 7) (list_all (λ c. is_letter c || is_digit c) name) is in
    leb-true (length name) 7 (and_parts (nat_le 1 (length name)) (nat_le (length name) 7) parts.0).1

-- moments
pub moment-short : (text : List ℕ) → is_moment text ≡ true → length text ≤ 20
moment-short text is = let n = moment-length text is in omega (arith, n)

pub moment-plain : (text : List ℕ) → is_moment text ≡ true → ArePlain text
moment-plain text is = moment-all is_plain digit-plain refl text is

pub moment-word : (text : List ℕ) → is_moment text ≡ true → IsWord text
moment-word text is =
    let n = moment-length text is in
    record { unbroken = moment-all no_blank digit-no_blank refl text is; some = omega (arith, n) }

-- cards
all-characters : (p : ℕ → Bool) (xs : List ℕ) → list_all p xs ≡ true → (i : ℕ) → i < length xs → p (get_or xs i 0) ≡ true
all-characters p [] all i within = absurd (omega (arith, within))
all-characters p (x ∷ xs) all zero within = (and_parts (p x) (list_all p xs) all).0
all-characters p (x ∷ xs) all (suc i) within = all-characters p xs (and_parts (p x) (list_all p xs) all).1 i (omega (arith, within))

-- a character that has a display code
coded-plain : (c : ℕ) (code : Option ℕ) → display_code_of c ≡ code → is_none code ≡ false → is_plain c ≡ true
coded-plain c None e is = absurd (true≢false is)
coded-plain c (Some code) e is =
    let found = position-Some (λ d. d == c) characters code 0 e in
    let same : get_or characters code 0 ≡ c = eqb-true (get_or characters code 0) c found.1 in
    ap is_plain (sym same) ∙ all-characters is_plain characters refl code found.0

-- whether there is a place
abbrev is_there : Option ℕ → Bool
is_there None = false
is_there (Some x) = true

-- where no element passes, none has a place
none-past : (p : ℕ → Bool) (xs : List ℕ) → position p xs ≡ None → length xs ≤ position_or_len p xs
none-past p xs none = elim (leb_tells (length xs) (position_or_len p xs)) [
  | inl h ↦ h.1
  | inr h ↦ absurd (none-some (position_or_len p xs) (sym (ap (λ (t : Bool). cond t (Some (position_or_len p xs)) None) (lt-ltb (position_or_len p xs) (length xs) h.1)) ∙ none))
]
  where
    none-some : (x : ℕ) → Some x ≡ None → ⊥
    none-some x e = true≢false (ap is_there e)

all_at : (p : ℕ → Bool) (xs : List ℕ) → ((k : ℕ) → k < length xs → p (get_or xs k 0) ≡ true) → list_all p xs ≡ true
all_at p [] each = refl
all_at p (x ∷ xs) each = and_from (p x) (list_all p xs) (each 0 (omega arith)) (all_at p xs (λ k within. each (suc k) (omega (arith, within))))

coded-columns : (columns : List ℕ) → position (λ c. is_none (display_code_of c)) columns ≡ None → ArePlain columns
coded-columns columns none =
    let past = none-past (λ c. is_none (display_code_of c)) columns none in
    all_at is_plain columns (λ k within.
    coded-plain (get_or columns k 0) (display_code_of (get_or columns k 0)) refl
    (fails_before_first (λ c. is_none (display_code_of c)) columns k 0 (omega (arith, past, within))))

-- what is read as itself: at most 80 columns, each with a display code
pub record IsCardText (card : Card) : Type 0 where
  pub plain : ArePlain card
  pub short : length card ≤ 80

-- the card that was read
abbrev card_in : CardRead → Card
card_in (IsCard c) = c
card_in TooWide = []
card_in (BadCharacter column) = []

-- whether a card was read
abbrev is_card : CardRead → Bool
is_card (IsCard c) = true
is_card TooWide = false
is_card (BadCharacter column) = false

card-of : (card columns : Card) (place : Option ℕ) → columns ≡ trimmed card → length columns ≤ 80 → position (λ c. is_none (display_code_of c)) columns ≡ place → checked columns place ≡ IsCard card → IsCardText card
card-of card columns None is short none e =
    let same : columns ≡ card = ap card_in e in
    let P : Card → Type 0 = λ (c : Card). IsCardText c in
    subst P same (record { plain = coded-columns columns none; short = short })
card-of card columns (Some place) is short some e = absurd (true≢false (sym (ap is_card e)))

pub card-text : (card : Card) → card_of card ≡ IsCard card → IsCardText card
card-text card is =
    let columns = trimmed card in
    let read = checked columns (position (λ c. is_none (display_code_of c)) columns) in
    elim (leb_tells (length columns) 80) [
      | inl h ↦ card-of card columns (position (λ c. is_none (display_code_of c)) columns) refl h.1 refl (sym (ap (λ (t : Bool). if t then TooWide else read) (le-ltb 80 (length columns) h.1)) ∙ is)
      | inr h ↦ absurd (true≢false (sym (ap is_card (sym (ap (λ (t : Bool). if t then TooWide else read) (lt-ltb 80 (length columns) h.1)) ∙ is))))
    ]
