-- A pattern of registers fits the text of pieces where it fits the text that they are the pieces of.
use Rattle.std.{proofs.Common.{◌≡◌, ◌≤◌, ◌<◌, ℕ, ◌+◌, ◌-◌, Bool, true, false, not, cond, ◌&&◌, List, [], ◌∷◌, ◌++◌, Option, Some, None, eqb, leb, refl, sym, ap, ◌∙◌, inl, inr, arith}, specs.Prelude.{suc, zero}, proofs.lemmas.Bool.{and_parts, eqb-true, leb-true, true≢false}, proofs.lemmas.Bool.Decides.eqb_tells}
use Rattle.definitions.specs.{CountedItems.{CountedSpan, counted_item_at}, Pieces.{Mark, Comma, Plus, Minus, Star, Slash, Equals, Spot, AtStart, AtEquals, Inside, Begun, ByMark, Piece, Plain, mark_of, begun_by, begun_by_counted_item, spot_behind, left_of, onto_plain, onto_pieces, pieces_at, pieces_of}, Matching.{RegisterDigits, is_ijk, with_ijk, is_octal_digit, matched, mark_text, plain_text}}
use Rattle.cpu_opcodes.specs.Joins.PatternTexts.{all_digits, holds, shows_all, is_text_pattern}

-- what holds with each digit
pub digit_holds : (test : ℕ → Bool) (n c : ℕ) → all_digits test n ≡ true → 48 ≤ c → c < 48 + n → test c ≡ true
digit_holds test zero c all from below = absurd (omega (arith, from, below))
digit_holds test (suc n) c all from below =
    let parts = and_parts (test (48 + n)) (all_digits test n) all in
    elim (eqb_tells c (48 + n)) [
      | inl h ↦ ap test h.1 ∙ parts.0
      | inr h ↦ let other = h.1 in digit_holds test n c parts.1 from (omega (arith, below, other))
    ]

matched-digit : (p : ℕ) (ps : List ℕ) (c : ℕ) (cs : List ℕ) (ijk : RegisterDigits) → is_ijk p ≡ true →
    matched (p ∷ ps) (c ∷ cs) ijk ≡ cond (is_octal_digit c) (matched ps cs (with_ijk p (c - 48) ijk)) None
matched-digit p ps c cs ijk place = rw place refl

matched-letter : (p : ℕ) (ps : List ℕ) (c : ℕ) (cs : List ℕ) (ijk : RegisterDigits) → is_ijk p ≡ false → matched (p ∷ ps) (c ∷ cs) ijk ≡ cond (eqb p c) (matched ps cs ijk) None
matched-letter p ps c cs ijk letter = rw letter refl

cond_none : (b : Bool) (o : Option RegisterDigits) → (b ≡ true → o ≡ None) → cond b o None ≡ None
cond_none true o none = none refl
cond_none false o none = refl

one_fits_none : (test : List ℕ → Bool) (p : ℕ) (ps : List ℕ) (c : ℕ) (cs : List ℕ) (ijk : RegisterDigits) →
    ((behind : List ℕ → Bool) (next : RegisterDigits) → holds behind ps ≡ true → behind cs ≡ false → matched ps cs next ≡ None) →
    (b : Bool) → is_ijk p ≡ b → cond b (all_digits (λ d. holds (λ t. test (d ∷ t)) ps) 8) (holds (λ t. test (p ∷ t)) ps) ≡ true → test (c ∷ cs) ≡ false → matched (p ∷ ps) (c ∷ cs) ijk ≡ None
one_fits_none test p ps c cs ijk rest true place all fails =
    let next = with_ijk p (c - 48) ijk in
    matched-digit p ps c cs ijk place
    ∙ cond_none (is_octal_digit c) (matched ps cs next) (λ octal.
    let parts = and_parts (leb 48 c) (leb c 55) octal in
    let below = leb-true c 55 parts.1 in
    rest (λ t. test (c ∷ t)) next (digit_holds (λ d. holds (λ t. test (d ∷ t)) ps) 8 c all (leb-true 48 c parts.0) (omega (arith, below))) fails)
one_fits_none test p ps c cs ijk rest false letter all fails =
    matched-letter p ps c cs ijk letter
    ∙ cond_none (eqb p c) (matched ps cs ijk) (λ same. rest (λ t. test (p ∷ t)) ijk all (ap (λ d. test (d ∷ cs)) (eqb-true p c same) ∙ fails))

-- so the pattern does not fit a text of which it does not hold
pub fits_none : (test : List ℕ → Bool) (ps cs : List ℕ) (ijk : RegisterDigits) → holds test ps ≡ true → test cs ≡ false → matched ps cs ijk ≡ None
fits_none test [] [] ijk all fails = absurd (true≢false (sym all ∙ fails))
fits_none test [] (c ∷ cs) ijk all fails = refl
fits_none test (p ∷ ps) [] ijk all fails = refl
fits_none test (p ∷ ps) (c ∷ cs) ijk all fails = one_fits_none test p ps c cs ijk (λ behind next. fits_none behind ps cs next) (is_ijk p) refl all fails

-- the text of a character in front of pieces
plain_text-onto_plain : (c : ℕ) (pieces : List Piece) → plain_text (onto_plain c pieces) ≡ c ∷ plain_text pieces
plain_text-onto_plain c [] = refl
plain_text-onto_plain c (Plain text ∷ pieces) = refl
plain_text-onto_plain c (piece ∷ pieces) = refl

same_character : (c n : ℕ) → eqb c n ≡ true → n ∷ [] ≡ c ∷ []
same_character c n same = ap (λ k. k ∷ []) (sym (eqb-true c n same))

one_mark : (b : Bool) (m : Mark) (c : ℕ) (rest : Option Mark) (mark : Mark) → (b ≡ true → mark_text m ≡ c ∷ []) → (rest ≡ Some mark → mark_text mark ≡ c ∷ []) →
    cond b (Some m) rest ≡ Some mark → mark_text mark ≡ c ∷ []
one_mark true m c rest mark is behind e = let same : m ≡ mark = cc in ap mark_text (sym same) ∙ is refl
one_mark false m c rest mark is behind e = behind e

-- a mark is the one that its character is
text_of_mark : (c : ℕ) (mark : Mark) → mark_of c ≡ Some mark → mark_text mark ≡ c ∷ []
text_of_mark c mark e =
    let slash = cond (eqb c 47) (Some Slash) None in
    let star = cond (eqb c 42) (Some Star) slash in
    let minus = cond (eqb c 45) (Some Minus) star in
    let plus = cond (eqb c 43) (Some Plus) minus in
    one_mark (eqb c 44) Comma c plus mark (same_character c 44)
    (one_mark (eqb c 43) Plus c minus mark (same_character c 43)
    (one_mark (eqb c 45) Minus c star mark (same_character c 45)
    (one_mark (eqb c 42) Star c slash mark (same_character c 42)
    (one_mark (eqb c 47) Slash c None mark (same_character c 47) (λ none. cc))))) e

abbrev pieces_begun : Begun → List ℕ → List Piece
pieces_begun begun cs = onto_pieces begun (pieces_at (spot_behind begun) (left_of begun) cs)

-- what is no item leaves its character in the text
plain_text-begun : (c : ℕ) (cs : List ℕ) (o : Option Mark) → mark_of c ≡ o →
    plain_text (pieces_begun (begun_by c o) cs) ≡ c ∷ plain_text (pieces_at (spot_behind (begun_by c o)) 0 cs)
plain_text-begun c cs None e = plain_text-onto_plain c (pieces_at Inside 0 cs)
plain_text-begun c cs (Some mark) e = ap (λ text. text ++ plain_text (pieces_at (spot_behind (ByMark mark)) 0 cs)) (text_of_mark c mark e)

-- where its pieces show all of a text, their text is the text
abbrev IsShown : Begun → ℕ → List ℕ → Type 0
IsShown begun c cs = shows_all (plain_text (pieces_begun begun cs)) ≡ true → plain_text (pieces_begun begun cs) ≡ c ∷ cs

character_shown : (c : ℕ) (cs : List ℕ) (o : Option Mark) → mark_of c ≡ o →
    (shows_all (plain_text (pieces_at (spot_behind (begun_by c o)) 0 cs)) ≡ true → plain_text (pieces_at (spot_behind (begun_by c o)) 0 cs) ≡ cs) → IsShown (begun_by c o) c cs
character_shown c cs o is rest all =
    let behind = plain_text (pieces_at (spot_behind (begun_by c o)) 0 cs) in
    let text = plain_text-begun c cs o is in
    let parts = and_parts (not (eqb c 32) && not (eqb c 61)) (shows_all behind) (sym (ap shows_all text) ∙ all) in
    text ∙ ap (λ t. c ∷ t) (rest parts.1)

abbrev IsShownBehind : List ℕ → Type 0
IsShownBehind cs = (spot : Spot) → shows_all (plain_text (pieces_at spot 0 cs)) ≡ true → plain_text (pieces_at spot 0 cs) ≡ cs

item_shown : (c : ℕ) (cs : List ℕ) (o : Option CountedSpan) → IsShownBehind cs → IsShown (begun_by_counted_item c o) c cs
item_shown c cs None rest = character_shown c cs (mark_of c) refl (rest (spot_behind (begun_by c (mark_of c))))
item_shown c cs (Some counted) rest = λ all. absurd (true≢false (sym all))

equals_shown : (c : ℕ) (cs : List ℕ) (o : Option CountedSpan) (b : Bool) → IsShownBehind cs → IsShown (cond b (ByMark Equals) (begun_by_counted_item c o)) c cs
equals_shown c cs o true rest = λ all. absurd (true≢false (sym all))
equals_shown c cs o false rest = item_shown c cs o rest

text_shown : (text : List ℕ) → IsShownBehind text
text_shown [] spot all = refl
text_shown (c ∷ cs) AtStart all = equals_shown c cs (counted_item_at (c ∷ cs)) (eqb c 61) (text_shown cs) all
text_shown (c ∷ cs) AtEquals all = item_shown c cs (counted_item_at (c ∷ cs)) (text_shown cs) all
text_shown (c ∷ cs) Inside all = character_shown c cs (mark_of c) refl (text_shown cs (spot_behind (begun_by c (mark_of c)))) all

matched_by : (pattern text : List ℕ) (ijk : RegisterDigits) (b : Bool) → shows_all (plain_text (pieces_of text)) ≡ b → is_text_pattern pattern ≡ true →
    matched pattern (plain_text (pieces_of text)) ijk ≡ matched pattern text ijk
matched_by pattern text ijk true all shaped = ap (λ t. matched pattern t ijk) (text_shown text AtStart all)
matched_by pattern text ijk false hidden shaped =
    let parts = and_parts (holds shows_all pattern) (holds (λ t. shows_all (plain_text (pieces_of t))) pattern) shaped in
    fits_none shows_all pattern (plain_text (pieces_of text)) ijk parts.0 hidden
    ∙ sym (fits_none (λ t. shows_all (plain_text (pieces_of t))) pattern text ijk parts.1 hidden)

-- the text of the pieces fits a pattern where the text itself does
pub matched-text : (pattern text : List ℕ) (ijk : RegisterDigits) → is_text_pattern pattern ≡ true → matched pattern (plain_text (pieces_of text)) ijk ≡ matched pattern text ijk
matched-text pattern text ijk shaped = matched_by pattern text ijk (shows_all (plain_text (pieces_of text))) refl shaped
