-- The line of a command reads back: words and numbers first, then each form of line.
use Rattle.std.{proofs.Common.{ℕ, suc, ◌≡◌, ◌+◌, ◌*◌, ◌-◌, ◌/◌, ◌%◌, ◌<◌, ◌≤◌, ◌==◌, inl, inr, Bool, true, false, cond, not, ◌&&◌, List, [], ◌∷◌, ◌++◌, Some, None, length, length-append, take, drop, refl, ap, ◌∙◌, arith, ne_eqb, if◌then◌else◌}, specs.Prelude.{nat_le, option_and_then, option_map, codes, decimal, ◌||◌}, specs.List.{list_all, prefix_len}, proofs.lemmas.Bool.{and_parts, and_from, le-leb, leb-true, or_cases}, proofs.lemmas.Fmt.{decimal_by_steps, length-decimal-le, decimal_nonempty}, proofs.lemmas.List.{take_at, drop_at}, proofs.lemmas.List.Folds.list_all-append, proofs.lemmas.List.Sums.fold-append}
use Rattle.definitions.specs.{Characters.{blank, is_digit, is_letter, same_text}, Fields.unbroken_front, Numerals.number_of, DeckInput.is_deck_name}
use Rattle.session_commands.specs.{Words.{some_word, first_word, behind_word, greatest_number, is_number, number_in, seen_in, first_seen, first_number}, Lines.{seen_text, IsLawfulSeen}, declared.words.Seen.Seen, declared.words.Seen.TheVariants.{Exactly, Since}}

-- a character that is no blank
abbrev pub no_blank : ℕ → Bool
no_blank c = not (c == blank)

-- a word: characters, and no blank among them
pub record IsWord (word : List ℕ) : Type 0 where
  pub unbroken : list_all no_blank word ≡ true
  pub some : 0 < length word

-- a test that follows from another
pub all-by : (p q : ℕ → Bool) → ((c : ℕ) → p c ≡ true → q c ≡ true) → (word : List ℕ) → list_all p word ≡ true → list_all q word ≡ true
all-by p q follows [] all = refl
all-by p q follows (c ∷ cs) all =
    let parts = and_parts (p c) (list_all p cs) all in
    and_from (q c) (list_all q cs) (follows c parts.0) (all-by p q follows cs parts.1)

-- characters behind the blank are none
no_blank-above : (c : ℕ) → 48 ≤ c → no_blank c ≡ true
no_blank-above c above = ap not (ne_eqb c 32 (λ e. absurd (omega (arith, e, above))))

pub digit-no_blank : (c : ℕ) → is_digit c ≡ true → no_blank c ≡ true
digit-no_blank c is = no_blank-above c (leb-true 48 c (and_parts (nat_le 48 c) (nat_le c 57) is).0)

letter-no_blank : (c : ℕ) → is_letter c ≡ true → no_blank c ≡ true
letter-no_blank c is = let above : 65 ≤ c = leb-true 65 c (and_parts (nat_le 65 c) (nat_le c 90) is).0 in no_blank-above c (omega (arith, above))

name-no_blank : (c : ℕ) → (is_letter c || is_digit c) ≡ true → no_blank c ≡ true
name-no_blank c is = elim (or_cases (is_letter c) (is_digit c) is) [ inl l ↦ letter-no_blank c l | inr d ↦ digit-no_blank c d ]

-- a name is a word
pub word-name : (name : List ℕ) → is_deck_name name ≡ true → IsWord name
word-name name is =
    let parts = and_parts (nat_le 1 (length name) && nat_le (length name) 7) (list_all (λ c. is_letter c || is_digit c) name) is in
    record {
      unbroken = all-by (λ c. is_letter c || is_digit c) no_blank name-no_blank name parts.1;
      some = let least : 1 ≤ length name = leb-true 1 (length name) (and_parts (nat_le 1 (length name)) (nat_le (length name) 7) parts.0).0 in omega (arith, least);
    }

-- decimal digits, and the number that they make
abbrev pub Spells : ℕ → List ℕ → Type 0
Spells n digits = (list_all is_digit digits ≡ true) × (number_of 10 digits ≡ n)

digit-is : (d : ℕ) → d < 10 → is_digit (48 + d) ≡ true
digit-is d below = and_from (nat_le 48 (48 + d)) (nat_le (48 + d) 57) (le-leb 48 (48 + d) (omega arith)) (le-leb (48 + d) 57 (omega arith))

spells-one : (n : ℕ) → n < 10 → Spells n ((48 + n) ∷ [])
spells-one n below = (and_from (is_digit (48 + n)) true (digit-is n below) refl, omega arith)

last-digit : (n : ℕ) → n % 10 < 10
last-digit n = omega arith

spells-more : (n : ℕ) (digits : List ℕ) → 10 ≤ n → Spells (n / 10) digits → Spells n (digits ++ ((48 + n % 10) ∷ []))
spells-more n digits least spelt = (
  list_all-append is_digit digits ((48 + n % 10) ∷ []) ∙ and_from (list_all is_digit digits) (is_digit (48 + n % 10) && true) spelt.0 (and_from (is_digit (48 + n % 10)) true (digit-is (n % 10) (last-digit n)) refl),
  fold-append (λ value digit. value * 10 + (digit - 48)) 0 digits ((48 + n % 10) ∷ [])
      ∙ ap (λ v. v * 10 + (48 + n % 10 - 48)) spelt.1
      ∙ (let whole : n / 10 * 10 + (48 + n % 10 - 48) ≡ n = omega arith in whole),
)

pub spells-decimal : (n : ℕ) → n ≤ greatest_number → Spells n (decimal n)
spells-decimal n within = decimal_by_steps Spells spells-one spells-more n (omega (arith, within))

-- a number is a word
pub word-decimal : (n : ℕ) → n ≤ greatest_number → IsWord (decimal n)
word-decimal n within = record {
  unbroken = all-by is_digit no_blank digit-no_blank (decimal n) (spells-decimal n within).0;
  some = decimal_nonempty n (omega (arith, within));
}

-- and reads back
number-decimal : (n : ℕ) → n ≤ greatest_number → number_in (decimal n) ≡ Some n
number-decimal n within =
    let spelt = spells-decimal n within in
    let some : 1 ≤ length (decimal n) = omega (arith, decimal_nonempty n (omega (arith, within))) in
    let few : length (decimal n) ≤ 19 = length-decimal-le 19 n (omega arith) (omega (arith, within)) (omega (arith, within)) in
    let fits : is_number (decimal n) ≡ true =
    and_from _ _ (and_from _ _ (and_from _ _ (le-leb 1 (length (decimal n)) some) (le-leb (length (decimal n)) 19 few)) spelt.0)
    (ap (λ v. nat_le v greatest_number) spelt.1 ∙ le-leb n greatest_number within) in
    ap (λ (t : Bool). if t then Some (number_of 10 (decimal n)) else None) fits ∙ ap Some spelt.1

-- what stands behind a word: nothing, or a blank and more
abbrev pub IsRest : List ℕ → Type 0
IsRest rest = prefix_len no_blank rest ≡ 0

word-prefix : (word rest : List ℕ) → list_all no_blank word ≡ true → IsRest rest → prefix_len no_blank (word ++ rest) ≡ length word
word-prefix [] rest all none = none
word-prefix (c ∷ cs) rest all none =
    let parts = and_parts (no_blank c) (list_all no_blank cs) all in
    ap (λ (t : Bool). cond t (1 + prefix_len no_blank (cs ++ rest)) 0) parts.0 ∙ ap (λ (n : ℕ). 1 + n) (word-prefix cs rest parts.1 none) ∙ (let more : 1 + length cs ≡ suc (length cs) = omega arith in more)

front-word : (word rest : List ℕ) → IsWord word → IsRest rest → unbroken_front (word ++ rest) ≡ word
front-word word rest is none = ap (λ (n : ℕ). take n (word ++ rest)) (word-prefix word rest is.unbroken none) ∙ take_at word rest (length word) refl

some_word-word : (word : List ℕ) → 0 < length word → some_word word ≡ Some word
some_word-word [] some = absurd (omega (arith, some))
some_word-word (c ∷ cs) some = refl

-- the word that comes first, and what stands behind it
pub first-word : (word rest : List ℕ) → IsWord word → IsRest rest → first_word (32 ∷ (word ++ rest)) ≡ Some word
first-word word rest is none = ap some_word (front-word word rest is none) ∙ some_word-word word is.some

pub behind-word : (word rest : List ℕ) → IsWord word → IsRest rest → behind_word (32 ∷ (word ++ rest)) ≡ rest
behind-word word rest is none = ap (λ (l : List ℕ). drop (length l) (word ++ rest)) (front-word word rest is none) ∙ drop_at word rest (length word) refl

pub first-number : (n : ℕ) (rest : List ℕ) → n ≤ greatest_number → IsRest rest → first_number (32 ∷ (decimal n ++ rest)) ≡ Some n
first-number n rest within none = ap (option_and_then number_in) (first-word (decimal n) rest (word-decimal n within) none) ∙ number-decimal n within

-- a number with a plus behind it is a word
plus-unbroken : (word : List ℕ) → list_all no_blank word ≡ true → list_all no_blank (word ++ codes "+") ≡ true
plus-unbroken word all = list_all-append no_blank word (codes "+") ∙ and_from (list_all no_blank word) true all refl

pub word-seen : (seen : Seen) → IsLawfulSeen seen → IsWord (seen_text seen)
word-seen (Exactly version) within = word-decimal version within
word-seen (Since version) within =
    let size = length-append (decimal version) (codes "+") in
    record { unbroken = plus-unbroken (decimal version) (word-decimal version within).unbroken; some = omega (arith, size) }

-- the last character of digits is no plus
last-digit_no_plus : (digits : List ℕ) → list_all is_digit digits ≡ true → 0 < length digits → same_text (drop (length digits - 1) digits) (codes "+") ≡ false
last-digit_no_plus [] all some = absurd (omega (arith, some))
last-digit_no_plus (c ∷ []) all some =
    let is = and_parts (nat_le 48 c) (nat_le c 57) (and_parts (is_digit c) true all).0 in
    let above : 48 ≤ c = leb-true 48 c is.0 in
    ap (λ (t : Bool). t && true) (ne_eqb c 43 (λ e. absurd (omega (arith, e, above))))
last-digit_no_plus (c ∷ d ∷ ds) all some =
    let more : length (c ∷ d ∷ ds) - 1 ≡ suc (length (d ∷ ds) - 1) = omega arith in
    ap (λ (n : ℕ). same_text (drop n (c ∷ d ∷ ds)) (codes "+")) more
    ∙ last-digit_no_plus (d ∷ ds) (and_parts (is_digit c) (list_all is_digit (d ∷ ds)) all).1 (omega arith)

-- a version reads back
seen-back : (seen : Seen) → IsLawfulSeen seen → seen_in (seen_text seen) ≡ Some seen
seen-back (Exactly version) within =
    let word = decimal version in
    ap (λ (t : Bool). if t then option_map Since (number_in (take (length word - 1) word)) else option_map Exactly (number_in word))
    (last-digit_no_plus word (spells-decimal version within).0 (decimal_nonempty version (omega (arith, within))))
    ∙ ap (option_map Exactly) (number-decimal version within)
seen-back (Since version) within =
    let word = decimal version in
    let size : length (word ++ codes "+") - 1 ≡ length word = let all = length-append word (codes "+") in omega (arith, all) in
    ap (λ (n : ℕ). if same_text (drop n (word ++ codes "+")) (codes "+") then option_map Since (number_in (take n (word ++ codes "+"))) else option_map Exactly (number_in (word ++ codes "+"))) size
    ∙ ap (λ (l : List ℕ). if same_text l (codes "+") then option_map Since (number_in (take (length word) (word ++ codes "+"))) else option_map Exactly (number_in (word ++ codes "+"))) (drop_at word (codes "+") (length word) refl)
    ∙ ap (λ (l : List ℕ). option_map Since (number_in l)) (take_at word (codes "+") (length word) refl)
    ∙ ap (option_map Since) (number-decimal version within)

pub first-seen : (seen : Seen) (rest : List ℕ) → IsLawfulSeen seen → IsRest rest → first_seen (32 ∷ (seen_text seen ++ rest)) ≡ Some seen
first-seen seen rest lawful none = ap (option_and_then seen_in) (first-word (seen_text seen) rest (word-seen seen lawful) none) ∙ seen-back seen lawful
