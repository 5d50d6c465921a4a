-- What is packed comes back.
use Rattle.std.proofs.{Common.{◌≡◌, ℕ, zero, suc, ◌+◌, ◌-◌, ◌*◌, ◌/◌, ◌%◌, ◌^◌, ◌<◌, ◌≤◌, List, [], ◌∷◌, ◌++◌, length, get_or, All, refl, sym, ap, ap₂, subst, ◌∙◌, arith, length-append, true, false, nat_lt}, Math.Nat.mul_comm, lemmas.Bool.{ltb-true, ltb-false}, lemmas.Nat.{pow-add, shr-shr, shr_below, div-mul-add, mod-mul-add, mod_below, mul-add-lt, div-add-mod'}, lemmas.List.{get_or_append_left, get_or_push, get_or_default, same_lists}, lemmas.List.Elements.{All-get_or, All-push}}
use Rattle.word_packing.specs.Packing.{digit_at, number_of, firsts, regrouped_at, packed, unpacked, Fit}

-- so many items are so many
pub length-firsts : (item : ℕ → ℕ) (count : ℕ) → length (firsts item count) ≡ count
length-firsts item zero = refl
length-firsts item (suc count) = length-append (firsts item count) (item count ∷ []) ∙ (let before = length-firsts item count in omega (arith, before))

-- the item at a place
pub get_or-firsts : (item : ℕ → ℕ) (count place d : ℕ) → place < count → get_or (firsts item count) place d ≡ item place
get_or-firsts item zero place d below = omega (arith, below)
get_or-firsts item (suc count) place d below = elim (nat_lt place count) as (λ t. nat_lt place count ≡ t → get_or (firsts item count ++ item count ∷ []) place d ≡ item place) [
  | true ↦ λ e.
      let less : place < count = ltb-true place count e in
      let within : place < length (firsts item count) = (let l = length-firsts item count in omega (arith, l, less)) in
      get_or_append_left (firsts item count) (item count ∷ []) d place within ∙ get_or-firsts item count place d less
  | false ↦ λ e.
      let behind : count ≤ place = ltb-false place count e in
      let is : count ≡ place = omega (arith, behind, below) in
      get_or_push (firsts item count) (item count) d place (length-firsts item count ∙ is) ∙ ap item is
] refl

-- a digit is below 16
digit-below : (digits : ℕ) (items : List ℕ) (place : ℕ) → digit_at digits items place < 16
digit-below digits items place = mod_below (get_or items (place / digits) 0 / 2 ^ (4 * (digits - 1 - place % digits))) 16 (omega arith)

-- the two digits of a byte
upper : (high low : ℕ) → high < 16 → low < 16 → ((0 * 16 + high) * 16 + low) / 16 % 16 ≡ high
upper high low h l = omega (arith, h, l)

lower : (high low : ℕ) → low < 16 → ((0 * 16 + high) * 16 + low) / 1 % 16 ≡ low
lower high low l = omega (arith, l)

split : (digit : ℕ → ℕ) → ((k : ℕ) → digit k < 16) → (place byte at : ℕ) → byte * 2 + at ≡ place → at < 2 →
    number_of (λ k. digit (byte * 2 + k)) 2 / 2 ^ (4 * (2 - 1 - at)) % 16 ≡ digit place
split digit small place byte zero is below = upper (digit (byte * 2 + 0)) (digit (byte * 2 + 1)) (small (byte * 2 + 0)) (small (byte * 2 + 1)) ∙ ap digit is
split digit small place byte (suc zero) is below = lower (digit (byte * 2 + 0)) (digit (byte * 2 + 1)) (small (byte * 2 + 1)) ∙ ap digit is
split digit small place byte (suc (suc at)) is below = omega (arith, below)

-- the digits of bytes that are made of digits are those
pub digit_at-packed : (digits : ℕ) (words : List ℕ) (count place : ℕ) → place < count * 2 →
    digit_at 2 (firsts (regrouped_at digits 2 words) count) place ≡ digit_at digits words place
digit_at-packed digits words count place below =
    let byte : place / 2 < count = omega (arith, below) in
    let is : place / 2 * 2 + place % 2 ≡ place = div-add-mod' place 2 in
    ap (λ b. b / 2 ^ (4 * (2 - 1 - place % 2)) % 16) (get_or-firsts (regrouped_at digits 2 words) count (place / 2) 0 byte)
    ∙ split (digit_at digits words) (digit-below digits words) place (place / 2) (place % 2) is (mod_below place 2 (omega arith))

-- the number that the first digits of a number make is the number without its other digits
pub number_of-digits : (digit : ℕ → ℕ) (number most count : ℕ) → count ≤ most → number < 2 ^ (4 * most) →
    ((k : ℕ) → k < count → digit k ≡ number / 2 ^ (4 * (most - 1 - k)) % 16) → number_of digit count ≡ number / 2 ^ (4 * (most - count))
number_of-digits digit number most zero within small each =
    let e : 4 * most ≡ 0 + 4 * (most - 0) = omega arith in
    let none : number / 2 ^ (4 * (most - 0)) < 1 = shr_below number 0 (4 * (most - 0)) (subst (λ (k : ℕ). number < 2 ^ k) e small) in
    omega (arith, none)
number_of-digits digit number most (suc count) within small each =
    let fewer : count ≤ most = omega (arith, within) in
    let front : number_of digit count ≡ number / 2 ^ (4 * (most - count)) = number_of-digits digit number most count fewer small (λ k below. each k (omega (arith, below))) in
    let low : 4 * (most - suc count) + 4 ≡ 4 * (most - count) = omega (arith, within) in
    let high : number / 2 ^ (4 * (most - suc count)) / 2 ^ 4 ≡ number / 2 ^ (4 * (most - count)) = shr-shr number (4 * (most - suc count)) 4 ∙ ap (λ (k : ℕ). number / 2 ^ k) low in
    let same : most - 1 - count ≡ most - suc count = omega (arith, within) in
    let last : digit count ≡ number / 2 ^ (4 * (most - suc count)) % 16 = each count (omega arith) ∙ ap (λ (k : ℕ). number / 2 ^ (4 * k) % 16) same in
    ap₂ (λ a b. a * 16 + b) (front ∙ sym high) last ∙ div-add-mod' (number / 2 ^ (4 * (most - suc count))) 16

-- a digit of a word, found by its place in all words
digit_at-place : (digits : ℕ) (words : List ℕ) (word k : ℕ) → k < digits →
    digit_at digits words (word * digits + k) ≡ get_or words word 0 / 2 ^ (4 * (digits - 1 - k)) % 16
digit_at-place digits words word k below =
    ap₂ (λ q r. get_or words q 0 / 2 ^ (4 * (digits - 1 - r)) % 16) (div-mul-add word digits k below) (mod-mul-add word digits k below)

-- a place in words is one in their bytes
within-bytes : (digits count word k : ℕ) → word < count → k < digits → word * digits + k < (count * digits + 1) / 2 * 2
within-bytes digits count word k some below =
    let inside : word * digits + k < count * digits = subst (λ (n : ℕ). word * digits + k < n) (mul_comm digits count) (mul-add-lt word digits k count some below) in
    omega (arith, inside)

-- the whole number is left
whole : (number digits : ℕ) → number / 2 ^ (4 * (digits - digits)) ≡ number
whole number digits = ap (λ (k : ℕ). number / 2 ^ k) (let e : 4 * (digits - digits) ≡ 0 = omega arith in e) ∙ (let e : number / 1 ≡ number = omega arith in e)

-- a word comes back
word-back : (digits : ℕ) (words : List ℕ) (word : ℕ) → Fit digits words → word < length words →
    regrouped_at 2 digits (packed digits words) word ≡ get_or words word 0
word-back digits words word fit some =
    number_of-digits (λ k. digit_at 2 (packed digits words) (word * digits + k)) (get_or words word 0) digits digits (omega arith)
    (All-get_or (λ w. w < 2 ^ (4 * digits)) words word 0 some fit)
    (λ k below. digit_at-packed digits words ((length words * digits + 1) / 2) (word * digits + k) (within-bytes digits (length words) word k some below)
    ∙ digit_at-place digits words word k below)
    ∙ whole (get_or words word 0) digits

-- all words come back
pub unpacked-packed : (digits : ℕ) (words : List ℕ) → Fit digits words → unpacked digits (length words) (packed digits words) ≡ words
unpacked-packed digits words fit =
    let item = regrouped_at 2 digits (packed digits words) in
    same_lists (firsts item (length words)) words (length-firsts item (length words)) (λ k d below.
    let some : k < length words = subst (λ (n : ℕ). k < n) (length-firsts item (length words)) below in
    get_or-firsts item (length words) k d some ∙ word-back digits words k fit some ∙ get_or_default words k 0 d some)

-- a number has no more digits than were read
number_of-below : (digit : ℕ → ℕ) → ((k : ℕ) → digit k < 16) → (count : ℕ) → number_of digit count < 2 ^ (4 * count)
number_of-below digit small zero = omega arith
number_of-below digit small (suc count) =
    let front = number_of-below digit small count in
    let last = small count in
    let more : 4 * suc count ≡ 4 * count + 4 = omega arith in
    subst (λ (n : ℕ). number_of digit count * 16 + digit count < n) (sym (ap (λ (k : ℕ). 2 ^ k) more ∙ pow-add 2 (4 * count) 4)) (omega (arith, front, last))

-- items that are small are so all together
firsts-small : (item : ℕ → ℕ) (most count : ℕ) → ((k : ℕ) → item k < most) → All (λ w. w < most) (firsts item count)
firsts-small item most zero small = λ k d below. omega (arith, below)
firsts-small item most (suc count) small = All-push (λ w. w < most) (firsts item count) (item count) (firsts-small item most count small) (small count)

-- what is taken out of bytes has no more digits than so many
pub unpacked-fit : (digits count : ℕ) (bytes : List ℕ) → Fit digits (unpacked digits count bytes)
unpacked-fit digits count bytes =
    firsts-small (regrouped_at 2 digits bytes) (2 ^ (4 * digits)) count
    (λ k. number_of-below (λ place. digit_at 2 bytes (k * digits + place)) (λ place. digit-below 2 bytes (k * digits + place)) digits)
