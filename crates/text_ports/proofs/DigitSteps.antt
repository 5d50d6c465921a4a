-- The steps of writing digits from the last one on.
use Rattle.std.proofs.{Common.{◌≡◌, ℕ, ◌+◌, ◌-◌, ◌*◌, ◌/◌, ◌%◌, ◌^◌, ◌<◌, ◌≤◌, zero, suc, List, [], ◌∷◌, ◌++◌, true, false, nat_lt, le-ltb, length, drop, take, slice_set, sym, ap, ap₂, ◌∙◌, arith, append_assoc}, Math.Nat.pow-succ', Math.Seq.{drop_at, drop-drop, length-take-le}, lemmas.List.drop-set}
use Rattle.definitions.specs.Numerals.{digits_of, decimal_in, octal_of}

-- one digit more is set
pub digits_of-step : (base : ℕ) (text : List ℕ) (left begin rest : ℕ) → begin ≤ left → left < length text →
    digits_of base (left - begin) (rest / base) ++ drop left (slice_set text left (48 + rest % base)) ≡ digits_of base (left + 1 - begin) rest ++ drop (left + 1) text
digits_of-step base text left begin rest behind room =
    ap (λ l. digits_of base (left - begin) (rest / base) ++ l) (drop-set text left (48 + rest % base) room)
    ∙ sym (append_assoc (digits_of base (left - begin) (rest / base)) ((48 + rest % base) ∷ []) (drop (left + 1) text))
    ∙ ap (λ n. digits_of base n rest ++ drop (left + 1) text) (let e : suc (left - begin) ≡ left + 1 - begin = omega arith in e)

-- two octal digits more are set
pub octal_of-step : (text pair : List ℕ) (left begin rest : ℕ) → pair ≡ octal_of 2 (rest % 64) → begin ≤ left → left ≤ length text →
    octal_of (left - begin) (rest / 64) ++ drop left (take left text ++ (pair ++ drop (left + 2 - left) (drop left text))) ≡ octal_of (left + 2 - begin) rest ++ drop (left + 2) text
octal_of-step text pair left begin rest p behind room =
    let front = octal_of (left - begin) (rest / 8 / 8) in
    let first = 48 + rest / 8 % 8 in
    let second = 48 + rest % 8 in
    let last = drop (left + 2) text in
    let two : left + (left + 2 - left) ≡ left + 2 = omega arith in
    let upper : 48 + rest % 64 / 8 % 8 ≡ first = omega arith in
    let lower : 48 + rest % 64 % 8 ≡ second = omega arith in
    let twice : rest / 64 ≡ rest / 8 / 8 = omega arith in
    let count : suc (suc (left - begin)) ≡ left + 2 - begin = omega arith in
    ap₂ (λ n l. octal_of (left - begin) n ++ l) twice
    (drop_at (take left text) _ left (length-take-le left text room)
    ∙ ap₂ (λ l r. l ++ r) (p ∙ ap₂ (λ x y. x ∷ y ∷ []) upper lower) (drop-drop (left + 2 - left) left text ∙ ap (λ m. drop m text) two))
    ∙ sym (append_assoc (front ++ first ∷ []) (second ∷ []) last ∙ append_assoc front (first ∷ []) (second ∷ last))
    ∙ ap (λ n. octal_of n rest ++ last) count

-- a number of two digits or more is not below 10
test-false : (rest : ℕ) → 10 ≤ rest → nat_lt rest 10 ≡ false
test-false rest many = le-ltb rest 10 many

-- a number of two digits or more has a digit in front of its last
pub decimal_in-more : (count rest : ℕ) → 10 ≤ rest → decimal_in (suc count) rest ≡ decimal_in count (rest / 10) ++ (48 + rest % 10) ∷ []
decimal_in-more count rest many = ap (λ t. elim t [ true ↦ (48 + rest) ∷ [] | false ↦ decimal_in count (rest / 10) ++ (48 + rest % 10) ∷ [] ]) (test-false rest many)

-- what has two digits or more needs room for two
pub room_in_front : (begin rest : ℕ) → 10 ≤ rest → rest < 10 ^ (begin + 1) → 0 < begin
room_in_front zero rest many below = omega arith
room_in_front (suc begin) rest many below = omega arith

-- a digit less needs room for one less
pub below_front : (begin rest : ℕ) → rest < 10 ^ (begin + 1) → rest / 10 < 10 ^ begin
below_front begin rest below =
    let e : begin + 1 ≡ suc begin = omega arith in
    let more : rest < 10 * 10 ^ begin = rw pow-succ' at (rw e at below) in omega arith
