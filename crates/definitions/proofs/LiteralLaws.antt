-- Each literal fits a word of 60 bits.
use Rattle.std.{proofs.Common.{◌≡◌, ℕ, suc, ◌+◌, ◌-◌, ◌*◌, ◌/◌, ◌^◌, ◌<◌, ◌≤◌, Bool, true, false, List, [], ◌∷◌, ◌++◌, length, Option, None, Some, refl, sym, ap, ◌∙◌, arith, length-append}, specs.Prelude.{All, fold, unwrap_or, nat_eq, ℤ, pos, negsuc, nat_le, ◌||◌}, specs.List.{AllByRecursion, list_any}, proofs.lemmas.Nat.pow-add, proofs.lemmas.List.Elements.All-from_recursion, proofs.lemmas.List.Quantifiers.position-Some, proofs.lemmas.Bool.leb-true, proofs.Math.Nat.{mul-le-mul_right, mul-lt-mul_of_pos_right}, proofs.Math.Pow.pow_mono, proofs.lemmas.List.length-replicate}
use Rattle.definitions.{specs.Characters.{characters, display_code_of}, specs.CountedItems.{CountedItem, bits_needed}, specs.Symbols.{Number, Value, TooGreat}, specs.Expressions.{Sign, Literal, OfNumber, OfCountedItem}, specs.Forms.characters_number, specs.Coding.{fits, coded, coded_in, counted_item_in, counted_item_bits, at_left, justified, blanks}, specs.Literals.{literal_word, literal_number_bits, signed_number, most_literals, with_word, with_literals, literal_words, operand_literals}, specs.Settled.Settled, specs.declared.item_letter.ItemLetter.ItemLetter, specs.declared.item_letter.ItemLetter.TheVariants.{H, A, L, R, C}, proofs.WordLaws.{pow_positive, picked_cond}}

-- a coded value is below the power
pub coded-below : (width : ℕ) (value : ℤ) → fits width value ≡ true → coded width value < 2 ^ width
coded-below width (pos n) e = let p = pow_positive width in let small : n ≤ 2 ^ width - 1 = leb-true n (2 ^ width - 1) e in omega arith
coded-below width (negsuc n) e = let p = pow_positive width in omega arith

coded_in-below : (width : ℕ) (value : ℤ) (b : Bool) → fits width value ≡ b → unwrap_or (coded_in width value) 0 < 2 ^ width
coded_in-below width value true e = rw e (coded-below width value e)
coded_in-below width value false e = rw e (pow_positive width)

-- a display code, or 0 where there is none, is below 64
code_below : (c : ℕ) (found : Option ℕ) → display_code_of c ≡ found → unwrap_or found 0 < 64
code_below c None e = omega arith
code_below c (Some code) e = (position-Some (λ d. nat_eq d c) characters code 0 e).0

abbrev step : ℕ → ℕ → ℕ
step value c = value * 64 + unwrap_or (display_code_of c) 0

-- six bits more for each character
six_more : (n : ℕ) → 2 ^ (6 * suc n) ≡ 2 ^ (6 * n) * 64
six_more n = ap (λ k. 2 ^ k) (omega arith) ∙ pow-add 2 (6 * n) 6

grown : (a d power : ℕ) → d < 64 → (a * 64 + d + 1) * power ≤ (a + 1) * (power * 64)
grown a d power small = let h : a * 64 + d + 1 ≤ a * 64 + 64 = omega arith in omega (arith, mul-le-mul_right power h)

folded_below : (a : ℕ) (cs : List ℕ) → fold step a cs < (a + 1) * 2 ^ (6 * length cs)
folded_below a [] = omega arith
folded_below a (c ∷ cs) =
    let d = unwrap_or (display_code_of c) 0 in
    let small : d < 64 = code_below c (display_code_of c) refl in
    let rest : fold step (a * 64 + d) cs < (a * 64 + d + 1) * 2 ^ (6 * length cs) = folded_below (a * 64 + d) cs in
    let more : (a * 64 + d + 1) * 2 ^ (6 * length cs) ≤ (a + 1) * (2 ^ (6 * length cs) * 64) = grown a d (2 ^ (6 * length cs)) small in
    rw (six_more (length cs)) (omega arith)

-- an item's number has six bits a character
pub characters_number-below : (cs : List ℕ) → characters_number cs < 2 ^ (6 * length cs)
characters_number-below cs = let h = folded_below 0 cs in omega arith

-- characters that fill six bits each, and then zero bits
shifted_below : (cs : List ℕ) (bits more : ℕ) → 6 * length cs + more ≡ bits → characters_number cs * 2 ^ more < 2 ^ bits
shifted_below cs bits more e =
    let split : 2 ^ bits ≡ 2 ^ (6 * length cs) * 2 ^ more = ap (λ k. 2 ^ k) (sym e) ∙ pow-add 2 (6 * length cs) more in
    rw split (mul-lt-mul_of_pos_right (characters_number-below cs) (pow_positive more))

pub right_below : (cs : List ℕ) (bits : ℕ) → 6 * length cs ≤ bits → characters_number cs < 2 ^ bits
right_below cs bits h = let below = characters_number-below cs in let up : 2 ^ (6 * length cs) ≤ 2 ^ bits = pow_mono h in omega arith

-- characters at the left of a field that has room for them
left_below : (width : ℕ) (cs : List ℕ) → 6 * length cs ≤ width → at_left width cs < 2 ^ width
left_below width cs room = shifted_below cs width (width - 6 * length cs) (omega arith)

pub filled_length : (cs : List ℕ) (count : ℕ) → length cs ≤ count → length (cs ++ blanks (count - length cs)) ≡ count
filled_length cs count h = length-append cs (blanks (count - length cs)) ∙ ap (λ n. length cs + n) (length-replicate (count - length cs) 32) ∙ (omega arith)

led_length : (cs : List ℕ) (count : ℕ) → length cs ≤ count → length (blanks (count - length cs) ++ cs) ≡ count
led_length cs count h = length-append (blanks (count - length cs)) cs ∙ ap (λ n. n + length cs) (length-replicate (count - length cs) 32) ∙ (omega arith)

-- the five ways that characters stand in a field that has room for them
justified-below : (letter : ItemLetter) (width : ℕ) (cs : List ℕ) → length cs ≤ width / 6 → justified letter width cs < 2 ^ width
justified-below H width cs few = left_below width (cs ++ blanks (width / 6 - length cs)) (omega (arith, filled_length cs (width / 6) few))
justified-below A width cs few = right_below (blanks (width / 6 - length cs) ++ cs) width (omega (arith, led_length cs (width / 6) few))
justified-below L width cs few = left_below width cs (omega arith)
justified-below R width cs few = right_below cs width (omega arith)
justified-below C width cs few = left_below width cs (omega arith)

-- an item that stands in a field
pub counted_item_bits-below : (width : ℕ) (item : CountedItem) → 6 * length item.characters ≤ 6 * (width / 6) → counted_item_bits width item < 2 ^ width
counted_item_bits-below width item room = justified-below item.letter width item.characters (omega arith)

-- an item needs the bits of its characters, or more
pub needed_more : (item : CountedItem) → 6 * length item.characters ≤ bits_needed item
needed_more item = omega arith

counted_item_in-below : (width : ℕ) (item : CountedItem) (b : Bool) → nat_le (bits_needed item) (6 * (width / 6)) ≡ b → unwrap_or (counted_item_in width item) 0 < 2 ^ width
counted_item_in-below width item true e = rw e (counted_item_bits-below width item (let h = leb-true (bits_needed item) (6 * (width / 6)) e in let n = needed_more item in omega arith))
counted_item_in-below width item false e = rw e (pow_positive width)

literal_number_bits-below : (sign : Sign) (number : Number) → literal_number_bits sign number < 2 ^ 60
literal_number_bits-below sign (Value n) = coded_in-below 60 (signed_number sign n) (fits 60 (signed_number sign n)) refl
literal_number_bits-below sign TooGreat = pow_positive 60

-- a literal's word fits
pub literal_word-below : (literal : Literal) → literal_word literal < 2 ^ 60
literal_word-below (OfNumber sign number) = literal_number_bits-below sign number
literal_word-below (OfCountedItem item) = counted_item_in-below 60 item (nat_le (bits_needed item) (6 * (60 / 6))) refl

abbrev AreWords : List ℕ → Type 0
AreWords words = AllByRecursion (λ word. word < 2 ^ 60) words

push_word : (words : List ℕ) (word : ℕ) → AreWords words → word < 2 ^ 60 → AreWords (words ++ word ∷ [])
push_word [] word h k = (k, tt)
push_word (w ∷ ws) word h k = (h.0, push_word ws word h.1 k)

with_word-below : (word : ℕ) (words : List ℕ) → AreWords words → word < 2 ^ 60 → AreWords (with_word word words)
with_word-below word words h k = picked_cond AreWords (list_any (λ other. nat_eq other word) words || nat_le most_literals (length words)) words (words ++ word ∷ []) h (push_word words word h k)

with_literals-below : (literals : List Literal) (words : List ℕ) → AreWords words → AreWords (with_literals literals words)
with_literals-below [] words h = h
with_literals-below (literal ∷ literals) words h = with_literals-below literals (with_word (literal_word literal) words) (with_word-below (literal_word literal) words h (literal_word-below literal))

literal_words-by_recursion : (settled : List Settled) → AreWords (literal_words settled)
literal_words-by_recursion [] = tt
literal_words-by_recursion (latest ∷ earlier) = with_literals-below (operand_literals latest.read.operand) (literal_words earlier) (literal_words-by_recursion earlier)

-- each literal fits a word
pub literal_words-below : (settled : List Settled) → All (λ word. word < 2 ^ 60) (literal_words settled)
literal_words-below settled = All-from_recursion _ (literal_words settled) (literal_words-by_recursion settled)
