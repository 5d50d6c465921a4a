-- Numbers of characters: one character more, characters in places, and the words of a cut.
use Rattle.std.{proofs.Common.{◌≡◌, ℕ, zero, suc, ◌+◌, ◌-◌, ◌*◌, ◌/◌, ◌%◌, ◌^◌, ◌<◌, ◌≤◌, Bool, true, false, cond, List, [], ◌∷◌, ◌++◌, Some, length, take, drop, get_or, replicate, refl, sym, ap, ◌∙◌, inl, inr, arith, length-append, subst}, specs.Prelude.{fold, unwrap_or}, proofs.lemmas.List.{take_more, get_or-drop, length-drop, length-replicate, take-append-drop, length-take-le, length-take, get_or_append_left, get_or_at, take_all, drop-take, take-take}, proofs.lemmas.List.Sums.fold-append, proofs.lemmas.Bool.Decides.eqb_tells, proofs.lemmas.Bool.{cases_Bool, le-leb}, proofs.lemmas.Nat.{pow-add, div-mul-add, mod-mul-add}, proofs.Math.Nat.{mod-eq-sub-mul-div, mul-le-mul_right, mul-lt-mul_of_pos_right}, proofs.Math.Pow.pow_mono}
use Rattle.definitions.{specs.Characters.display_code_of, specs.CountedItems.{CountedItem, bits_needed}, specs.Forms.characters_number, specs.Coding.{at_left, blanks, counted_item_bits, counted_item_in, justified, words_needed}, specs.Kinds.word_bits, specs.declared.deck_kind.DeckKind.DeckKind, specs.declared.deck_kind.DeckKind.TheVariants.{Rel, Abs, Periph}, specs.declared.item_letter.ItemLetter.ItemLetter, specs.declared.item_letter.ItemLetter.TheVariants.{H, A, L, R, C}, specs.Words.cut, proofs.WordLaws.pow_positive, proofs.LiteralLaws.{characters_number-below, filled_length}}
use Rattle.expr_forms.specs.Joins.CodedItems.{in_places, is_at_end, filler}

abbrev pub code_or_zero : ℕ → ℕ
code_or_zero c = unwrap_or (display_code_of c) 0

abbrev pub step : ℕ → ℕ → ℕ
step value c = value * 64 + code_or_zero c

-- one character more
pub characters_number-more : (cs : List ℕ) (i : ℕ) → i < length cs →
    characters_number (take (i + 1) cs) ≡ characters_number (take i cs) * 64 + code_or_zero (get_or cs i 0)
characters_number-more cs i below = ap characters_number (take_more cs i 0 below) ∙ fold-append step 0 (take i cs) (get_or cs i 0 ∷ [])

-- the same behind other characters
pub characters_number-more_from : (cs : List ℕ) (from place : ℕ) → from ≤ place → place < length cs →
    characters_number (take (place + 1 - from) (drop from cs)) ≡ characters_number (take (place - from) (drop from cs)) * 64 + code_or_zero (get_or cs place 0)
characters_number-more_from cs from place behind below =
    let e : place + 1 - from ≡ place - from + 1 = omega arith in
    let there : from + (place - from) ≡ place = omega arith in
    ap (λ n. characters_number (take n (drop from cs))) e
    ∙ characters_number-more (drop from cs) (place - from) (omega (arith, length-drop from cs))
    ∙ ap (λ c. characters_number (take (place - from) (drop from cs)) * 64 + code_or_zero c) (get_or-drop from cs (place - from) 0 ∙ ap (λ n. get_or cs n 0) there)

-- both texts of a choice have this length
length-cond : (b : Bool) (xs ys : List ℕ) (n : ℕ) → length xs ≡ n → length ys ≡ n → length (cond b xs ys) ≡ n
length-cond true xs ys n e f = e
length-cond false xs ys n e f = f

-- as many characters as places
pub length-in_places : (places : ℕ) (item : CountedItem) → length item.characters ≤ places → length (in_places places item) ≡ places
length-in_places places item room =
    let others = replicate (places - length item.characters) (filler item.letter) in
    let size : length others ≡ places - length item.characters = length-replicate (places - length item.characters) (filler item.letter) in
    length-cond (is_at_end item.letter) (others ++ item.characters) (item.characters ++ others) places
    (omega (arith, length-append others item.characters)) (omega (arith, length-append item.characters others))

-- the characters in front are worth as many places more as there are behind them
folded : (a : ℕ) (cs : List ℕ) → fold step a cs ≡ a * 2 ^ (6 * length cs) + fold step 0 cs
folded a [] = omega arith
folded a (c ∷ cs) =
    let d = code_or_zero c in
    let here : fold step (a * 64 + d) cs ≡ (a * 64 + d) * 2 ^ (6 * length cs) + fold step 0 cs = folded (a * 64 + d) cs in
    let first : fold step (0 * 64 + d) cs ≡ (0 * 64 + d) * 2 ^ (6 * length cs) + fold step 0 cs = folded (0 * 64 + d) cs in
    let more : 2 ^ (6 * suc (length cs)) ≡ 2 ^ (6 * length cs) * 64 = ap (λ k. 2 ^ k) (let e : 6 * suc (length cs) ≡ 6 * length cs + 6 = omega arith in e) ∙ pow-add 2 (6 * length cs) 6 in
    rw more (omega arith)

characters_number-append : (xs ys : List ℕ) → characters_number (xs ++ ys) ≡ characters_number xs * 2 ^ (6 * length ys) + characters_number ys
characters_number-append xs ys = fold-append step 0 xs ys ∙ folded (characters_number xs) ys

-- characters of code 0 are zero bits
zeros : (n : ℕ) → characters_number (replicate n 58) ≡ 0
zeros zero = refl
zeros (suc n) = zeros n

before_zeros : (cs : List ℕ) (n : ℕ) → characters_number (cs ++ replicate n 58) ≡ characters_number cs * 2 ^ (6 * n)
before_zeros cs n =
    let e = characters_number-append cs (replicate n 58) in
    let e' : characters_number (cs ++ replicate n 58) ≡ characters_number cs * 2 ^ (6 * n) + characters_number (replicate n 58) = rw length-replicate at e in
    let z = zeros n in
    omega arith

behind_zeros : (n : ℕ) (cs : List ℕ) → characters_number (replicate n 58 ++ cs) ≡ characters_number cs
behind_zeros n cs = characters_number-append (replicate n 58) cs ∙ rw (zeros n) (omega arith)

-- an item that stands at the end of a field is the number of its places
abbrev EndsField : ℕ → List ℕ → ItemLetter → Type 0
EndsField width cs letter = justified letter width cs ≡ characters_number (in_places (width / 6) (record { letter = letter; characters = cs }))

-- one that stands in front has behind it the bits that are no place
abbrev BeginsField : ℕ → List ℕ → ItemLetter → Type 0
BeginsField width cs letter = justified letter width cs ≡ characters_number (in_places (width / 6) (record { letter = letter; characters = cs })) * 2 ^ (width % 6)

left_bits : (width : ℕ) → width - 6 * (width / 6) ≡ width % 6
left_bits width = sym (mod-eq-sub-mul-div width 6)

-- a text in front, and zero bits in all other places and behind them
shifted : (width : ℕ) (cs : List ℕ) → length cs ≤ width / 6 →
    characters_number cs * 2 ^ (width - 6 * length cs) ≡ characters_number (cs ++ replicate (width / 6 - length cs) 58) * 2 ^ (width % 6)
shifted width cs room =
    let n = width / 6 - length cs in
    let left = left_bits width in
    let within : 6 * (width / 6) ≤ width = omega arith in
    let bits : width - 6 * length cs ≡ 6 * n + width % 6 = omega arith in
    ap (λ k. characters_number cs * 2 ^ k) bits ∙ ap (λ k. characters_number cs * k) (pow-add 2 (6 * n) (width % 6))
    ∙ (let e = before_zeros cs n in rw e (omega arith))

-- characters that fill all places
filled : (width : ℕ) (cs : List ℕ) → length cs ≤ width / 6 → at_left width (cs ++ blanks (width / 6 - length cs)) ≡ characters_number (cs ++ blanks (width / 6 - length cs)) * 2 ^ (width % 6)
filled width cs room =
    ap (λ n. characters_number (cs ++ blanks (width / 6 - length cs)) * 2 ^ (width - 6 * n)) (filled_length cs (width / 6) room)
    ∙ ap (λ k. characters_number (cs ++ blanks (width / 6 - length cs)) * 2 ^ k) (left_bits width)

bits-by_letter : (width : ℕ) (cs : List ℕ) (letter : ItemLetter) → length cs ≤ width / 6 → cond (is_at_end letter) (EndsField width cs letter) (BeginsField width cs letter)
bits-by_letter width cs H room = filled width cs room
bits-by_letter width cs A room = refl
bits-by_letter width cs L room = shifted width cs room
bits-by_letter width cs R room = sym (behind_zeros (width / 6 - length cs) cs)
bits-by_letter width cs C room = shifted width cs room

pub counted_item_bits-at_end : (width : ℕ) (item : CountedItem) → length item.characters ≤ width / 6 → is_at_end item.letter ≡ true →
    counted_item_bits width item ≡ characters_number (in_places (width / 6) item)
counted_item_bits-at_end width item room e =
    let P = λ (b : Bool). cond b (EndsField width item.characters item.letter) (BeginsField width item.characters item.letter) in
    subst P e (bits-by_letter width item.characters item.letter room)

pub counted_item_bits-in_front : (width : ℕ) (item : CountedItem) → length item.characters ≤ width / 6 → is_at_end item.letter ≡ false →
    counted_item_bits width item ≡ characters_number (in_places (width / 6) item) * 2 ^ (width % 6)
counted_item_bits-in_front width item room e =
    let P = λ (b : Bool). cond b (EndsField width item.characters item.letter) (BeginsField width item.characters item.letter) in
    subst P e (bits-by_letter width item.characters item.letter room)

-- what lies within the front of a list
within_front : (n from end : ℕ) (cs : List ℕ) → from + n ≤ end → take n (drop from (take end cs)) ≡ take n (drop from cs)
within_front n from end cs h =
    let split : from + (end - from) ≡ end = omega arith in
    ap (λ m. take n (drop from (take m cs))) (sym split)
    ∙ ap (λ l. take n l) (drop-take from (end - from) cs)
    ∙ take-take n (end - from) (drop from cs) (omega arith)

-- a width of whole places leaves no bits
pub counted_item_bits-whole : (places : ℕ) (item : CountedItem) → length item.characters ≤ places →
    counted_item_bits (6 * places) item ≡ characters_number (in_places places item)
counted_item_bits-whole places item room =
    let count : 6 * places / 6 ≡ places = omega arith in
    let none : 6 * places % 6 ≡ 0 = omega arith in
    let room' : length item.characters ≤ 6 * places / 6 = omega arith in
    elim (cases_Bool (is_at_end item.letter)) [
      | inl h ↦ counted_item_bits-at_end (6 * places) item room' h ∙ ap (λ n. characters_number (in_places n item)) count
      | inr h ↦ counted_item_bits-in_front (6 * places) item room' h ∙ rw (none, count) (omega arith)
    ]

length_cut : (width words number : ℕ) → length (cut width words number) ≡ words
length_cut width zero number = refl
length_cut width (suc words) number = omega (arith, length-append (cut width words (number / 2 ^ width)) (number % 2 ^ width ∷ []), length_cut width words (number / 2 ^ width))

-- each word of a cut is the number of its own characters
pub get_or-cut : (each words : ℕ) (cs : List ℕ) (k : ℕ) → length cs ≡ words * each → k < words →
    get_or (cut (6 * each) words (characters_number cs)) k 0 ≡ characters_number (take each (drop (k * each) cs))
get_or-cut each zero cs k e below = absurd (omega arith)
get_or-cut each (suc words) cs k e below =
    let front = take (words * each) cs in
    let last = drop (words * each) cs in
    let size : length last ≡ each = omega (arith, length-drop (words * each) cs) in
    let within : words * each ≤ length cs = omega arith in
    let size' : length front ≡ words * each = length-take-le (words * each) cs within in
    let whole : characters_number cs ≡ characters_number front * 2 ^ (6 * each) + characters_number last =
    ap characters_number (sym (take-append-drop (words * each) cs)) ∙ (let f = characters_number-append front last in rw size at f) in
    let small : characters_number last < 2 ^ (6 * each) = let b = characters_number-below last in rw size at b in
    let high : characters_number cs / 2 ^ (6 * each) ≡ characters_number front = ap (λ n. n / 2 ^ (6 * each)) whole ∙ div-mul-add (characters_number front) (2 ^ (6 * each)) (characters_number last) small in
    let low : characters_number cs % 2 ^ (6 * each) ≡ characters_number last = ap (λ n. n % 2 ^ (6 * each)) whole ∙ mod-mul-add (characters_number front) (2 ^ (6 * each)) (characters_number last) small in
    let count = length_cut (6 * each) words (characters_number cs / 2 ^ (6 * each)) in
    elim (eqb_tells k words) [
      | inl h ↦
          get_or_at (cut (6 * each) words (characters_number cs / 2 ^ (6 * each))) (characters_number cs % 2 ^ (6 * each)) [] 0 k (count ∙ sym h.1)
          ∙ low ∙ ap characters_number (sym (take_all each last (let q : length last ≤ each = omega arith in q)))
          ∙ ap (λ n. characters_number (take each (drop (n * each) cs))) (sym h.1)
      | inr h ↦
          let other : k < words = let not_same = h.1 in omega arith in
          let room : k * each + each ≤ words * each = omega (arith, mul-le-mul_right each (let q : suc k ≤ words = omega arith in q)) in
          get_or_append_left (cut (6 * each) words (characters_number cs / 2 ^ (6 * each))) (characters_number cs % 2 ^ (6 * each) ∷ []) 0 k (omega arith)
          ∙ ap (λ n. get_or (cut (6 * each) words n) k 0) high
          ∙ get_or-cut each words front k size' other
          ∙ ap characters_number (within_front each (k * each) (words * each) cs room)
    ]

-- a word of either deck is so many characters
pub word_bits-characters : (kind : DeckKind) → word_bits kind ≡ 6 * (word_bits kind / 6)
word_bits-characters Rel = refl
word_bits-characters Abs = refl
word_bits-characters Periph = refl

pub word_bits-few : (kind : DeckKind) → word_bits kind / 6 ≤ 10
word_bits-few Rel = omega arith
word_bits-few Abs = omega arith
word_bits-few Periph = omega arith

-- the words that an item needs have room for its characters
pub words_needed-room : (kind : DeckKind) (item : CountedItem) → length item.characters ≤ words_needed (word_bits kind) item * (word_bits kind / 6)
words_needed-room Rel item = omega arith
words_needed-room Abs item = omega arith
words_needed-room Periph item = omega arith

-- a word of an item is the number of the places that it takes
word-of_item : (bits each words index : ℕ) (item : CountedItem) → bits ≡ 6 * each → length item.characters ≤ words * each → index < words →
    get_or (cut bits words (counted_item_bits (words * bits) item)) index 0 ≡ characters_number (take each (drop (index * each) (in_places (words * each) item)))
word-of_item bits each words index item e room below =
    let whole : words * bits ≡ 6 * (words * each) = ap (λ n. words * n) e ∙ omega arith in
    ap (λ n. get_or (cut n words (counted_item_bits (words * bits) item)) index 0) e
    ∙ ap (λ n. get_or (cut (6 * each) words (counted_item_bits n item)) index 0) whole
    ∙ ap (λ n. get_or (cut (6 * each) words n) index 0) (counted_item_bits-whole (words * each) item room)
    ∙ get_or-cut each words (in_places (words * each) item) index (length-in_places (words * each) item room) below

pub counted_item_word : (kind : DeckKind) (index : ℕ) (item : CountedItem) → index < words_needed (word_bits kind) item →
    let words = words_needed (word_bits kind) item in
    let each = word_bits kind / 6 in
    get_or (cut (word_bits kind) words (counted_item_bits (words * word_bits kind) item)) index 0 ≡ characters_number (take each (drop (index * each) (in_places (words * each) item)))
counted_item_word kind index item below =
    word-of_item (word_bits kind) (word_bits kind / 6) (words_needed (word_bits kind) item) index item (word_bits-characters kind) (words_needed-room kind item) below

-- an item that has room takes no more characters than places
needed-room : (places : ℕ) (item : CountedItem) → bits_needed item ≤ 6 * places → length item.characters ≤ places
needed-room places item room = omega arith

all_places : (places : ℕ) (item : CountedItem) → length item.characters ≤ places → take places (in_places places item) ≡ in_places places item
all_places places item room = take_all places (in_places places item) (let size = length-in_places places item room in omega arith)

-- an item at the end of a field that has room for it
pub counted_item_in-at_end : (width : ℕ) (item : CountedItem) → bits_needed item ≤ 6 * (width / 6) → is_at_end item.letter ≡ true →
    counted_item_in width item ≡ Some (characters_number (take (width / 6) (in_places (width / 6) item)))
counted_item_in-at_end width item room end =
    let fits = needed-room (width / 6) item room in
    rw (le-leb (bits_needed item) (6 * (width / 6)) room)
    (ap Some (counted_item_bits-at_end width item fits end ∙ ap characters_number (sym (all_places (width / 6) item fits))))

-- an item in front of a field that has room for it
pub counted_item_in-in_front : (width : ℕ) (item : CountedItem) → bits_needed item ≤ 6 * (width / 6) → is_at_end item.letter ≡ false →
    counted_item_in width item ≡ Some (characters_number (take (width / 6) (in_places (width / 6) item)) * 2 ^ (width % 6))
counted_item_in-in_front width item room front =
    let fits = needed-room (width / 6) item room in
    rw (le-leb (bits_needed item) (6 * (width / 6)) room)
    (ap Some (counted_item_bits-in_front width item fits front ∙ ap (λ cs. characters_number cs * 2 ^ (width % 6)) (sym (all_places (width / 6) item fits))))

-- what stands in front of a field fits it
pub shifted-small : (width : ℕ) (cs : List ℕ) → width ≤ 60 → characters_number (take (width / 6) cs) * 2 ^ (width % 6) < 2 ^ 64
shifted-small width cs few =
    let front = take (width / 6) cs in
    let size : length front ≤ width / 6 = omega (arith, length-take (width / 6) cs) in
    let below = characters_number-below front in
    let up : 2 ^ (6 * length front) ≤ 2 ^ (6 * (width / 6)) = pow_mono (let q : 6 * length front ≤ 6 * (width / 6) = omega arith in q) in
    let below' : characters_number front < 2 ^ (6 * (width / 6)) = omega arith in
    let times = mul-lt-mul_of_pos_right below' (pow_positive (width % 6)) in
    let split : 6 * (width / 6) + width % 6 ≡ width = omega arith in
    let whole : 2 ^ (6 * (width / 6)) * 2 ^ (width % 6) ≡ 2 ^ width = sym (pow-add 2 (6 * (width / 6)) (width % 6)) ∙ ap (λ k. 2 ^ k) split in
    let most : 2 ^ width ≤ 2 ^ 60 = pow_mono few in
    omega arith
