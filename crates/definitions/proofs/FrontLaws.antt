-- The scanned variable field is the longest front of its text whose blanks stand in counted items.
use Rattle.std.{proofs.Common.{ℕ, zero, suc, ◌≡◌, ◌≢◌, ◌+◌, ◌-◌, ◌<◌, ◌≤◌, ◌⊎◌, inl, inr, List, [], ◌∷◌, ◌++◌, Bool, true, false, ◌&&◌, nat_le, nat_eq, length, take, drop, refl, sym, ◌∙◌, ap, ap₂, subst, arith, append_assoc, append-nil, Option, Some, None}, specs.Prelude.{take_while, if◌then◌else◌, cond}, specs.List.AllByRecursion, proofs.lemmas.Bool.{leb-true, le-leb, and_parts}, proofs.lemmas.List.{take-append-le, length-append}, proofs.lemmas.List.Sums.take_while-cons}
use Rattle.definitions.specs.{Characters.{blank, is_digit, equals}, Numerals.number_of, CountedItems.{CountedSpan, item_letter_of, counted_item_with, counted_item_behind, counted_item_at}, Pieces.{Mark, Piece, IsMark, IsCountedItem, Plain, Spot, AtStart, AtEquals, Inside, Begun, ByMark, ByCountedItem, ByOther, mark_of, begun_by, begun_by_counted_item, begun_at, spot_behind, left_of, onto_plain, onto_pieces, pieces_at}, declared.item_letter.ItemLetter.ItemLetter, Laws.Cuts.{HasNoBlank, HasBlanksInItems, IsLongestFront}}

-- the field holds no blank outside an item, and ends at such a blank or where the text ends
abbrev pub IsExtent : Spot → ℕ → List ℕ → List ℕ → Type 0
IsExtent spot left [] [] = Unit {0}
IsExtent spot zero [] (c ∷ cs) = c ≡ blank
IsExtent spot (suc left) [] (c ∷ cs) = ⊥
IsExtent spot (suc left) (c ∷ field) rest = IsExtent spot left field rest
IsExtent spot zero (c ∷ field) rest =
    (c ≢ blank) × IsExtent (spot_behind (begun_at spot c (field ++ rest))) (left_of (begun_at spot c (field ++ rest))) field rest

-- the digits in front of a text
abbrev count_text : List ℕ → List ℕ
count_text text = take_while is_digit text

-- what stands behind them
abbrev behind_count : List ℕ → List ℕ
behind_count text = drop (length (count_text text)) text

-- the digits of a text that goes on behind them stay the same when more follows
abbrev StaysSame : List ℕ → List ℕ → ℕ → List ℕ → Type 0
StaysSame xs ys c rest = (count_text (xs ++ ys) ≡ count_text xs) × (behind_count (xs ++ ys) ≡ c ∷ (rest ++ ys))

count-digit : (x : ℕ) (xs : List ℕ) → is_digit x ≡ true → count_text (x ∷ xs) ≡ x ∷ count_text xs
count-digit x xs e = take_while-cons is_digit x xs ∙ ap (λ b. cond b (x ∷ count_text xs) []) e

count-other : (x : ℕ) (xs : List ℕ) → is_digit x ≡ false → count_text (x ∷ xs) ≡ []
count-other x xs e = take_while-cons is_digit x xs ∙ ap (λ b. cond b (x ∷ count_text xs) []) e

behind-digit : (x : ℕ) (xs : List ℕ) → is_digit x ≡ true → behind_count (x ∷ xs) ≡ behind_count xs
behind-digit x xs e = ap (λ digits. drop (length digits) (x ∷ xs)) (count-digit x xs e)

behind-other : (x : ℕ) (xs : List ℕ) → is_digit x ≡ false → behind_count (x ∷ xs) ≡ x ∷ xs
behind-other x xs e = ap (λ digits. drop (length digits) (x ∷ xs)) (count-other x xs e)

stays-step : (x : ℕ) (xs ys : List ℕ) (c : ℕ) (rest : List ℕ) → (behind_count xs ≡ c ∷ rest → StaysSame xs ys c rest) → (b : Bool) → is_digit x ≡ b →
    behind_count (x ∷ xs) ≡ c ∷ rest → StaysSame (x ∷ xs) ys c rest
stays-step x xs ys c rest before true e h =
    let same = before (sym (behind-digit x xs e) ∙ h) in
    (count-digit x (xs ++ ys) e ∙ ap (λ digits. x ∷ digits) same.0 ∙ sym (count-digit x xs e), behind-digit x (xs ++ ys) e ∙ same.1)
stays-step x xs ys c rest before false e h =
    (count-other x (xs ++ ys) e ∙ sym (count-other x xs e), behind-other x (xs ++ ys) e ∙ ap (λ text. text ++ ys) (sym (behind-other x xs e) ∙ h))

stays_same : (xs ys : List ℕ) (c : ℕ) (rest : List ℕ) → behind_count xs ≡ c ∷ rest → StaysSame xs ys c rest
stays_same [] ys c rest h = cc
stays_same (x ∷ xs) ys c rest h = stays-step x xs ys c rest (stays_same xs ys c rest) (is_digit x) refl h

-- a text of digits alone has no more digits than it is long, and more text no fewer
count-all : (xs ys : List ℕ) → behind_count xs ≡ [] → length xs ≤ length (count_text (xs ++ ys))
count-all [] ys h = omega arith
count-all (x ∷ xs) ys h = step (is_digit x) refl (count-all xs ys)
  where
    step : (b : Bool) → is_digit x ≡ b → (behind_count xs ≡ [] → length xs ≤ length (count_text (xs ++ ys))) → length (x ∷ xs) ≤ length (count_text (x ∷ (xs ++ ys)))
    step true e before =
        let k = before (sym (behind-digit x xs e) ∙ h) in
        subst (λ digits. suc (length xs) ≤ length digits) (sym (count-digit x (xs ++ ys) e)) (omega arith)
    step false e before = let k : x ∷ xs ≡ [] = sym (behind-other x xs e) ∙ h in cc

-- whether a count is lawful
abbrev is_lawful : ℕ → Bool
is_lawful n = nat_le 1 n && nat_le n 100

-- the item of a letter and so many characters
abbrev span_of : ℕ → ℕ → ItemLetter → List ℕ → CountedSpan
span_of digits n letter rest = record { item = record { letter = letter; characters = take n rest }; taken = digits + 1 + n }

behind-lawful : (digits n c : ℕ) (letter : ItemLetter) (rest : List ℕ) → item_letter_of c ≡ Some letter → is_lawful n ≡ true → n ≤ length rest →
    counted_item_behind digits n (c ∷ rest) ≡ Some (span_of digits n letter rest)
behind-lawful digits n c letter rest read lawful fits =
    ap (counted_item_with digits n rest) read
    ∙ ap (λ (b : Bool). if b then Some (span_of digits n letter rest) else None) (ap₂ (λ (a b : Bool). a && b) lawful (le-leb n (length rest) fits))

-- an item that is found behind a count: its letter is read there, and the count is lawful and has its characters
abbrev IsFound : ℕ → ℕ → ℕ → List ℕ → CountedSpan → Type 0
IsFound digits n c rest s = (letter : ItemLetter) × (item_letter_of c ≡ Some letter) × (is_lawful n ≡ true) × (n ≤ length rest) × (s ≡ span_of digits n letter rest)

behind-found : (digits n c : ℕ) (rest : List ℕ) (s : CountedSpan) → counted_item_behind digits n (c ∷ rest) ≡ Some s → IsFound digits n c rest s
behind-found digits n c rest s h = by_letter (item_letter_of c) refl
  where
    by_test : (letter : ItemLetter) → item_letter_of c ≡ Some letter → (b : Bool) → (is_lawful n && nat_le n (length rest)) ≡ b →
        (if b then Some (span_of digits n letter rest) else None) ≡ Some s → IsFound digits n c rest s
    by_test letter read true e k =
        let parts = and_parts (is_lawful n) (nat_le n (length rest)) e in
        let same : s ≡ span_of digits n letter rest = cc in
        (letter, read, parts.0, leb-true n (length rest) parts.1, same)
    by_test letter read false e k = cc

    by_letter : (found : Option ItemLetter) → item_letter_of c ≡ found → IsFound digits n c rest s
    by_letter None read = let none : None ≡ Some s = sym (ap (counted_item_with digits n rest) read) ∙ h in cc
    by_letter (Some letter) read = by_test letter read (is_lawful n && nat_le n (length rest)) refl (sym (ap (counted_item_with digits n rest) read) ∙ h)

-- an item at a text, by its digits and what stands behind them
abbrev at_count : List ℕ → List ℕ → Option CountedSpan
at_count digits behind = if nat_le 1 (length digits) then counted_item_behind (length digits) (number_of 10 digits) behind else None

at_count-nil : (digits : List ℕ) → at_count digits [] ≡ None
at_count-nil digits = either (nat_le 1 (length digits))
  where
    either : (b : Bool) → (if b then counted_item_behind (length digits) (number_of 10 digits) [] else None) ≡ None
    either true = refl
    either false = refl

-- what is stated of an item that is found at a count
at_count-found : (digits : List ℕ) (c : ℕ) (rest : List ℕ) (s : CountedSpan) → at_count digits (c ∷ rest) ≡ Some s →
    (nat_le 1 (length digits) ≡ true) × IsFound (length digits) (number_of 10 digits) c rest s
at_count-found digits c rest s h = by_test (nat_le 1 (length digits)) refl h
  where
    by_test : (b : Bool) → nat_le 1 (length digits) ≡ b → (if b then counted_item_behind (length digits) (number_of 10 digits) (c ∷ rest) else None) ≡ Some s →
        (nat_le 1 (length digits) ≡ true) × IsFound (length digits) (number_of 10 digits) c rest s
    by_test true e k = (e, behind-found (length digits) (number_of 10 digits) c rest s k)
    by_test false e k = cc

at_count-lawful : (digits : List ℕ) (c : ℕ) (letter : ItemLetter) (rest : List ℕ) → nat_le 1 (length digits) ≡ true → item_letter_of c ≡ Some letter → is_lawful (number_of 10 digits) ≡ true →
    number_of 10 digits ≤ length rest → at_count digits (c ∷ rest) ≡ Some (span_of (length digits) (number_of 10 digits) letter rest)
at_count-lawful digits c letter rest some read lawful fits = rw some (behind-lawful (length digits) (number_of 10 digits) c letter rest read lawful fits)

-- the item of a text is that of a longer one
pub item-longer : (xs ys : List ℕ) (s : CountedSpan) → counted_item_at xs ≡ Some s → counted_item_at (xs ++ ys) ≡ Some s
item-longer xs ys s h = by_behind (behind_count xs) refl
  where
    by_behind : (behind : List ℕ) → behind_count xs ≡ behind → counted_item_at (xs ++ ys) ≡ Some s
    by_behind [] e =
        let none : None ≡ Some s = sym (ap (at_count (count_text xs)) e ∙ at_count-nil (count_text xs)) ∙ h in cc
    by_behind (c ∷ rest) e =
        let digits = count_text xs in
        let n = number_of 10 digits in
        let k = at_count-found digits c rest s (sym (ap (at_count digits) e) ∙ h) in
        let found = k.1 in
        let letter = found.0 in
        let same = stays_same xs ys c rest e in
        let fits : n ≤ length (rest ++ ys) = subst (λ l. n ≤ l) (sym (length-append rest ys)) (let room : n ≤ length rest = found.3 in omega arith) in
        ap₂ at_count same.0 same.1
        ∙ at_count-lawful digits c letter (rest ++ ys) k.0 found.1 found.2 fits
        ∙ ap (λ characters. Some (record { item = record { letter = letter; characters = characters }; taken = length digits + 1 + n })) (take-append-le n rest ys found.3)
        ∙ ap Some (sym found.4)

count-behind : (xs : List ℕ) (letter : ℕ) (rest : List ℕ) → behind_count xs ≡ letter ∷ rest → length xs ≡ length (count_text xs) + 1 + length rest
count-behind [] letter rest h = cc
count-behind (x ∷ xs) letter rest h = step (is_digit x) refl (count-behind xs letter rest)
  where
    step : (b : Bool) → is_digit x ≡ b → (behind_count xs ≡ letter ∷ rest → length xs ≡ length (count_text xs) + 1 + length rest) → suc (length xs) ≡ length (count_text (x ∷ xs)) + 1 + length rest
    step true e before =
        let k = before (sym (behind-digit x xs e) ∙ h) in
        subst (λ digits. suc (length xs) ≡ length digits + 1 + length rest) (sym (count-digit x xs e)) (omega arith)
    step false e before =
        let same : x ∷ xs ≡ letter ∷ rest = sym (behind-other x xs e) ∙ h in
        let tails : length xs ≡ length rest = cc in
        subst (λ digits. suc (length xs) ≡ length digits + 1 + length rest) (sym (count-other x xs e)) (omega arith)

-- an item that lies within a front of the text is the front's
pub item-front : (xs ys : List ℕ) (s : CountedSpan) → counted_item_at (xs ++ ys) ≡ Some s → s.taken ≤ length xs → counted_item_at xs ≡ Some s
item-front xs ys s h within = by_behind (behind_count xs) refl
  where
    longer : (more : List ℕ) → behind_count (xs ++ ys) ≡ more → length (count_text (xs ++ ys)) < s.taken
    longer [] e = let none : None ≡ Some s = sym (ap (at_count (count_text (xs ++ ys))) e ∙ at_count-nil (count_text (xs ++ ys))) ∙ h in cc
    longer (c ∷ rest) e =
        let k = at_count-found (count_text (xs ++ ys)) c rest s (sym (ap (at_count (count_text (xs ++ ys))) e) ∙ h) in
        let found = k.1 in
        subst (λ (span : CountedSpan). length (count_text (xs ++ ys)) < span.taken) (sym found.4) (omega arith)

    by_behind : (behind : List ℕ) → behind_count xs ≡ behind → counted_item_at xs ≡ Some s
    by_behind [] e = let all = count-all xs ys e in let more = longer (behind_count (xs ++ ys)) refl in absurd (omega arith)
    by_behind (c ∷ rest) e =
        let digits = count_text xs in
        let n = number_of 10 digits in
        let same = stays_same xs ys c rest e in
        let k = at_count-found digits c (rest ++ ys) s (sym (ap₂ at_count same.0 same.1) ∙ h) in
        let found = k.1 in
        let letter = found.0 in
        let taken : s.taken ≡ length digits + 1 + n = ap (λ (span : CountedSpan). span.taken) found.4 in
        let long = count-behind xs c rest e in
        let fits : n ≤ length rest = omega arith in
        ap (at_count digits) e
        ∙ at_count-lawful digits c letter rest k.0 found.1 found.2 fits
        ∙ ap (λ characters. Some (record { item = record { letter = letter; characters = characters }; taken = length digits + 1 + n })) (sym (take-append-le n rest ys fits))
        ∙ ap Some (sym found.4)

-- what is left of an item lies in the field, or the text ends with it
extent-left : (spot : Spot) (left : ℕ) (field rest : List ℕ) → IsExtent spot left field rest → (left ≤ length field) ⊎ (rest ≡ [])
extent-left spot left [] [] h = inr refl
extent-left spot zero [] (c ∷ cs) h = inl (omega arith)
extent-left spot (suc left) [] (c ∷ cs) h = absurd h
extent-left spot zero (c ∷ field) rest h = inl (omega arith)
extent-left spot (suc left) (c ∷ field) rest h = elim (extent-left spot left field rest h) [
  | inl k ↦ inl (omega arith)
  | inr k ↦ inr k
]

append-empty : (more less : List ℕ) → [] ≡ more ++ less → more ≡ []
append-empty [] less e = refl
append-empty (x ∷ more) less e = cc

-- whether an item that is found lies in the field, or the text ends with it
abbrev LiesWithin : Option CountedSpan → List ℕ → List ℕ → Type 0
LiesWithin None field rest = Unit {0}
LiesWithin (Some s) field rest = (s.taken - 1 ≤ length field) ⊎ (rest ≡ [])

-- the item that begins a text is found in each front of it that holds the field
item-same : (c : ℕ) (field rest more less : List ℕ) → rest ≡ more ++ less → (found : Option CountedSpan) → counted_item_at (c ∷ (field ++ rest)) ≡ found → LiesWithin found field rest →
    counted_item_at (c ∷ (field ++ more)) ≡ found
item-same c field rest more less e None h within = by_short (counted_item_at (c ∷ (field ++ more))) refl
  where
    by_short : (short : Option CountedSpan) → counted_item_at (c ∷ (field ++ more)) ≡ short → counted_item_at (c ∷ (field ++ more)) ≡ None
    by_short None k = k
    by_short (Some s) k =
        let long : counted_item_at (c ∷ ((field ++ more) ++ less)) ≡ Some s = item-longer (c ∷ (field ++ more)) less s k in
        let whole : (field ++ more) ++ less ≡ field ++ rest = append_assoc field more less ∙ ap (λ l. field ++ l) (sym e) in
        let none : None ≡ Some s = sym h ∙ ap (λ l. counted_item_at (c ∷ l)) (sym whole) ∙ long in
        cc
item-same c field rest more less e (Some s) h within = elim within [
  | inl k ↦ item-longer (c ∷ field) more s (item-front (c ∷ field) rest s h (omega arith))
  | inr k ↦ ap (λ l. counted_item_at (c ∷ (field ++ l))) (append-empty more less (sym k ∙ e) ∙ sym k) ∙ h
]

-- what begins by an item or not, at a spot where an item may begin
within-of : (c : ℕ) (field rest : List ℕ) (found : Option CountedSpan) → IsExtent (spot_behind (begun_by_counted_item c found)) (left_of (begun_by_counted_item c found)) field rest → LiesWithin found field rest
within-of c field rest None h = tt
within-of c field rest (Some s) h = extent-left Inside (s.taken - 1) field rest h

-- what begins at a character is the same in each front that holds the field
begun-same : (spot : Spot) (c : ℕ) (field rest more less : List ℕ) → rest ≡ more ++ less →
    IsExtent (spot_behind (begun_at spot c (field ++ rest))) (left_of (begun_at spot c (field ++ rest))) field rest →
    begun_at spot c (field ++ more) ≡ begun_at spot c (field ++ rest)
begun-same Inside c field rest more less e h = refl
begun-same AtEquals c field rest more less e h =
    ap (begun_by_counted_item c) (item-same c field rest more less e (counted_item_at (c ∷ (field ++ rest))) refl (within-of c field rest (counted_item_at (c ∷ (field ++ rest))) h))
begun-same AtStart c field rest more less e h = by_test (nat_eq c equals) refl
  where
    by_test : (b : Bool) → nat_eq c equals ≡ b → begun_at AtStart c (field ++ more) ≡ begun_at AtStart c (field ++ rest)
    by_test true k = rw k refl
    by_test false k =
        let inner = rw k at h in
        rw k (ap (begun_by_counted_item c) (item-same c field rest more less e (counted_item_at (c ∷ (field ++ rest))) refl (within-of c field rest (counted_item_at (c ∷ (field ++ rest))) inner)))

-- what is begun by no mark and no item is the character itself
other-mark : (c d : ℕ) (mark : Option Mark) → begun_by c mark ≡ ByOther d → c ≡ d
other-mark c d None e = cc
other-mark c d (Some mark) e = cc

other-item : (c d : ℕ) (found : Option CountedSpan) → begun_by_counted_item c found ≡ ByOther d → c ≡ d
other-item c d None e = other-mark c d (mark_of c) e
other-item c d (Some s) e = cc

other-begun : (spot : Spot) (c d : ℕ) (cs : List ℕ) → begun_at spot c cs ≡ ByOther d → c ≡ d
other-begun Inside c d cs e = other-mark c d (mark_of c) e
other-begun AtEquals c d cs e = other-item c d (counted_item_at (c ∷ cs)) e
other-begun AtStart c d cs e = by_test (nat_eq c equals) refl
  where
    by_test : (b : Bool) → nat_eq c equals ≡ b → c ≡ d
    by_test true k = let mark = rw k at e in cc
    by_test false k = other-item c d (counted_item_at (c ∷ cs)) (rw k at e)

-- pieces without a blank outside items
abbrev Blankless : List Piece → Type 0
Blankless pieces = AllByRecursion HasNoBlank pieces

plain-keeps : (c : ℕ) (pieces : List Piece) → c ≢ blank → Blankless pieces → Blankless (onto_plain c pieces)
plain-keeps c [] h k = ((h, tt), tt)
plain-keeps c (Plain cs ∷ pieces) h k = ((h, k.0), k.1)
plain-keeps c (IsMark mark ∷ pieces) h k = ((h, tt), k)
plain-keeps c (IsCountedItem item ∷ pieces) h k = ((h, tt), k)

plain-drops : (c : ℕ) (pieces : List Piece) → Blankless (onto_plain c pieces) → (c ≢ blank) × Blankless pieces
plain-drops c [] h = (h.0.0, tt)
plain-drops c (Plain cs ∷ pieces) h = (h.0.0, (h.0.1, h.1))
plain-drops c (IsMark mark ∷ pieces) h = (h.0.0, h.1)
plain-drops c (IsCountedItem item ∷ pieces) h = (h.0.0, h.1)

onto-keeps : (begun : Begun) (pieces : List Piece) → ((d : ℕ) → begun ≡ ByOther d → d ≢ blank) → Blankless pieces → Blankless (onto_pieces begun pieces)
onto-keeps (ByMark mark) pieces h k = (tt, k)
onto-keeps (ByCountedItem counted) pieces h k = (tt, k)
onto-keeps (ByOther c) pieces h k = plain-keeps c pieces (h c refl) k

onto-drops : (begun : Begun) (pieces : List Piece) → Blankless (onto_pieces begun pieces) → Blankless pieces
onto-drops (ByMark mark) pieces h = h.1
onto-drops (ByCountedItem counted) pieces h = h.1
onto-drops (ByOther c) pieces h = (plain-drops c pieces h).1

-- the pieces of what began, and of what follows
abbrev pieces_behind : Begun → List ℕ → List Piece
pieces_behind begun cs = onto_pieces begun (pieces_at (spot_behind begun) (left_of begun) cs)

-- an extent has its blanks in items
extent-blankless : (spot : Spot) (left : ℕ) (field rest : List ℕ) → IsExtent spot left field rest → Blankless (pieces_at spot left (field ++ []))
extent-blankless spot left [] rest h = tt
extent-blankless spot (suc left) (c ∷ field) rest h = extent-blankless spot left field rest h
extent-blankless spot zero (c ∷ field) rest h =
    let begun = begun_at spot c (field ++ rest) in
    let same = begun-same spot c field rest [] rest refl h.1 in
    let other : (d : ℕ) → begun ≡ ByOther d → d ≢ blank = λ d e k. h.0 (other-begun spot c d (field ++ rest) e ∙ k) in
    subst (λ b. Blankless (pieces_behind b (field ++ []))) (sym same)
    (onto-keeps begun (pieces_at (spot_behind begun) (left_of begun) (field ++ [])) other (extent-blankless (spot_behind begun) (left_of begun) field rest h.1))

-- a blank begins no mark and no item
blank-begun : (spot : Spot) (cs : List ℕ) → begun_at spot blank cs ≡ ByOther blank
blank-begun Inside cs = refl
blank-begun AtEquals cs = refl
blank-begun AtStart cs = refl

-- a longer front of the text has a blank outside items
extent-longest : (spot : Spot) (left : ℕ) (field : List ℕ) (d : ℕ) (more less : List ℕ) → IsExtent spot left field (d ∷ (more ++ less)) → Blankless (pieces_at spot left (field ++ d ∷ more)) → ⊥
extent-longest spot zero [] d more less h k =
    let here : Blankless (pieces_at spot zero (blank ∷ more)) = subst (λ c. Blankless (pieces_at spot zero (c ∷ more))) h k in
    let pieces = pieces_at Inside 0 more in
    (plain-drops blank pieces (subst (λ b. Blankless (pieces_behind b more)) (blank-begun spot more) here)).0 refl
extent-longest spot (suc left) [] d more less h k = absurd h
extent-longest spot (suc left) (c ∷ field) d more less h k = extent-longest spot left field d more less h k
extent-longest spot zero (c ∷ field) d more less h k =
    let rest = d ∷ (more ++ less) in
    let begun = begun_at spot c (field ++ rest) in
    let same = begun-same spot c field rest (d ∷ more) less refl h.1 in
    let here : Blankless (pieces_behind begun (field ++ d ∷ more)) = subst (λ b. Blankless (pieces_behind b (field ++ d ∷ more))) same k in
    extent-longest (spot_behind begun) (left_of begun) field d more less h.1 (onto-drops begun (pieces_at (spot_behind begun) (left_of begun) (field ++ d ∷ more)) here)

no_longer : (field rest : List ℕ) → IsExtent AtStart zero field rest → (more less : List ℕ) → rest ≡ more ++ less → HasBlanksInItems (field ++ more) → more ≡ []
no_longer field rest h [] less e k = refl
no_longer field rest h (d ∷ more) less e k = absurd (extent-longest AtStart zero field d more less (subst (IsExtent AtStart zero field) e h) k)

-- an extent is a longest front
pub extent-is_longest : (text field rest : List ℕ) → text ≡ field ++ rest → IsExtent AtStart zero field rest → IsLongestFront text field
extent-is_longest text field rest e h =
    (rest, e, subst (λ f. Blankless (pieces_at AtStart 0 f)) (append-nil field) (extent-blankless AtStart zero field rest h), no_longer field rest h)

-- of two fronts of a text one goes on with the other
abbrev GoesOn : List ℕ → List ℕ → List ℕ → List ℕ → Type 0
GoesOn f r g s = (more : List ℕ) × (g ≡ f ++ more) × (r ≡ more ++ s)

fronts-compare : (f r g s : List ℕ) → f ++ r ≡ g ++ s → GoesOn f r g s ⊎ GoesOn g s f r
fronts-compare [] r g s e = inl (g, refl, e)
fronts-compare (x ∷ f) r [] s e = inr (x ∷ f, refl, sym e)
fronts-compare (x ∷ f) r (y ∷ g) s e =
    let heads : x ≡ y = cc in
    let tails : f ++ r ≡ g ++ s = cc in
    elim (fronts-compare f r g s tails) [
      | inl k ↦ inl (k.0, ap₂ (λ a l. a ∷ l) (sym heads) k.1, k.2)
      | inr k ↦ inr (k.0, ap₂ (λ a l. a ∷ l) heads k.1, k.2)
    ]

-- a text has one longest front
pub longest-only : (text field other : List ℕ) → IsLongestFront text field → IsLongestFront text other → field ≡ other
longest-only text field other h k = elim (fronts-compare field h.0 other k.0 (sym h.1 ∙ k.1)) [
  | inl g ↦
      let none : g.0 ≡ [] = h.3 g.0 k.0 g.2 (subst HasBlanksInItems g.1 k.2) in
      sym (g.1 ∙ ap (λ more. field ++ more) none ∙ append-nil field)
  | inr g ↦
      let none : g.0 ≡ [] = k.3 g.0 h.0 g.2 (subst HasBlanksInItems g.1 h.2) in
      g.1 ∙ ap (λ more. other ++ more) none ∙ append-nil other
]
