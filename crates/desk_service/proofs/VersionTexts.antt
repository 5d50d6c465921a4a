-- What is written of the versions of a folder is read back.
use Rattle.std.{proofs.Common.{ℕ, zero, suc, ◌≡◌, ◌+◌, ◌-◌, ◌*◌, ◌/◌, ◌%◌, ◌^◌, ◌<◌, ◌≤◌, ◌==◌, List, [], ◌∷◌, ◌++◌, Bool, true, false, cond, ◌&&◌, Option, Some, None, Result, Ok, Err, if◌then◌else◌, length, length-append, take, drop, refl, ap, subst, sym, ◌∙◌, arith, rules, true≢false}, specs.Prelude.{codes, decimal, fold, max, nat_le, option_map}, specs.List.{list_all, prefix_len}, proofs.Math.Nat.pow-succ', proofs.lemmas.Bool.{and_from, and_parts, le-leb, leb-true, lt-leb}, proofs.lemmas.Fmt.{IsAscii-from_digits, decimal_nonempty, digits_decimal, digits_value-decimal}, proofs.lemmas.List.{append_assoc, drop_at, take_at}, proofs.lemmas.List.Folds.list_all-append, proofs.lemmas.List.Sums.fold-append, proofs.lemmas.Str.IsUtf8-from_ascii, proofs.lemmas.Str.Parse.{IsNumeralModel, numerals_by_fold, parse_digits}, specs.Str.IsUtf8, specs.Str.Parse.ParsesUnsigned, specs.Result.OkIff}
use Rattle.definitions.specs.{Characters.{is_digit, same_text}, Fields.unbroken_front, Numerals.{digits_of, number_of}}
use Rattle.journal.specs.declared.marks.Mark.{Mark}
use Rattle.session_commands.{specs.Sought.{begins_with, has_text}, specs.Words.from_blank, proofs.ReadBack.{digit-no_blank, no_blank}}
use Rattle.desk_service.specs.Versions.{IsMark, has_note, is_note, line_of, mark_by, mark_in, mark_line, next_bound, noted_line_of, number_in, seen_by, seen_of, versions_in, versions_line}

-- ---- digits

-- the number that digits make behind others
abbrev pub number_behind : ℕ → List ℕ → ℕ
number_behind value digits = fold (λ value digit. value * 10 + (digit - 48)) value digits

-- digits and their number, in the words of `parse`
pub numerals : IsNumeralModel (λ digits. list_all is_digit digits ≡ true) (number_behind 0)
numerals = numerals_by_fold _ (search rules) number_behind (search rules)

digit-is : (d : ℕ) → d < 10 → is_digit (48 + d) ≡ true
digit-is d below = and_from (nat_le 48 (48 + d)) (nat_le (48 + d) 57) (le-leb 48 (48 + d) (omega arith)) (le-leb (48 + d) 57 (omega arith))

last-digit : (n : ℕ) → n % 10 < 10
last-digit n = omega arith

digits-length : (count value : ℕ) → length (digits_of 10 count value) ≡ count
digits-length zero value = refl
digits-length (suc count) value =
    length-append (digits_of 10 count (value / 10)) ((48 + value % 10) ∷ [])
    ∙ ap (λ (n : ℕ). n + 1) (digits-length count (value / 10))
    ∙ (let more : count + 1 ≡ suc count = omega arith in more)

digits-all : (count value : ℕ) → list_all is_digit (digits_of 10 count value) ≡ true
digits-all zero value = refl
digits-all (suc count) value =
    list_all-append is_digit (digits_of 10 count (value / 10)) ((48 + value % 10) ∷ [])
    ∙ and_from (list_all is_digit (digits_of 10 count (value / 10))) (is_digit (48 + value % 10) && true) (digits-all count (value / 10))
    (and_from (is_digit (48 + value % 10)) true (digit-is (value % 10) (last-digit value)) refl)

number-push : (digits : List ℕ) (digit : ℕ) → number_of 10 (digits ++ (48 + digit) ∷ []) ≡ number_of 10 digits * 10 + digit
number-push digits digit =
    fold-append (λ value d. value * 10 + (d - 48)) 0 digits ((48 + digit) ∷ [])
    ∙ (let e : 48 + digit - 48 ≡ digit = omega arith in ap (λ d. number_of 10 digits * 10 + d) e)

below_power : (count value : ℕ) → value < 10 ^ suc count → value / 10 < 10 ^ count
below_power count value below = let more : value < 10 * 10 ^ count = rw pow-succ' at below in omega arith

digits-number : (count value : ℕ) → value < 10 ^ count → number_of 10 (digits_of 10 count value) ≡ value
digits-number zero value below = omega arith
digits-number (suc count) value below =
    let front = digits-number count (value / 10) (below_power count value below) in
    number-push (digits_of 10 count (value / 10)) (value % 10) ∙ (let whole : value / 10 * 10 + value % 10 ≡ value = omega arith in ap (λ n. n * 10 + value % 10) front ∙ whole)

-- digits are read as their number
number-back : (most n : ℕ) (digits : List ℕ) → 0 < length digits → list_all is_digit digits ≡ true → number_of 10 digits ≡ n → n ≤ most → number_in most digits ≡ Some n
number-back most n digits some all is within =
    let least : 1 ≤ length digits = omega (arith, some) in
    let fits : (nat_le 1 (length digits) && list_all is_digit digits && nat_le (number_of 10 digits) most) ≡ true =
    and_from _ _ (and_from _ _ (le-leb 1 (length digits) least) all) (ap (λ v. nat_le v most) is ∙ le-leb n most within) in
    ap (λ (t : Bool). if t then Some (number_of 10 digits) else None) fits ∙ ap Some is

-- and what is no number, or a greater one, as none
number-none : (most : ℕ) (text : List ℕ) → (nat_le 1 (length text) && list_all is_digit text && nat_le (number_of 10 text) most) ≡ false → number_in most text ≡ None
number-none most text not_so = ap (λ (t : Bool). if t then Some (number_of 10 text) else None) not_so

no-and : (b : Bool) → (b && false) ≡ false
no-and true = refl
no-and false = refl

pub number-great : (most : ℕ) (text : List ℕ) → most < number_of 10 text → number_in most text ≡ None
number-great most text great =
    number-none most text
    (ap (λ (t : Bool). nat_le 1 (length text) && list_all is_digit text && t) (lt-leb (number_of 10 text) most great) ∙ no-and (nat_le 1 (length text) && list_all is_digit text))

-- what `parse` reads of digits is their number, and where it reads none, that is too great for 64 bits
read-as : {E : Type 0} (text : List ℕ) (r : Result ℕ E) (n : ℕ) → ParsesUnsigned 64 10 text r → list_all is_digit text ≡ true → r ≡ Ok n → n ≡ number_of 10 text
read-as text r n parsed all is =
    (subst (λ t. OkIff t ((0 < length text) × (number_of 10 text < 2 ^ 64)) (number_of 10 text)) is (parse_digits numerals 64 text r parsed all)).1

pub number-parsed : {E : Type 0} (most : ℕ) (text : List ℕ) (r : Result ℕ E) (n : ℕ) → ParsesUnsigned 64 10 text r → list_all is_digit text ≡ true → r ≡ Ok n → 0 < length text → n ≤ most → number_in most text ≡ Some n
number-parsed most text r n parsed all is some within = number-back most n text some all (sym (read-as text r n parsed all is)) within

pub number-parsed_great : {E : Type 0} (most : ℕ) (text : List ℕ) (r : Result ℕ E) (n : ℕ) → ParsesUnsigned 64 10 text r → list_all is_digit text ≡ true → r ≡ Ok n → most < n → number_in most text ≡ None
number-parsed_great most text r n parsed all is great = number-great most text (omega (arith, read-as text r n parsed all is, great))

pub number-not_parsed : {E : Type 0} (most : ℕ) (text : List ℕ) (r : Result ℕ E) (e : E) → ParsesUnsigned 64 10 text r → list_all is_digit text ≡ true → r ≡ Err e → 0 < length text → most < 2 ^ 64 → number_in most text ≡ None
number-not_parsed most text r e parsed all is some fits = by (nat_le (number_of 10 text) most) refl
  where
    by : (b : Bool) → nat_le (number_of 10 text) most ≡ b → number_in most text ≡ None
    by true small =
        let refused = subst (λ t. OkIff t ((0 < length text) × (number_of 10 text < 2 ^ 64)) (number_of 10 text)) is (parse_digits numerals 64 text r parsed all) in
        absurd (refused (some, omega (arith, leb-true (number_of 10 text) most small, fits)))
    by false great =
        number-none most text (ap (λ (t : Bool). nat_le 1 (length text) && list_all is_digit text && t) great ∙ no-and (nat_le 1 (length text) && list_all is_digit text))

-- what is not empty has some digit
pub some-from : (n : ℕ) (b : Bool) → b ≡ (n == 0) → b ≡ false → 0 < n
some-from zero b is isnt = absurd (true≢false (sym is ∙ isnt))
some-from (suc n) b is isnt = omega arith

-- digits are text
pub digits-text : (text : List ℕ) → list_all is_digit text ≡ true → IsUtf8 text
digits-text text all = IsUtf8-from_ascii text (IsAscii-from_digits text (numerals.to text all))

padded-back : (most count n : ℕ) → 0 < count → n < 10 ^ count → n ≤ most → number_in most (digits_of 10 count n) ≡ Some n
padded-back most count n some below within =
    number-back most n (digits_of 10 count n) (omega (arith, some, digits-length count n)) (digits-all count n) (digits-number count n below) within

decimal-back : (n : ℕ) → n < 2 ^ 64 → number_in (2 ^ 64 - 1) (decimal n) ≡ Some n
decimal-back n below =
    number-back (2 ^ 64 - 1) n (decimal n) (decimal_nonempty n below) (digits_decimal numerals n below) (digits_value-decimal numerals n below) (omega (arith, below))

-- ---- a note

-- a note of these digits
abbrev note_by : List ℕ → List ℕ → List ℕ
note_by lengths sums = codes "MARK " ++ (lengths ++ (32 ∷ (sums ++ codes "\n")))

-- what is made of its parts
abbrev by_parts : List ℕ → List ℕ → List ℕ → List ℕ → List ℕ → Option Mark
by_parts word blank end lengths sums = mark_by (is_note word blank end) (number_in (2 ^ 64 - 1) lengths) (number_in (2 ^ 32 - 1) sums)

abbrev by_rest : List ℕ → List ℕ → Option Mark
by_rest word rest = by_parts word (take 1 (drop 20 rest)) (drop 10 (drop 1 (drop 20 rest))) (take 20 rest) (take 10 (drop 1 (drop 20 rest)))

note-length : (lengths sums : List ℕ) → length lengths ≡ 20 → length sums ≡ 10 → length (note_by lengths sums) ≡ 37
note-length lengths sums long short =
    omega (arith, long, short, length-append (codes "MARK ") (lengths ++ (32 ∷ (sums ++ codes "\n"))), length-append lengths (32 ∷ (sums ++ codes "\n")), length-append sums (codes "\n"))

note-parts : (lengths sums : List ℕ) → length lengths ≡ 20 → length sums ≡ 10 → mark_in (note_by lengths sums) ≡ mark_by true (number_in (2 ^ 64 - 1) lengths) (number_in (2 ^ 32 - 1) sums)
note-parts lengths sums long short =
    let note = note_by lengths sums in
    let word = codes "MARK " in
    let end = sums ++ codes "\n" in
    ap (λ (n : ℕ). if n == 37 then by_rest (take 5 note) (drop 5 note) else None) (note-length lengths sums long short)
    ∙ ap (λ (w : List ℕ). by_rest w (drop 5 note)) (take_at word (lengths ++ (32 ∷ end)) 5 refl)
    ∙ ap (λ (r : List ℕ). by_rest word r) (drop_at word (lengths ++ (32 ∷ end)) 5 refl)
    ∙ ap (λ (d : List ℕ). by_parts word (take 1 d) (drop 10 (drop 1 d)) (take 20 (lengths ++ (32 ∷ end))) (take 10 (drop 1 d))) (drop_at lengths (32 ∷ end) 20 long)
    ∙ ap (λ (l : List ℕ). by_parts word (codes " ") (drop 10 end) l (take 10 end)) (take_at lengths (32 ∷ end) 20 long)
    ∙ ap (λ (l : List ℕ). by_parts word (codes " ") l lengths (take 10 end)) (drop_at sums (codes "\n") 10 short)
    ∙ ap (λ (l : List ℕ). by_parts word (codes " ") (codes "\n") lengths l) (take_at sums (codes "\n") 10 short)

-- its line tells the mark
pub mark-back : (mark : Mark) → IsMark mark → mark_in (mark_line mark) ≡ Some mark
mark-back mark is =
    let lengths = digits_of 10 20 mark.length in
    let sums = digits_of 10 10 mark.sum in
    note-parts lengths sums (digits-length 20 mark.length) (digits-length 10 mark.sum)
    ∙ ap (λ (n : Option ℕ). mark_by true n (number_in (2 ^ 32 - 1) sums)) (padded-back (2 ^ 64 - 1) 20 mark.length (omega arith) (omega (arith, is.0)) (omega (arith, is.0)))
    ∙ ap (λ (n : Option ℕ). mark_by true (Some mark.length) n) (padded-back (2 ^ 32 - 1) 10 mark.sum (omega arith) (omega (arith, is.1)) (omega (arith, is.1)))

-- ---- a line

digits-prefix : (digits rest : List ℕ) → list_all is_digit digits ≡ true → prefix_len no_blank (digits ++ (32 ∷ rest)) ≡ length digits
digits-prefix [] rest all = refl
digits-prefix (c ∷ cs) rest all =
    let parts = and_parts (is_digit c) (list_all is_digit cs) all in
    ap (λ (t : Bool). cond t (1 + prefix_len no_blank (cs ++ (32 ∷ rest))) 0) (digit-no_blank c parts.0)
    ∙ ap (λ (n : ℕ). 1 + n) (digits-prefix cs rest parts.1)
    ∙ (let more : 1 + length cs ≡ suc (length cs) = omega arith in more)

digits-front : (digits rest : List ℕ) → list_all is_digit digits ≡ true → unbroken_front (digits ++ (32 ∷ rest)) ≡ digits
digits-front digits rest all =
    ap (λ (n : ℕ). take n (digits ++ (32 ∷ rest))) (digits-prefix digits rest all) ∙ take_at digits (32 ∷ rest) (length digits) refl

digits-behind : (digits rest : List ℕ) → list_all is_digit digits ≡ true → from_blank (digits ++ (32 ∷ rest)) ≡ 32 ∷ rest
digits-behind digits rest all =
    ap (λ (l : List ℕ). drop (length l) (digits ++ (32 ∷ rest))) (digits-front digits rest all) ∙ drop_at digits (32 ∷ rest) (length digits) refl

-- a text and a line feed
ended-size : (told : List ℕ) → length (told ++ codes "\n") - 1 ≡ length told
ended-size told = omega (arith, length-append told (codes "\n"))

-- what a line tells is what it was made of
line-parts : (told : List ℕ) (noted : Option Mark) → line_of (told ++ codes "\n") noted ≡ seen_by (unbroken_front told) (from_blank told) (codes "\n") (length (told ++ codes "\n")) noted
line-parts told noted =
    let line = told ++ codes "\n" in
    ap (λ (k : ℕ). seen_by (unbroken_front (take k line)) (from_blank (take k line)) (drop k line) (length line) noted) (ended-size told)
    ∙ ap (λ (t : List ℕ). seen_by (unbroken_front t) (from_blank t) (drop (length told) line) (length line) noted) (take_at told (codes "\n") (length told) refl)
    ∙ ap (λ (e : List ℕ). seen_by (unbroken_front told) (from_blank told) e (length line) noted) (drop_at told (codes "\n") (length told) refl)

named-by : (digits name : List ℕ) (size : ℕ) (noted : Option Mark) → seen_by digits (32 ∷ name) (codes "\n") size noted ≡ option_map (λ bound. seen_of bound name noted size) (number_in (2 ^ 64 - 1) digits)
named-by digits name size noted =
    let some : 1 ≤ length (32 ∷ name) = omega arith in
    ap (λ (t : Bool). if t && same_text (codes "\n") (codes "\n") then option_map (λ bound. seen_of bound name noted size) (number_in (2 ^ 64 - 1) digits) else None) (le-leb 1 (length (32 ∷ name)) some)

-- a number, a blank and a name
abbrev told_by : ℕ → List ℕ → List ℕ
told_by n name = decimal n ++ (32 ∷ name)

pub line-back : (n : ℕ) (name : List ℕ) (noted : Option Mark) → n < 2 ^ 64 → line_of (told_by n name ++ codes "\n") noted ≡ Some (seen_of n name noted (length (told_by n name ++ codes "\n")))
line-back n name noted below =
    let size = length (told_by n name ++ codes "\n") in
    let all = digits_decimal numerals n below in
    line-parts (told_by n name) noted
    ∙ ap (λ (d : List ℕ). seen_by d (from_blank (told_by n name)) (codes "\n") size noted) (digits-front (decimal n) name all)
    ∙ ap (λ (r : List ℕ). seen_by (decimal n) r (codes "\n") size noted) (digits-behind (decimal n) name all)
    ∙ named-by (decimal n) name size noted
    ∙ ap (λ (b : Option ℕ). option_map (λ bound. seen_of bound name noted size) b) (decimal-back n below)

-- ---- a line and a note

mark_line-length : (mark : Mark) → length (mark_line mark) ≡ 37
mark_line-length mark = note-length (digits_of 10 20 mark.length) (digits_of 10 10 mark.sum) (digits-length 20 mark.length) (digits-length 10 mark.sum)

-- a note is seen behind a line feed
begins-note : (mark : Mark) → begins_with (codes "\nMARK ") (10 ∷ mark_line mark) ≡ true
begins-note mark =
    let rest = digits_of 10 20 mark.length ++ (32 ∷ (digits_of 10 10 mark.sum ++ codes "\n")) in
    let room : 6 ≤ length (10 ∷ mark_line mark) = omega (arith, mark_line-length mark) in
    and_from (nat_le 6 (length (10 ∷ mark_line mark))) (same_text (take 6 (10 ∷ mark_line mark)) (codes "\nMARK ")) (le-leb 6 (length (10 ∷ mark_line mark)) room)
    (ap (λ (l : List ℕ). same_text l (codes "\nMARK ")) (take_at (codes "\nMARK ") rest 6 refl))

ends-noted : (told : List ℕ) (mark : Mark) → has_note ((told ++ codes "\n") ++ mark_line mark) ≡ true
ends-noted told mark =
    let note = mark_line mark in
    let text = (told ++ codes "\n") ++ note in
    let size : length text - 38 ≡ length told = omega (arith, length-append (told ++ codes "\n") note, length-append told (codes "\n"), mark_line-length mark) in
    ap (λ (k : ℕ). begins_with (codes "\nMARK ") (drop k text)) size
    ∙ ap (λ (l : List ℕ). begins_with (codes "\nMARK ") (drop (length told) l)) (append_assoc told (codes "\n") note)
    ∙ ap (λ (l : List ℕ). begins_with (codes "\nMARK ") l) (drop_at told (10 ∷ note) (length told) refl)
    ∙ begins-note mark

-- both are read back
noted-back : (n : ℕ) (name : List ℕ) (mark : Mark) → n < 2 ^ 64 → IsMark mark →
    versions_in ((told_by n name ++ codes "\n") ++ mark_line mark) ≡ Some (seen_of n name (Some mark) (length (told_by n name ++ codes "\n")))
noted-back n name mark below is =
    let line = told_by n name ++ codes "\n" in
    let note = mark_line mark in
    let text = line ++ note in
    let alone = if has_text (codes "\n") (take (length text - 1) text) then None else line_of text None in
    let size : length text - 37 ≡ length line = omega (arith, length-append line note, mark_line-length mark) in
    ap (λ (t : Bool). if t then noted_line_of (take (length text - 37) text) (mark_in (drop (length text - 37) text)) else alone) (ends-noted (told_by n name) mark)
    ∙ ap (λ (k : ℕ). noted_line_of (take k text) (mark_in (drop k text))) size
    ∙ ap (λ (l : List ℕ). noted_line_of l (mark_in (drop (length line) text))) (take_at line note (length line) refl)
    ∙ ap (λ (l : List ℕ). noted_line_of line (mark_in l)) (drop_at line note (length line) refl)
    ∙ ap (λ (m : Option Mark). noted_line_of line m) (mark-back mark is)
    ∙ line-back n name (Some mark) below

written-line : (n : ℕ) (name : List ℕ) → told_by n name ++ codes "\n" ≡ decimal n ++ (codes " " ++ (name ++ codes "\n"))
written-line n name = append_assoc (decimal n) (32 ∷ name) (codes "\n")

pub versions-back : (bound begun : ℕ) (name : List ℕ) (mark : Mark) → bound < 2 ^ 64 → IsMark mark →
    versions_in (versions_line bound name begun ++ mark_line mark) ≡ Some (seen_of (max bound (next_bound begun)) name (Some mark) (length (versions_line bound name begun)))
versions-back bound begun name mark below is =
    let n = max bound (next_bound begun) in
    let within : n < 2 ^ 64 = omega (arith, below) in
    ap (λ (l : List ℕ). versions_in (l ++ mark_line mark)) (sym (written-line n name))
    ∙ noted-back n name mark within is
    ∙ ap (λ (l : List ℕ). Some (seen_of n name (Some mark) (length l))) (written-line n name)
