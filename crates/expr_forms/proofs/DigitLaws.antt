-- A run of digits and nothing else.
use Rattle.std.{proofs.Common.{◌≡◌, ℕ, suc, ◌+◌, ◌<◌, List, [], ◌∷◌, Bool, true, false, not, cond, ◌==◌, ◌&&◌, nat_le, if◌then◌else◌, Option, Some, None, length, take, drop, codes, refl, sym, ◌∙◌, ap, subst, arith}, specs.Prelude.{is_none, is_some, option_map}, specs.List.{list_all, prefix_len}, proofs.lemmas.List.Folds.length-prefix_len}
use Rattle.definitions.specs.{Characters.{is_among, is_digit, is_symbol_character, equals}, Numerals.number_of, CountedItems.{counted_item_with, counted_item_behind, counted_item_at, item_letter_of}, Expressions.{ANumber, ASymbol, element_of_name, element_of_text}, Pieces.{Mark, Equals, Inside, ByMark, Plain, mark_of, begun_by_counted_item, pieces_at, pieces_of}, Symbols.{is_register, number_read, register_of}, declared.number_base.NumberBase.NumberBase}
use Rattle.expr_forms.{specs.Joins.Numbers.AreDigits, specs.Joins.PiecesFound.ends_run, proofs.PieceLaws.{is_of_run, pieces_begun, pieces-run}}

-- the digits that begin a text
digits-taken : (text : List ℕ) → prefix_len is_digit (take (prefix_len is_digit text) text) ≡ length (take (prefix_len is_digit text) text)
digits-taken [] = refl
digits-taken (c ∷ cs) = by (is_digit c) refl (digits-taken cs)
  where
    by : (b : Bool) → is_digit c ≡ b → prefix_len is_digit (take (prefix_len is_digit cs) cs) ≡ length (take (prefix_len is_digit cs) cs) →
        prefix_len is_digit (take (cond b (1 + prefix_len is_digit cs) 0) (c ∷ cs)) ≡ length (take (cond b (1 + prefix_len is_digit cs) 0) (c ∷ cs))
    by true e before =
        let more : suc (prefix_len is_digit cs) ≡ 1 + prefix_len is_digit cs = omega arith in
        subst (λ (n : ℕ). prefix_len is_digit (take n (c ∷ cs)) ≡ length (take n (c ∷ cs))) more
        (ap (λ (b : Bool). cond b (1 + prefix_len is_digit (take (prefix_len is_digit cs) cs)) 0) e ∙ omega (arith, before))
    by false e before = refl

-- a digit is no mark
digit-other : (c : ℕ) → is_digit c ≡ true → mark_of c ≡ None
digit-other c e = grind arith

-- nor an equals sign
digit-no_equals : (c : ℕ) → is_digit c ≡ true → (c == equals) ≡ false
digit-no_equals c e = grind arith

mark-some : (m : Option Mark) → is_some m ≡ true → is_none m ≡ false
mark-some None e = cc
mark-some (Some mark) e = refl

-- a mark is no letter of an item
mark-no_letter : (c : ℕ) → is_some (mark_of c) ≡ true → item_letter_of c ≡ None
mark-no_letter c e = grind arith

-- the run that begins a text is its digits, where a run ends behind them
digits-run : (text : List ℕ) → ends_run (drop (prefix_len is_digit text) text) ≡ true → prefix_len is_of_run text ≡ prefix_len is_digit text
digits-run [] ended = refl
digits-run (c ∷ cs) ended = by (is_digit c) refl ended (digits-run cs)
  where
    by : (b : Bool) → is_digit c ≡ b → ends_run (drop (cond b (1 + prefix_len is_digit cs) 0) (c ∷ cs)) ≡ true →
        (ends_run (drop (prefix_len is_digit cs) cs) ≡ true → prefix_len is_of_run cs ≡ prefix_len is_digit cs) →
        prefix_len is_of_run (c ∷ cs) ≡ cond b (1 + prefix_len is_digit cs) 0
    by true e ended before =
        let more : suc (prefix_len is_digit cs) ≡ 1 + prefix_len is_digit cs = omega arith in
        ap (λ (o : Option Mark). cond (is_none o) (1 + prefix_len is_of_run cs) 0) (digit-other c e)
        ∙ ap (λ (n : ℕ). 1 + n) (before (ap (λ (n : ℕ). ends_run (drop n (c ∷ cs))) more ∙ ended))
    by false e ended before = ap (λ (b : Bool). cond b (1 + prefix_len is_of_run cs) 0) (mark-some (mark_of c) ended)

-- behind its count an item has a letter
ended-none : (digits count : ℕ) (rest : List ℕ) → ends_run rest ≡ true → counted_item_behind digits count rest ≡ None
ended-none digits count [] ended = refl
ended-none digits count (c ∷ cs) ended = ap (counted_item_with digits count cs) (mark-no_letter c ended)

-- no item begins digits behind which a run ends
digits-no_item : (text : List ℕ) → ends_run (drop (prefix_len is_digit text) text) ≡ true → counted_item_at text ≡ None
digits-no_item text ended = by (nat_le 1 (length digits))
  where
    digits : List ℕ
    digits = take (prefix_len is_digit text) text

    behind : ends_run (drop (length digits) text) ≡ true
    behind = ap (λ (n : ℕ). ends_run (drop n text)) (length-prefix_len is_digit text) ∙ ended

    by : (b : Bool) → (if b then counted_item_behind (length digits) (number_of 10 digits) (drop (length digits) text) else None) ≡ None
    by true = ended-none (length digits) (number_of 10 digits) (drop (length digits) text) behind
    by false = refl

-- a text that begins with digits behind which a run ends
pub pieces-digits : (text : List ℕ) (count : ℕ) → count ≡ prefix_len is_digit text → 0 < count → ends_run (drop count text) ≡ true →
    pieces_of text ≡ Plain (take count text) ∷ pieces_at Inside 0 (drop count text)
pieces-digits [] count len some ended = absurd (omega (arith, len))
pieces-digits (c ∷ cs) count len some ended = by (is_digit c) refl len
  where
    by : (b : Bool) → is_digit c ≡ b → count ≡ cond b (1 + prefix_len is_digit cs) 0 →
        pieces_of (c ∷ cs) ≡ Plain (take count (c ∷ cs)) ∷ pieces_at Inside 0 (drop count (c ∷ cs))
    by false e l = absurd (omega (arith, l))
    by true e l =
        let there : ends_run (drop (prefix_len is_digit (c ∷ cs)) (c ∷ cs)) ≡ true = ap (λ (n : ℕ). ends_run (drop n (c ∷ cs))) (sym len) ∙ ended in
        let run : prefix_len is_of_run (c ∷ cs) ≡ prefix_len is_digit (c ∷ cs) = digits-run (c ∷ cs) there in
        let first : prefix_len is_of_run (c ∷ cs) ≡ 1 + prefix_len is_of_run cs = ap (λ (o : Option Mark). cond (is_none o) (1 + prefix_len is_of_run cs) 0) (digit-other c e) in
        let n : 1 + prefix_len is_of_run cs ≡ count = sym first ∙ (run ∙ sym len) in
        ap (λ (b : Bool). pieces_begun (if b then ByMark Equals else begun_by_counted_item c (counted_item_at (c ∷ cs))) cs) (digit-no_equals c e)
        ∙ pieces-run (c ∷ cs) (prefix_len is_of_run cs) (omega arith) (digits-no_item (c ∷ cs) there) (digit-other c e) refl
        ∙ ap (λ (k : ℕ). Plain (take k (c ∷ cs)) ∷ pieces_at Inside 0 (drop k (c ∷ cs))) n

-- the digits that begin a text are digits
pub digits_in_front : (text digits : List ℕ) (count : ℕ) → count ≡ prefix_len is_digit text → 0 < count → digits ≡ take count text → AreDigits digits
digits_in_front text digits count len some front =
    let same : digits ≡ take (prefix_len is_digit text) text = front ∙ ap (λ (n : ℕ). take n text) len in
    let all : prefix_len is_digit digits ≡ length digits = subst (λ (ds : List ℕ). prefix_len is_digit ds ≡ length ds) (sym same) (digits-taken text) in
    let long : length digits ≡ prefix_len is_digit text = ap length same ∙ length-prefix_len is_digit text in
    record { some = omega (arith, long, len); all = all }

-- a digit begins no register
digit-no_register : (c : ℕ) (cs : List ℕ) → is_digit c ≡ true → register_of (c ∷ cs) ≡ None
digit-no_register c [] e = refl
digit-no_register c (d ∷ []) e = grind arith
digit-no_register c (d ∷ more ∷ cs) e = refl

-- digits are a number, if they are an element
pub digits_number : (base : NumberBase) (digits : List ℕ) → AreDigits digits → element_of_text base digits ≡ option_map ANumber (number_read base digits)
digits_number base [] are = absurd (omega (arith, are.some))
digits_number base (c ∷ cs) are = by (is_digit c) refl are.all
  where
    by : (b : Bool) → is_digit c ≡ b → cond b (1 + prefix_len is_digit cs) 0 ≡ length (c ∷ cs) → element_of_text base (c ∷ cs) ≡ option_map ANumber (number_read base (c ∷ cs))
    by false e l = absurd (omega (arith, l))
    by true e l =
        ap (element_of_name base (c ∷ cs)) (digit-no_register c cs e)
        ∙ ap (λ (b : Bool). if (not b && not (is_among c (codes "$="))) && list_all is_symbol_character (c ∷ cs) && nat_le (length (c ∷ cs)) 8 && not (is_register (c ∷ cs)) then Some (ASymbol (c ∷ cs)) else option_map ANumber (number_read base (c ∷ cs))) e
