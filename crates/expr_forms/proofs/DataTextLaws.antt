-- Texts of DATA that are commas and digits alone: each subfield is a number or nothing, and fills one word.
use Rattle.std.{proofs.Common.{◌≡◌, ℕ, suc, ◌+◌, ◌-◌, ◌*◌, ◌^◌, List, [], ◌∷◌, ◌++◌, Bool, true, false, true≢false, cond, ◌==◌, ◌&&◌, Option, Some, None, length, min, take, drop, refl, sym, ◌∙◌, ap, ap₂, subst, arith, append-nil}, specs.Prelude.{is_some, nat_le, nat_lt, option_map, unwrap_or, if◌then◌else◌, ◌||◌}, specs.List.{filter, list_all, prefix_len}, proofs.Math.Seq.{drop-append_seam, drop-length, take-append_seam}, proofs.lemmas.Bool.{and_from, and_parts, eqb-true, le-leb}, proofs.lemmas.List.{append_assoc, take_all}, proofs.lemmas.List.Folds.list_all-append, proofs.lemmas.List.Sums.fold-append}
use Rattle.definitions.specs.{Characters.{comma, is_digit}, Expressions.NoSign, Numerals.number_of, Operands.{Datum, ZeroWord, NumberWord, all_read, data_word, onto_all}, Pieces.{Piece, Inside, Plain, pieces_at, pieces_of, subfields_of}, Sizes.{data_words, datum_words}, Symbols.{Number, behind_digits, bounded, number_read, scaled}, declared.deck_kind.DeckKind.DeckKind, declared.number_base.NumberBase.NumberBase, declared.number_base.NumberBase.TheVariants.{Decimal, Octal}}
use Rattle.expr_forms.{specs.Joins.DataTexts.{from_comma, last_digit, is_digit_to, is_of_numbers, IsNumberTo}, specs.Joins.Numbers.radix, specs.Joins.PiecesFound.ends_run, specs.Joins.Subfields.subfields_left, proofs.DigitLaws.pieces-digits}

-- a digit of the base
abbrev is_digit_in : NumberBase → ℕ → Bool
is_digit_in base c = is_digit_to (last_digit base) c

digit : (base : NumberBase) (c : ℕ) → is_digit_in base c ≡ true → is_digit c ≡ true
digit Decimal c e = e
digit Octal c e = grind arith

octal : (c : ℕ) → is_digit_in Octal c ≡ true → nat_lt c 56 ≡ true
octal c e = grind arith

digits-len : (base : NumberBase) (front rest : List ℕ) → list_all (is_digit_in base) front ≡ true → prefix_len is_digit rest ≡ 0 →
    prefix_len is_digit (front ++ rest) ≡ length front
digits-len base [] rest digits none = none
digits-len base (c ∷ cs) rest digits none =
    let parts = and_parts (is_digit_in base c) (list_all (is_digit_in base) cs) digits in
    ap (λ (b : Bool). cond b (1 + prefix_len is_digit (cs ++ rest)) 0) (digit base c parts.0) ∙ omega (arith, digits-len base cs rest parts.1 none)

-- the pieces of digits behind which a run ends
digits-pieces : (base : NumberBase) (c : ℕ) (cs rest : List ℕ) → list_all (is_digit_in base) (c ∷ cs) ≡ true → prefix_len is_digit rest ≡ 0 → ends_run rest ≡ true →
    pieces_of ((c ∷ cs) ++ rest) ≡ Plain (c ∷ cs) ∷ pieces_at Inside 0 rest
digits-pieces base c cs rest digits none ended =
    let behind : drop (length (c ∷ cs)) ((c ∷ cs) ++ rest) ≡ rest = drop-append_seam (c ∷ cs) rest in
    pieces-digits ((c ∷ cs) ++ rest) (length (c ∷ cs)) (sym (digits-len base (c ∷ cs) rest digits none)) (omega arith) (ap ends_run behind ∙ ended)
    ∙ ap₂ (λ (run more : List ℕ). Plain run ∷ pieces_at Inside 0 more) (take-append_seam (c ∷ cs) rest) behind

below : (text : List ℕ) → list_all (is_digit_in Octal) text ≡ true → list_all (λ c. nat_lt c 56) text ≡ true
below [] digits = refl
below (c ∷ cs) digits =
    let parts = and_parts (is_digit_in Octal c) (list_all (is_digit_in Octal) cs) digits in
    and_from (nat_lt c 56) (list_all (λ c. nat_lt c 56) cs) (octal c parts.0) (below cs parts.1)

scaled-digits : (base : NumberBase) (text : List ℕ) → list_all (is_digit_in base) text ≡ true → scaled base text 0 ≡ Some (number_of (radix base) text * 2 ^ 0)
scaled-digits Decimal text digits = refl
scaled-digits Octal text digits = ap (λ (b : Bool). if b then Some (number_of 8 text * 2 ^ 0) else None) (below text digits)

-- digits of a base are a number there
digits-number : (base : NumberBase) (c : ℕ) (cs : List ℕ) → list_all (is_digit_in base) (c ∷ cs) ≡ true → number_read base (c ∷ cs) ≡ bounded (Some (number_of (radix base) (c ∷ cs) * 2 ^ 0))
digits-number base c cs digits =
    let len : prefix_len is_digit (c ∷ cs) ≡ length (c ∷ cs) = ap (prefix_len is_digit) (sym (append-nil (c ∷ cs))) ∙ digits-len base (c ∷ cs) [] digits refl in
    let all : take (prefix_len is_digit (c ∷ cs)) (c ∷ cs) ≡ c ∷ cs = take_all (prefix_len is_digit (c ∷ cs)) (c ∷ cs) (omega (arith, len)) in
    ap (λ (run : List ℕ). if nat_le 1 (length run) then bounded (behind_digits base run (drop (length run) (c ∷ cs))) else None) all
    ∙ ap (λ (b : Bool). if b then bounded (behind_digits base (c ∷ cs) (drop (length (c ∷ cs)) (c ∷ cs))) else None) (le-leb 1 (length (c ∷ cs)) (omega arith))
    ∙ ap (λ (behind : List ℕ). bounded (behind_digits base (c ∷ cs) behind)) (drop-length (c ∷ cs))
    ∙ ap bounded (scaled-digits base (c ∷ cs) digits)

number-some : (base : NumberBase) (c : ℕ) (cs : List ℕ) → list_all (is_digit_in base) (c ∷ cs) ≡ true → is_some (number_read base (c ∷ cs)) ≡ true
number-some base c cs digits = ap is_some (digits-number base c cs digits)

capped : (base : NumberBase) (value number digit : ℕ) → value ≡ min number (2 ^ 60) → min (value * radix base + digit) (2 ^ 60) ≡ min (number * radix base + digit) (2 ^ 60)
capped Decimal value number digit e = omega (arith, e)
capped Octal value number digit e = omega (arith, e)

-- the first digit, and each behind it
pub digit-first : (base : NumberBase) (text left : List ℕ) (c value : ℕ) → text ≡ c ∷ left → is_digit_to (last_digit base) c ≡ true → value ≡ min (0 * radix base + (c - 48)) (2 ^ 60) →
    IsNumberTo base text left value
digit-first base text left c value whole digit e = record { first = c; others = []; whole = whole; digits = and_from (is_digit_in base c) true digit refl; known = e }

pub digit-more : (base : NumberBase) (text rest left : List ℕ) (c before value : ℕ) → IsNumberTo base text rest before → rest ≡ c ∷ left → is_digit_to (last_digit base) c ≡ true →
    value ≡ min (before * radix base + (c - 48)) (2 ^ 60) → IsNumberTo base text left value
digit-more base text rest left c before value is next digit e =
    let front = is.first ∷ is.others in
    record {
      first = is.first;
      others = is.others ++ c ∷ [];
      whole = is.whole ∙ ap (λ (behind : List ℕ). front ++ behind) next ∙ sym (append_assoc front (c ∷ []) left);
      digits = list_all-append (is_digit_in base) front (c ∷ []) ∙ and_from (list_all (is_digit_in base) front) (is_digit_in base c && true) is.digits (and_from (is_digit_in base c) true digit refl);
      known = e ∙ capped base before (number_of (radix base) front) (c - 48) is.known
          ∙ ap (λ (n : ℕ). min n (2 ^ 60)) (sym (fold-append (λ value digit. value * radix base + (digit - 48)) 0 front (c ∷ [])));
    }

-- the first subfield is these digits
pub number-cut : (base : NumberBase) (text : List ℕ) (left : Option (List ℕ)) (value : ℕ) (is : IsNumberTo base text (from_comma left) value) →
    subfields_of (pieces_of text) ≡ (Plain (is.first ∷ is.others) ∷ []) ∷ subfields_left left
number-cut base text None value is =
    ap (λ (t : List ℕ). subfields_of (pieces_of t)) is.whole ∙ ap subfields_of (digits-pieces base is.first is.others [] is.digits refl refl)
number-cut base text (Some behind) value is =
    ap (λ (t : List ℕ). subfields_of (pieces_of t)) is.whole ∙ ap subfields_of (digits-pieces base is.first is.others (comma ∷ behind) is.digits refl refl)

-- and so is the first word of DATA
pub number-first : (base : NumberBase) (text : List ℕ) (left : Option (List ℕ)) (value : ℕ) (number : Number) → IsNumberTo base text (from_comma left) value →
    ((n : ℕ) → value ≡ min n (2 ^ 60) → bounded (Some (n * 2 ^ 0)) ≡ Some number) →
    all_read (data_word base) (subfields_of (pieces_of text)) ≡ onto_all (Some (NumberWord NoSign number)) (all_read (data_word base) (subfields_left left))
number-first base text left value number is law =
    ap (all_read (data_word base)) (number-cut base text left value is)
    ∙ ap (λ (read : Option Number). onto_all (option_map (NumberWord NoSign) read) (all_read (data_word base) (subfields_left left)))
    (digits-number base is.first is.others is.digits ∙ law (number_of (radix base) (is.first ∷ is.others)) is.known)

-- what was read fills so many words
pub record AreCounted (kind : DeckKind) (found : Option (List Datum)) (count : ℕ) : Type 0 where
  pub some : is_some found ≡ true
  pub words : data_words kind (unwrap_or found []) ≡ count

word-more : (kind : DeckKind) (datum : Datum) (found : Option (List Datum)) (count : ℕ) → datum_words kind datum ≡ 1 → AreCounted kind found count →
    AreCounted kind (onto_all (Some datum) found) (1 + count)
word-more kind datum None count one are = absurd (true≢false (sym are.some))
word-more kind datum (Some words) count one are = record { some = refl; words = ap₂ (λ (a b : ℕ). a + b) one are.words }

number-more : (kind : DeckKind) (number : Option Number) (found : Option (List Datum)) (count : ℕ) → is_some number ≡ true → AreCounted kind found count →
    AreCounted kind (onto_all (option_map (NumberWord NoSign) number) found) (1 + count)
number-more kind None found count some are = absurd (true≢false (sym some))
number-more kind (Some number) found count some are = word-more kind (NumberWord NoSign number) found count refl are

-- the words of a text
abbrev words_of : NumberBase → List ℕ → Option (List Datum)
words_of base text = all_read (data_word base) (subfields_of (pieces_of text))

abbrev commas : List ℕ → ℕ
commas text = length (filter (λ c. c == comma) text)

-- behind digits of a number: a comma, or nothing
behind-comma : (kind : DeckKind) (base : NumberBase) (front rest : List ℕ) → list_all (is_digit_in base) front ≡ true → AreCounted kind (words_of base rest) (1 + commas rest) →
    AreCounted kind (words_of base (front ++ comma ∷ rest)) (1 + (1 + commas rest))
behind-comma kind base [] rest digits are = word-more kind ZeroWord (words_of base rest) (1 + commas rest) refl are
behind-comma kind base (c ∷ cs) rest digits are =
    subst (λ (pieces : List Piece). AreCounted kind (all_read (data_word base) (subfields_of pieces)) (1 + (1 + commas rest))) (sym (digits-pieces base c cs (comma ∷ rest) digits refl refl))
    (number-more kind (number_read base (c ∷ cs)) (words_of base rest) (1 + commas rest) (number-some base c cs digits) are)

at-end : (kind : DeckKind) (base : NumberBase) (front : List ℕ) → list_all (is_digit_in base) front ≡ true → AreCounted kind (words_of base (front ++ [])) 1
at-end kind base [] digits = record { some = refl; words = refl }
at-end kind base (c ∷ cs) digits =
    subst (λ (pieces : List Piece). AreCounted kind (all_read (data_word base) (subfields_of pieces)) 1) (sym (digits-pieces base c cs [] digits refl refl))
    (number-more kind (number_read base (c ∷ cs)) (Some []) 0 (number-some base c cs digits) (record { some = refl; words = refl }))

-- commas and digits behind digits of a number
counted-on : (kind : DeckKind) (base : NumberBase) (front text : List ℕ) → list_all (is_digit_in base) front ≡ true → list_all (is_of_numbers (last_digit base)) text ≡ true →
    AreCounted kind (words_of base (front ++ text)) (1 + commas text)
counted-on kind base front [] digits all = at-end kind base front digits
counted-on kind base front (c ∷ cs) digits all =
    let parts = and_parts (is_of_numbers (last_digit base) c) (list_all (is_of_numbers (last_digit base)) cs) all in
    by (c == comma) refl parts.0 (λ more more-digits. counted-on kind base more cs more-digits parts.1)
  where
    by : (b : Bool) → (c == comma) ≡ b → (b || is_digit_in base c) ≡ true →
        ((more : List ℕ) → list_all (is_digit_in base) more ≡ true → AreCounted kind (words_of base (more ++ cs)) (1 + commas cs)) →
        AreCounted kind (words_of base (front ++ c ∷ cs)) (1 + length (cond b (c ∷ filter (λ c. c == comma) cs) (filter (λ c. c == comma) cs)))
    by true e of before =
        let more : 1 + commas cs ≡ suc (commas cs) = omega arith in
        subst (λ (n : ℕ). AreCounted kind (words_of base (front ++ c ∷ cs)) (1 + n)) more
        (subst (λ (d : ℕ). AreCounted kind (words_of base (front ++ d ∷ cs)) (1 + (1 + commas cs))) (sym (eqb-true c comma e))
        (behind-comma kind base front cs digits (before [] refl)))
    by false e of before =
        subst (λ (text : List ℕ). AreCounted kind (words_of base text) (1 + commas cs)) (append_assoc front (c ∷ []) cs)
        (before (front ++ c ∷ []) (list_all-append (is_digit_in base) front (c ∷ []) ∙ and_from (list_all (is_digit_in base) front) (is_digit_in base c && true) digits (and_from (is_digit_in base c) true of refl)))

-- commas and digits alone: one word more than they have commas
pub are_counted : (kind : DeckKind) (base : NumberBase) (text : List ℕ) → list_all (is_of_numbers (last_digit base)) text ≡ true →
    AreCounted kind (all_read (data_word base) (subfields_of (pieces_of text))) (1 + length (filter (λ c. c == comma) text))
are_counted kind base text all = counted-on kind base [] text refl all
