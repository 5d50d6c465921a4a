-- The steps of reading a variable field.
use Rattle.std.{proofs.Common.{ℕ, zero, suc, ◌≡◌, ◌≢◌, ◌==◌, ◌+◌, ◌-◌, ◌<◌, ◌≤◌, inl, inr, List, [], ◌∷◌, Bool, false, true≢false, Option, Some, None, is_some, if◌then◌else◌, length, take, drop, refl, sym, ◌∙◌, ap, subst, arith, codes, cond, true, nat_le, nat_lt, get_or}, specs.List.prefix_len, proofs.lemmas.Bool.Decides.eqb_tells, proofs.lemmas.List.{drop_more, Folds.length-prefix_len}}
use Rattle.definitions.{specs.Characters.{blank, is_digit, same_text}, specs.CountedItems.{CountedSpan, counted_item_at, counted_item_behind, counted_item_with, item_letter_of}, specs.Numerals.number_of, specs.Pieces.{Mark, mark_of, begun_by, Spot, AtStart, AtEquals, Inside, begun_by_counted_item, begun_at, spot_behind, left_of, field_at}, specs.Fields.variable_of, proofs.FieldLaws.{field_at-blank, field_at-other}}

-- a field begins its text
pub take-field_at : (spot : Spot) (left : ℕ) (text : List ℕ) → take (length (field_at spot left text)) text ≡ field_at spot left text
take-field_at spot zero [] = refl
take-field_at spot (suc left) [] = refl
take-field_at spot (suc left) (c ∷ cs) = ap (λ (t : List ℕ). c ∷ t) (take-field_at spot left cs)
take-field_at spot zero (c ∷ cs) =
    let P : List ℕ → Type 0 = λ f. take (length f) (c ∷ cs) ≡ f in
    elim (eqb_tells c blank) [
      | inl h ↦ subst P (sym (field_at-blank spot c cs h.1)) refl
      | inr h ↦ subst P (sym (field_at-other spot c cs h.1))
          (ap (λ (t : List ℕ). c ∷ t) (take-field_at (spot_behind (begun_at spot c cs)) (left_of (begun_at spot c cs)) cs))
    ]

nothing-more : (n : ℕ) → n ≡ 0 + n
nothing-more n = omega arith

one-more : (n : ℕ) → suc n ≡ 1 + n
one-more n = omega arith

behind-one : (all len rest : ℕ) → all ≡ len + rest → suc all ≡ suc len + rest
behind-one all len rest h = omega (arith, h)

-- a field of which so many characters belong to an item
field_at-item : (left : ℕ) (text : List ℕ) → left ≤ length text → length (field_at Inside left text) ≡ left + length (field_at Inside 0 (drop left text))
field_at-item zero text h = nothing-more (length (field_at Inside 0 text))
field_at-item (suc left) [] h = absurd (omega (arith, h))
field_at-item (suc left) (c ∷ cs) h =
    behind-one (length (field_at Inside left cs)) left (length (field_at Inside 0 (drop left cs))) (field_at-item left cs (omega (arith, h)))

-- the rest of an item behind its first character
item-rest : (taken left c : ℕ) (cs : List ℕ) → suc left ≡ taken → left ≤ length cs →
    suc (length (field_at Inside left cs)) ≡ taken + length (field_at Inside 0 (drop taken (c ∷ cs)))
item-rest taken left c cs e within =
    subst (λ (n : ℕ). suc (length (field_at Inside left cs)) ≡ n + length (field_at Inside 0 (drop n (c ∷ cs)))) e
    (behind-one (length (field_at Inside left cs)) left (length (field_at Inside 0 (drop left cs))) (field_at-item left cs within))

-- a field that an item begins
pub item-begins : (text : List ℕ) (counted : CountedSpan) → counted_item_at text ≡ Some counted → 0 < counted.taken → counted.taken ≤ length text →
    length (field_at AtEquals 0 text) ≡ counted.taken + length (field_at Inside 0 (drop counted.taken text))
item-begins [] counted e some within = absurd (omega (arith, some, within))
item-begins (c ∷ cs) counted e some within =
    let other : c ≢ blank = λ h. absurd (true≢false (ap is_some (sym e ∙ ap (λ (d : ℕ). counted_item_at (d ∷ cs)) h))) in
    ap length (field_at-other AtEquals c cs other)
    ∙ ap (λ (o : Option CountedSpan). suc (length (field_at (spot_behind (begun_by_counted_item c o)) (left_of (begun_by_counted_item c o)) cs))) e
    ∙ item-rest counted.taken (counted.taken - 1) c cs (omega (arith, some)) (omega (arith, some, within))

-- a field that no item begins
no-item-begins : (text : List ℕ) → counted_item_at text ≡ None → length (field_at AtEquals 0 text) ≡ length (field_at Inside 0 text)
no-item-begins [] e = refl
no-item-begins (c ∷ cs) e =
    ap (λ (o : Option CountedSpan). length (if c == blank then [] else c ∷ field_at (spot_behind (begun_by_counted_item c o)) (left_of (begun_by_counted_item c o)) cs)) e

-- no digit, and nothing with a lower code, is the letter of an item
no-letter : (c : ℕ) → nat_lt 57 c ≡ false → item_letter_of c ≡ None
no-letter c e = grind arith

pub no-letter-at : (text : List ℕ) (at d : ℕ) → at < length text → nat_lt 57 (get_or text at d) ≡ false → (digits count : ℕ) → counted_item_behind digits count (drop at text) ≡ None
no-letter-at text at d within low digits count =
    ap (counted_item_behind digits count) (drop_more text at d within) ∙ ap (counted_item_with digits count (drop (at + 1) text)) (no-letter (get_or text at d) low)

-- no item begins a text where no letter is behind its digits
pub no-item-behind : (text : List ℕ) (count : ℕ) → count ≡ prefix_len is_digit text → ((digits number : ℕ) → counted_item_behind digits number (drop count text) ≡ None) →
    counted_item_at text ≡ None
no-item-behind text count e none = by (nat_le 1 (length digits))
  where
    digits : List ℕ
    digits = take (prefix_len is_digit text) text

    same : drop (length digits) text ≡ drop count text
    same = ap (λ (n : ℕ). drop n text) (length-prefix_len is_digit text ∙ sym e)

    by : (b : Bool) → (if b then counted_item_behind (length digits) (number_of 10 digits) (drop (length digits) text) else None) ≡ None
    by true = ap (counted_item_behind (length digits) (number_of 10 digits)) same ∙ none (length digits) (number_of 10 digits)
    by false = refl

-- a digit is neither a blank nor a mark
digit-other : (c : ℕ) → is_digit c ≡ true → mark_of c ≡ None
digit-other c e = grind arith

digit-no_blank : (c : ℕ) → is_digit c ≡ true → (c == blank) ≡ false
digit-no_blank c e = grind arith

-- the digits within a field are passed over by their number
digits-inside : (text : List ℕ) → length (field_at Inside 0 text) ≡ prefix_len is_digit text + length (field_at Inside 0 (drop (prefix_len is_digit text) text))
digits-inside [] = refl
digits-inside (c ∷ cs) = by (is_digit c) refl (digits-inside cs)
  where
    by : (b : Bool) → is_digit c ≡ b → length (field_at Inside 0 cs) ≡ prefix_len is_digit cs + length (field_at Inside 0 (drop (prefix_len is_digit cs) cs)) →
        length (field_at Inside 0 (c ∷ cs)) ≡ cond b (1 + prefix_len is_digit cs) 0 + length (field_at Inside 0 (drop (cond b (1 + prefix_len is_digit cs) 0) (c ∷ cs)))
    by true e before =
        let more : suc (prefix_len is_digit cs) ≡ 1 + prefix_len is_digit cs = omega arith in
        ap (λ (t : Bool). length (if t then [] else c ∷ field_at (spot_behind (begun_at Inside c cs)) (left_of (begun_at Inside c cs)) cs)) (digit-no_blank c e)
        ∙ ap (λ (m : Option Mark). suc (length (field_at (spot_behind (begun_by c m)) (left_of (begun_by c m)) cs))) (digit-other c e)
        ∙ subst (λ (n : ℕ). suc (length (field_at Inside 0 cs)) ≡ n + length (field_at Inside 0 (drop n (c ∷ cs)))) more (behind-one _ _ _ before)
    by false e before = nothing-more (length (field_at Inside 0 (c ∷ cs)))

pub digits-begin : (text : List ℕ) (count : ℕ) → count ≡ prefix_len is_digit text → counted_item_at text ≡ None →
    length (field_at AtEquals 0 text) ≡ count + length (field_at Inside 0 (drop count text))
digits-begin text count e none =
    no-item-begins text none
    ∙ digits-inside text
    ∙ ap (λ (n : ℕ). n + length (field_at Inside 0 (drop n text))) (sym e)

-- the variable field of any operation but DIS
pub variable-other : (operation rest part : List ℕ) (len : ℕ) → same_text operation (codes "DIS") ≡ false → part ≡ rest →
    len ≡ length (field_at AtStart 0 part) → take len rest ≡ variable_of operation rest
variable-other operation rest part len e p h =
    ap (λ (n : ℕ). take n rest) (h ∙ ap (λ (t : List ℕ). length (field_at AtStart 0 t)) p)
    ∙ take-field_at AtStart 0 rest
    ∙ ap (λ (t : Bool). if t then rest else field_at AtStart 0 rest) (sym e)
