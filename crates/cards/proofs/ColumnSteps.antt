-- Steps over the columns of cards.
use Rattle.std.{proofs.Common.{◌≡◌, ◌≢◌, ℕ, Bool, if◌then◌else◌, ◌+◌, ◌-◌, ◌≤◌, ◌<◌, zero, suc, true, false, true≢false, not, ◌&&◌, cond, Some, None, List, [], ◌∷◌, ◌++◌, length, take, drop, position, refl, sym, ap, subst, ◌∙◌, arith, le-ltb, get_or}, specs.Prelude.{nat_lt, replicate, is_some, is_none}, specs.List.{list_all, position_or_len}, proofs.Math.Bool.and-true, proofs.lemmas.Bool.ne_eqb, proofs.lemmas.List.Folds.list_all-append, proofs.lemmas.List.{take_more, take-take, take-replicate, drop-replicate, take_at}}
use Rattle.definitions.specs.{Cards.{trimmed, onto_columns, padded, checked, card_of, IsCard, TooWide}, Characters.{blank, display_code_of}}
use Rattle.cards.specs.Joins.Columns.{IsPadded}

-- a blank more at the end is dropped
trimmed-blank : (cs : List ℕ) → trimmed (cs ++ blank ∷ []) ≡ trimmed cs
trimmed-blank [] = refl
trimmed-blank (c ∷ cs) = ap (onto_columns c) (trimmed-blank cs)

-- in front of columns that do not end here
onto_columns-more : (c d : ℕ) (cs : List ℕ) → onto_columns c (cs ++ d ∷ []) ≡ c ∷ (cs ++ d ∷ [])
onto_columns-more c d [] = refl
onto_columns-more c d (e ∷ cs) = refl

-- behind another character nothing is dropped
trimmed-other : (cs : List ℕ) (d : ℕ) → d ≢ blank → trimmed (cs ++ d ∷ []) ≡ cs ++ d ∷ []
trimmed-other [] d other = rw (ne_eqb d 32 other) refl
trimmed-other (c ∷ cs) d other = ap (onto_columns c) (trimmed-other cs d other) ∙ onto_columns-more c d cs

-- a blank column less
pub trimmed-shorter : (line : List ℕ) (len : ℕ) → 0 < len → len ≤ length line → get_or line (len - 1) 0 ≡ blank → trimmed (take (len - 1) line) ≡ trimmed (take len line)
trimmed-shorter line len some within is =
    let k = len - 1 in
    let more : k + 1 ≡ len = omega (arith, some) in
    sym (trimmed-blank (take k line)) ∙ ap trimmed (ap (λ c. take k line ++ c ∷ []) (sym is) ∙ sym (take_more line k 0 (omega (arith, some, within))))
    ∙ ap (λ n. trimmed (take n line)) more

-- another column ends what is kept
pub trimmed-ends : (line : List ℕ) (len : ℕ) → 0 < len → len ≤ length line → get_or line (len - 1) 0 ≢ blank → take len line ≡ trimmed (take len line)
trimmed-ends line len some within other =
    let k = len - 1 in
    let more : k + 1 ≡ len = omega (arith, some) in
    let one_more = take_more line k 0 (omega (arith, some, within)) in
    let ends : take (k + 1) line ≡ trimmed (take (k + 1) line) = one_more ∙ sym (trimmed-other (take k line) (get_or line k 0) other) ∙ ap trimmed (sym one_more) in
    subst (λ n. take n line ≡ trimmed (take n line)) more ends

-- where all characters are lawful, none is bad
lawful-whole : (cs : List ℕ) → list_all (λ c. is_some (display_code_of c)) cs ≡ true → position_or_len (λ c. is_none (display_code_of c)) cs ≡ length cs
lawful-whole [] h = refl
lawful-whole (c ∷ cs) h =
    elim (is_some (display_code_of c)) as (λ b. (b && list_all (λ d. is_some (display_code_of d)) cs) ≡ true → cond (not (not b)) (1 + position_or_len (λ d. is_none (display_code_of d)) cs) 0 ≡ length (c ∷ cs)) [
      | true ↦ λ all. let rest = lawful-whole cs all in omega (arith, rest)
      | false ↦ λ all. absurd (true≢false (sym all))
    ] h

none_bad : (cs : List ℕ) → list_all (λ c. is_some (display_code_of c)) cs ≡ true → None ≡ position (λ c. is_none (display_code_of c)) cs
none_bad cs h =
    let whole = lawful-whole cs h in
    let all = length cs in
    sym (ap (λ n. cond (nat_lt n all) (Some n) None) whole ∙ ap (λ t. cond t (Some all) None) (le-ltb all all (omega arith)))

-- a card that is read of lawful columns
pub lawful-read : (line columns : List ℕ) → columns ≡ trimmed line → length columns ≤ 80 → list_all (λ c. is_some (display_code_of c)) columns ≡ true → IsCard columns ≡ card_of line
lawful-read line columns e room h =
    let place = position (λ c. is_none (display_code_of c)) columns in
    ap (checked columns) (none_bad columns h)
    ∙ ap (λ t. if t then TooWide else checked columns place) (sym (le-ltb 80 (length columns) room))
    ∙ ap (λ l. if nat_lt 80 (length l) then TooWide else checked l (position (λ c. is_none (display_code_of c)) l)) e

-- as many blanks as are wanted are enough
blanks-enough : (n few many : ℕ) (cs : List ℕ) → n ≤ few → few ≤ many → take n (cs ++ replicate many blank) ≡ take n (cs ++ replicate few blank)
blanks-enough zero few many cs h more = refl
blanks-enough (suc n) few many [] h more = take-replicate (suc n) many blank (omega arith) ∙ sym (take-replicate (suc n) few blank h)
blanks-enough (suc n) few many (c ∷ cs) h more = ap (λ l. c ∷ l) (blanks-enough n few many cs (omega arith) more)

-- the first columns of a padded card
pub padded-shorter : (few many : ℕ) (cs : List ℕ) → few ≤ many → take few (padded many cs) ≡ padded few cs
padded-shorter few many cs more = take-take few many (cs ++ replicate many blank) more ∙ blanks-enough few few many cs (omega arith) more

-- blanks behind the columns, as far as the card goes
padded-whole : (m n : ℕ) (cs : List ℕ) → length cs ≤ m → m ≤ n → take m (cs ++ replicate n blank) ≡ cs ++ replicate (m - length cs) blank
padded-whole m n [] room more = take-replicate m n blank more ∙ ap (λ k. replicate k blank) (let e : m ≡ m - 0 = omega arith in e)
padded-whole zero n (c ∷ cs) room more = absurd (omega arith)
padded-whole (suc m) n (c ∷ cs) room more =
    ap (λ l. c ∷ l) (padded-whole m n cs (omega arith) (omega arith))
    ∙ ap (λ k. c ∷ (cs ++ replicate k blank)) (let e : m - length cs ≡ suc m - suc (length cs) = omega arith in e)

-- blanks are lawful
lawful-blanks : (n : ℕ) → list_all (λ c. is_some (display_code_of c)) (replicate n blank) ≡ true
lawful-blanks zero = refl
lawful-blanks (suc n) = lawful-blanks n

-- so a padded card is lawful where its columns are
pub lawful-padded : (cs : List ℕ) → length cs ≤ 80 → list_all (λ c. is_some (display_code_of c)) (padded 80 cs) ≡ list_all (λ c. is_some (display_code_of c)) cs
lawful-padded cs room =
    let all : List ℕ → Bool = list_all (λ c. is_some (display_code_of c)) in
    ap all (padded-whole 80 80 cs room (omega arith)) ∙ list_all-append (λ c. is_some (display_code_of c)) cs (replicate (80 - length cs) blank)
    ∙ ap (λ b. all cs && b) (lawful-blanks (80 - length cs)) ∙ and-true (all cs)

-- columns that stand in front of the blanks of a new card
pub IsPadded-copied : (text front back : List ℕ) → length text ≤ 80 → front ≡ text → back ≡ drop (length text) (replicate 80 blank) → IsPadded (length text) (front ++ back)
IsPadded-copied text front back room is behind = record {
  within = room;
  blank_behind =
      let all : front ++ back ≡ text ++ replicate (80 - length text) blank = ap (λ l. l ++ back) is ∙ ap (λ l. text ++ l) (behind ∙ drop-replicate (length text) 80 blank) in
      let kept : take (length text) (front ++ back) ≡ text = ap (λ l. take (length text) (l ++ back)) is ∙ take_at text back (length text) refl in
      all ∙ sym (padded-whole 80 80 text room (omega arith)) ∙ ap (padded 80) (sym kept);
}
