-- How many blocks, literals and words a deck has at most.
use Rattle.std.{proofs.Common.{ℕ, ◌≡◌, ◌+◌, ◌-◌, ◌*◌, ◌/◌, ◌<◌, ◌≤◌, ◌==◌, Bool, true, false, not, ◌&&◌, ◌||◌, List, [], ◌∷◌, ◌++◌, length, suc, max, Option, Some, None, Ok, Err, Result, refl, ap, subst, arith, inl, inr, length-append}, proofs.lemmas.List.length-map, proofs.lemmas.Bool.{leb-true, leb-false}, proofs.lemmas.Bool.Decides.leb_tells, proofs.lemmas.List.Elements.All-from_recursion, specs.Prelude.{map, All, if◌then◌else◌, nat_lt, nat_le}, specs.List.{AllByRecursion, list_any}}
use Rattle.definitions.specs.{Characters.same_text, Kinds.{units, most_words}, Forms.{Form, is_absolute}, Operations.{Operation, has_place}, Operands.{Operand, UseName}, Statements.Statement, Sizes.size_of, Settled.{ReadStatement, read_of, Settled, NoChange, Opens, Unchanged}, Blocks.{blocks_used, changes, with_opened, is_named, is_accepted, change_of}, EarlyValues.{Outcome, outcome_of, outcome_of_value, outcome_of_size, origin_outcome, origin_word, location_outcome, location_value, reserved_outcome, reserved, that_ends, in_words, letter_of}, Settling.{Seen, seen_of, settle, settled_all, settled_with, is_run, Standing, standing_of}, Lengths.{BlockLength, block_rows, lengths_of, length_of, literals_row, reached, rows_from, local_words, placed_row, total_length}, Literals.{literal_words, with_literals, with_word, operand_literals, literal_word}, Expressions.Literal, declared.deck_kind.DeckKind.DeckKind, declared.deck_kind.DeckKind.TheVariants.{Rel, Abs, Periph}, declared.letter.Letter.Letter}
use Rattle.definitions.specs.Operations as op
use Rattle.definitions.specs.declared.letter.Letter.TheVariants as letter

-- blocks: a change opens one where it is accepted
opened-few : (name : List ℕ) (names : List (List ℕ)) → length names ≤ 64 → is_accepted name names ≡ true → length (with_opened (Opens name) names) ≤ 64
opened-few name names few accepted =
    elim (is_named name names) as (λ t. (t || nat_lt (length names) 64) ≡ true → length (if t then names else names ++ name ∷ []) ≤ 64) [
      | true ↦ λ a. few
      | false ↦ λ a. let below : suc (length names) ≤ 64 = leb-true (suc (length names)) 64 a in rw (length-append names (name ∷ [])) (omega arith)
    ] accepted

changed-few : (operand : Operand) (names : List (List ℕ)) → length names ≤ 64 → length (with_opened (change_of operand names) names) ≤ 64
changed-few (UseName name) names few = step (is_accepted name names) refl
  where
    step : (t : Bool) → is_accepted name names ≡ t → length (with_opened (if t then Opens name else NoChange) names) ≤ 64
    step true e = opened-few name names few e
    step false e = few
changed-few operand names few = few

used-few : (kind : DeckKind) (statements : List Statement) → length (blocks_used (changes (settled_all kind statements))) ≤ 64
used-few kind [] = omega arith
used-few kind (statement ∷ earlier) =
    let settled = settled_all kind earlier in
    changed-few (settle kind settled statement).read.operand (blocks_used (changes settled)) (used-few kind earlier)

pub lengths-few : (kind : DeckKind) (statements : List Statement) → length (lengths_of kind (settled_all kind statements)) ≤ 64
lengths-few kind statements =
    let settled = settled_all kind statements in
    rw (length-map (blocks_used (changes settled)) (λ (name : List ℕ). let b : BlockLength = record { name = name; words = length_of kind name settled } in b)) (used-few kind statements)

-- literals: a word comes in where there is room
word-few : (word : ℕ) (words : List ℕ) → length words ≤ 131072 → length (with_word word words) ≤ 131072
word-few word words few = step (list_any (λ other. other == word) words) (nat_le 131072 (length words)) refl
  where
    step : (s t : Bool) → nat_le 131072 (length words) ≡ t → length (if s || t then words else words ++ word ∷ []) ≤ 131072
    step true t e = few
    step false true e = few
    step false false e = let room : length words < 131072 = leb-false 131072 (length words) e in rw (length-append words (word ∷ [])) (omega arith)

literals_few : (literals : List Literal) (words : List ℕ) → length words ≤ 131072 → length (with_literals literals words) ≤ 131072
literals_few [] words few = few
literals_few (literal ∷ literals) words few = literals_few literals (with_word (literal_word literal) words) (word-few (literal_word literal) words few)

pub literals-few : (settled : List Settled) → length (literal_words settled) ≤ 131072
literals-few [] = omega arith
literals-few (latest ∷ earlier) = literals_few (operand_literals latest.read.operand) (literal_words earlier) (literals-few earlier)

-- rows: one a block, and one for the literals
rows-length : (base : ℕ) (blocks : List BlockLength) → length (rows_from base blocks) ≡ length blocks
rows-length base [] = refl
rows-length base (block ∷ blocks) = ap suc (rows-length (base + local_words (placed_row base block)) blocks)

literals-one : (base : ℕ) (words : List ℕ) → length (literals_row base words) ≤ 1
literals-one base [] = omega arith
literals-one base (word ∷ words) = omega arith

pub rows-few : (kind : DeckKind) (statements : List Statement) → length (block_rows kind (settled_all kind statements)) ≤ 65
rows-few kind statements =
    let settled = settled_all kind statements in
    let blocks = lengths_of kind settled in
    let rows = rows_from 0 blocks in
    let literals = literals_row (total_length rows) (literal_words settled) in
    let few : length blocks ≤ 64 = lengths-few kind statements in
    let one : length literals ≤ 1 = literals-one (total_length rows) (literal_words settled) in
    let same : length rows ≡ length blocks = rows-length 0 blocks in
    rw (length-append rows literals) (omega arith)

-- words: a statement that reaches words of its block ends in it
abbrev IsWithin : DeckKind → ℕ → Outcome → Type 0
IsWithin kind place outcome = place < outcome.end → is_run outcome.setting ≡ false → outcome.end ≤ most_words kind * units kind

size-within : (kind : DeckKind) (place size : ℕ) → IsWithin kind place (outcome_of_size kind place size)
size-within kind place size = elim (leb_tells (place + size) (most_words kind * units kind)) [
  | inl h ↦ rw h.0 (λ begins run. h.1)
  | inr h ↦ rw h.0 (λ begins run. absurd (omega (arith, begins)))
]

origin-within : (kind : DeckKind) (place : ℕ) (word : Result ℕ Letter) → IsWithin kind place (origin_outcome kind place word)
origin-within kind place (Err fault) = λ h r. absurd (omega (arith, h))
origin-within kind place (Ok word) = λ h r. cc

location-within : (kind : DeckKind) (place : ℕ) (value : Result Form Letter) → IsWithin kind place (location_outcome place value)
location-within kind place (Err fault) = λ h r. absurd (omega (arith, h))
location-within kind place (Ok form) = λ h r. absurd (omega (arith, h))

ends-within : (kind : DeckKind) (place n : ℕ) (words : Result ℕ Letter) → that_ends kind place words ≡ Ok n → place + n * units kind ≤ most_words kind * units kind
ends-within kind place n (Err fault) e = cc
ends-within kind place n (Ok m) e = step (nat_le (place + m * units kind) (most_words kind * units kind)) refl e
  where
    step : (t : Bool) → nat_le (place + m * units kind) (most_words kind * units kind) ≡ t → (if t then Ok m else Err letter.A) ≡ Ok n → place + n * units kind ≤ most_words kind * units kind
    step true is e = let same : m ≡ n = cc in subst (λ k. place + k * units kind ≤ most_words kind * units kind) same (leb-true (place + m * units kind) (most_words kind * units kind) is)
    step false is e = cc

words-within : (kind : DeckKind) (place n : ℕ) (value : Result Form Letter) → reserved kind place value ≡ Ok n → place + n * units kind ≤ most_words kind * units kind
words-within kind place n (Err fault) e = cc
words-within kind place n (Ok form) e = step (is_absolute form) e
  where
    step : (t : Bool) → (if t then that_ends kind place (in_words (most_words kind) form.number) else Err letter.R) ≡ Ok n → place + n * units kind ≤ most_words kind * units kind
    step true e = ends-within kind place n (in_words (most_words kind) form.number) e
    step false e = cc

reserved-within : (kind : DeckKind) (place : ℕ) (value : Result Form Letter) (words : Result ℕ Letter) → reserved kind place value ≡ words → IsWithin kind place (reserved_outcome kind place words)
reserved-within kind place value (Err fault) e = λ h r. absurd (omega (arith, h))
reserved-within kind place value (Ok n) e = λ h r. words-within kind place n value e

stays : (kind : DeckKind) (place : ℕ) (letters : List Letter) → IsWithin kind place (record { end = place; setting = Unchanged; letters = letters })
stays kind place letters = λ h r. absurd (omega (arith, h))

value-within : (kind : DeckKind) (operation : Operation) (block : List ℕ) (place : ℕ) (value : Result Form Letter) → IsWithin kind place (outcome_of_value kind operation block place value)
value-within kind op.Org block place value = origin-within kind place (origin_word kind block value)
value-within kind op.Loc block place value = location-within kind place (location_value kind value)
value-within kind op.Bss block place value = reserved-within kind place value (reserved kind place value) refl
value-within kind op.Bssz block place value = reserved-within kind place value (reserved kind place value) refl
value-within kind _ block place value = stays kind place (letter_of value)

outcome-within : (kind : DeckKind) (operation : Operation) (operand : Operand) (block : List ℕ) (place : ℕ) (value : Option (Result Form Letter)) →
    IsWithin kind place (outcome_of kind operation operand block place value)
outcome-within kind operation operand block place None = size-within kind place (size_of kind operand)
outcome-within kind operation operand block place (Some value) = value-within kind operation block place value

-- the words that so many units begin
in_words-bounded : (kind : DeckKind) (end : ℕ) → end ≤ most_words kind * units kind → (end + units kind - 1) / units kind ≤ most_words kind
in_words-bounded Rel end h = omega arith
in_words-bounded Abs end h = omega arith
in_words-bounded Periph end h = omega arith

placed-bounded : (kind : DeckKind) (is_placed : Bool) (place : ℕ) (outcome : Outcome) → IsWithin kind place outcome →
    (if is_placed && nat_lt place outcome.end && not (is_run outcome.setting) then (outcome.end + units kind - 1) / units kind else 0) ≤ most_words kind
placed-bounded kind is_placed place outcome within = step is_placed (nat_lt place outcome.end) refl (is_run outcome.setting) refl
  where
    none : 0 ≤ most_words kind
    none = omega arith

    step : (p t : Bool) → nat_lt place outcome.end ≡ t → (r : Bool) → is_run outcome.setting ≡ r → (if p && t && not r then (outcome.end + units kind - 1) / units kind else 0) ≤ most_words kind
    step true true e false f = in_words-bounded kind outcome.end (within (leb-true (suc place) outcome.end e) f)
    step true true e true f = none
    step true false e r f = none
    step false t e r f = none

with-bounded : (kind : DeckKind) (seen : Seen) (read : ReadStatement) (standing : Standing) → reached kind (settled_with kind seen read standing) ≤ most_words kind
with-bounded kind seen read standing =
    placed-bounded kind (has_place read.operation) standing.place (outcome_of kind read.operation read.operand seen.block standing.place standing.value)
    (outcome-within kind read.operation read.operand seen.block standing.place standing.value)

pub reached-bounded : (kind : DeckKind) (earlier : List Settled) (statement : Statement) → reached kind (settle kind earlier statement) ≤ most_words kind
reached-bounded kind earlier statement =
    let seen = seen_of earlier in
    let read = read_of kind seen.number_base statement in
    with-bounded kind seen read (standing_of kind seen read)

length-bounded : (kind : DeckKind) (statements : List Statement) (name : List ℕ) → length_of kind name (settled_all kind statements) ≤ most_words kind
length-bounded kind [] name = omega arith
length-bounded kind (statement ∷ statements) name =
    let earlier = settled_all kind statements in
    let settled = settle kind earlier statement in
    let here = reached-bounded kind earlier statement in
    let before = length-bounded kind statements name in
    elim (same_text settled.block name) as (λ t. max (if t then reached kind settled else 0) (length_of kind name earlier) ≤ most_words kind) [ true ↦ omega (arith, here, before) | false ↦ omega (arith, before) ]

pub lengths-bounded : (kind : DeckKind) (statements : List Statement) → All (λ (block : BlockLength). block.words ≤ most_words kind) (lengths_of kind (settled_all kind statements))
lengths-bounded kind statements =
    let settled = settled_all kind statements in
    All-from_recursion _ (lengths_of kind settled) (each (blocks_used (changes settled)))
  where
    each : (names : List (List ℕ)) →
        AllByRecursion (λ (block : BlockLength). block.words ≤ most_words kind) (map (λ (name : List ℕ). let b : BlockLength = record { name = name; words = length_of kind name (settled_all kind statements) } in b) names)
    each [] = tt
    each (name ∷ names) = (length-bounded kind statements name, each names)
