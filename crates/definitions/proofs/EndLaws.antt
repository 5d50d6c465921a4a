-- Where statements stand and end: at or behind the end of their block, and within it.
use Rattle.std.{proofs.Common.{ℕ, ◌≡◌, ◌+◌, ◌*◌, ◌%◌, ◌<◌, ◌≤◌, Bool, true, false, ◌||◌, List, [], Option, Some, None, Result, Ok, Err, refl, subst, arith, suc, inl, inr}, specs.Prelude.{nat_le, nat_lt, ℤ, pos, negsuc, if◌then◌else◌}, proofs.lemmas.Bool.leb-true, proofs.lemmas.Bool.Decides.eqb_tells}
use Rattle.definitions.{specs.Kinds.{units, most_words}, specs.Forms.{Form, is_absolute}, specs.Operations.{Operation, has_place}, specs.Operands.Operand, specs.Sizes.size_of, specs.Places.{Position, is_at_word, is_upper, is_long, to_word, past_last_parcel, least_place}, specs.Settled.Unchanged, specs.EarlyValues.{Outcome, outcome_of, outcome_of_value, outcome_of_size, origin_outcome, origin_word, is_origin_form, location_outcome, location_value, reserved_outcome, reserved, that_ends, in_words, stays_with, letter_of}, specs.Settling.{place_of, is_run}, specs.declared.deck_kind.DeckKind.DeckKind, specs.declared.deck_kind.DeckKind.TheVariants.{Rel, Abs, Periph}, specs.declared.letter.Letter.Letter, proofs.PlaceLaws.least_place-behind}
use Rattle.definitions.specs.Operations as op
use Rattle.definitions.specs.declared.letter.Letter.TheVariants as letter

to_word-behind : (kind : DeckKind) (place : ℕ) → place ≤ to_word kind place
to_word-behind Rel place = omega arith
to_word-behind Abs place = omega arith
to_word-behind Periph place = omega arith

to_word-within : (kind : DeckKind) (place : ℕ) → place ≤ units kind * most_words kind → to_word kind place ≤ units kind * most_words kind
to_word-within Rel place h = omega arith
to_word-within Abs place h = omega arith
to_word-within Periph place h = omega arith

past-within : (long : Bool) (place : ℕ) → place ≤ 524288 → past_last_parcel long place ≤ 524288
past-within false place h = h
past-within true place h = elim (eqb_tells (place % 4) 3) [
  | inl e ↦ rw e.0 (let last : place % 4 ≡ 3 = e.1 in omega arith)
  | inr e ↦ rw e.0 h
]

past_kind-within : (kind : DeckKind) (operation : Operation) (operand : Operand) (place : ℕ) → place ≤ units kind * most_words kind →
    past_last_parcel (is_long kind operation operand) place ≤ units kind * most_words kind
past_kind-within Rel operation operand place h = past-within (is_long Rel operation operand) place h
past_kind-within Abs operation operand place h = past-within (is_long Abs operation operand) place h
past_kind-within Periph operation operand place h = h

-- a statement stands at or behind the position of its block
pub place_of-behind : (kind : DeckKind) (operation : Operation) (operand : Operand) (location : List ℕ) (position : Position) → position.end ≤ place_of kind operation operand location position
place_of-behind kind operation operand location position = step (has_place operation) position.asks
  where
    step : (s t : Bool) → position.end ≤ (if s then least_place kind operation operand location position.asks position.end else if t then to_word kind position.end else position.end)
    step true t = least_place-behind kind operation operand location position.asks position.end
    step false true = to_word-behind kind position.end
    step false false = omega arith

-- and no farther than the block goes
pub place_of-within : (kind : DeckKind) (operation : Operation) (operand : Operand) (location : List ℕ) (position : Position) → position.end ≤ units kind * most_words kind →
    place_of kind operation operand location position ≤ units kind * most_words kind
place_of-within kind operation operand location position h = step (has_place operation) position.asks (is_at_word operation operand || is_upper kind operation location position.asks)
  where
    step : (s t u : Bool) → (if s then (if u then to_word kind position.end else past_last_parcel (is_long kind operation operand) position.end)
        else if t then to_word kind position.end else position.end) ≤ units kind * most_words kind
    step true t true = to_word-within kind position.end h
    step true t false = past_kind-within kind operation operand position.end h
    step false true u = to_word-within kind position.end h
    step false false u = h

-- how a statement of an operation ends: behind its place, or an ORG at a word, within the block
pub record IsEnding (kind : DeckKind) (operation : Operation) (place : ℕ) (outcome : Outcome) : Type 0 where
  pub ordered : is_run outcome.setting ≡ false → place ≤ outcome.end
  pub within : place ≤ units kind * most_words kind → outcome.end ≤ units kind * most_words kind
  pub is_origin : is_run outcome.setting ≡ true → operation ≡ op.Org
  pub at_word : is_run outcome.setting ≡ true → outcome.end % units kind ≡ 0
  pub in_block : is_run outcome.setting ≡ true → outcome.end < units kind * most_words kind

-- one that begins no run
ending : (kind : DeckKind) (operation : Operation) (place : ℕ) (outcome : Outcome) → is_run outcome.setting ≡ false → place ≤ outcome.end →
    (place ≤ units kind * most_words kind → outcome.end ≤ units kind * most_words kind) → IsEnding kind operation place outcome
ending kind operation place outcome e behind within = record {
  ordered = λ h. behind;
  within = within;
  is_origin = λ h. cc;
  at_word = λ h. cc;
  in_block = λ h. cc;
}

stays-ending : (kind : DeckKind) (operation : Operation) (place : ℕ) (fault : Letter) → IsEnding kind operation place (stays_with place fault)
stays-ending kind operation place fault = ending kind operation place (stays_with place fault) refl (omega arith) (λ h. h)

size-ending : (kind : DeckKind) (operation : Operation) (place size : ℕ) → IsEnding kind operation place (outcome_of_size kind place size)
size-ending kind operation place size = step (nat_le (place + size) (most_words kind * units kind)) refl
  where
    step : (t : Bool) → nat_le (place + size) (most_words kind * units kind) ≡ t →
        IsEnding kind operation place (if t then record { end = place + size; setting = Unchanged; letters = [] } else stays_with place letter.A)
    step true e = let room : place + size ≤ most_words kind * units kind = leb-true (place + size) (most_words kind * units kind) e in
        ending kind operation place (record { end = place + size; setting = Unchanged; letters = [] }) refl (omega arith) (λ h. omega arith)
    step false e = stays-ending kind operation place letter.A

-- ORG goes to a word of its block
in_words-below : (most n : ℕ) (number : ℤ) → in_words most number ≡ Ok n → n < most
in_words-below most n (pos m) e = step (nat_lt m most) refl e
  where
    step : (t : Bool) → nat_lt m most ≡ t → (if t then Ok m else Err letter.A) ≡ Ok n → n < most
    step true is e = let same : m ≡ n = cc in subst (λ k. k < most) same (leb-true (suc m) most is)
    step false is e = cc
in_words-below most n (negsuc m) e = cc

origin_word-below : (kind : DeckKind) (block : List ℕ) (value : Result Form Letter) (n : ℕ) → origin_word kind block value ≡ Ok n → n < most_words kind
origin_word-below kind block (Err fault) n e = cc
origin_word-below kind block (Ok form) n e = step (is_origin_form kind block form) e
  where
    step : (t : Bool) → (if t then in_words (most_words kind) form.number else Err letter.R) ≡ Ok n → n < most_words kind
    step true e = in_words-below (most_words kind) n form.number e
    step false e = cc

word_in_block : (kind : DeckKind) (n : ℕ) → n < most_words kind → (n * units kind % units kind ≡ 0) × (n * units kind < units kind * most_words kind)
word_in_block Rel n h = (omega arith, omega arith)
word_in_block Abs n h = (omega arith, omega arith)
word_in_block Periph n h = (omega arith, omega arith)

origin-ending : (kind : DeckKind) (place : ℕ) (word : Result ℕ Letter) → ((n : ℕ) → word ≡ Ok n → n < most_words kind) → IsEnding kind op.Org place (origin_outcome kind place word)
origin-ending kind place (Err fault) below = stays-ending kind op.Org place fault
origin-ending kind place (Ok n) below =
    let is = word_in_block kind n (below n refl) in
    record {
      ordered = λ e. cc;
      within = λ h. let small = is.1 in omega arith;
      is_origin = λ e. refl;
      at_word = λ e. is.0;
      in_block = λ e. is.1;
    }

location-ending : (kind : DeckKind) (operation : Operation) (place : ℕ) (value : Result Form Letter) → IsEnding kind operation place (location_outcome place value)
location-ending kind operation place (Err fault) = stays-ending kind operation place fault
location-ending kind operation place (Ok form) = ending kind operation place (location_outcome place (Ok form)) refl (omega arith) (λ h. h)

-- BSS and BSSZ end within the block
that_ends-within : (kind : DeckKind) (place n : ℕ) (words : Result ℕ Letter) → that_ends kind place words ≡ Ok n → place + n * units kind ≤ most_words kind * units kind
that_ends-within kind place n (Err fault) e = cc
that_ends-within kind place n (Ok m) e = step (nat_le (place + m * units kind) (most_words kind * units kind)) refl e
  where
    step : (t : Bool) → nat_le (place + m * units kind) (most_words kind * units kind) ≡ t → (if t then Ok m else Err letter.A) ≡ Ok n → place + n * units kind ≤ most_words kind * units kind
    step true is e = let same : m ≡ n = cc in subst (λ k. place + k * units kind ≤ most_words kind * units kind) same (leb-true (place + m * units kind) (most_words kind * units kind) is)
    step false is e = cc

reserved-within : (kind : DeckKind) (place n : ℕ) (value : Result Form Letter) → reserved kind place value ≡ Ok n → place + n * units kind ≤ most_words kind * units kind
reserved-within kind place n (Err fault) e = cc
reserved-within kind place n (Ok form) e = step (is_absolute form) e
  where
    step : (t : Bool) → (if t then that_ends kind place (in_words (most_words kind) form.number) else Err letter.R) ≡ Ok n → place + n * units kind ≤ most_words kind * units kind
    step true e = that_ends-within kind place n (in_words (most_words kind) form.number) e
    step false e = cc

reserved-ending : (kind : DeckKind) (operation : Operation) (place : ℕ) (words : Result ℕ Letter) →
    ((n : ℕ) → words ≡ Ok n → place + n * units kind ≤ most_words kind * units kind) → IsEnding kind operation place (reserved_outcome kind place words)
reserved-ending kind operation place (Err fault) room = stays-ending kind operation place fault
reserved-ending kind operation place (Ok n) room = let most = room n refl in ending kind operation place (reserved_outcome kind place (Ok n)) refl (omega arith) (λ h. omega arith)

value-ending : (kind : DeckKind) (operation : Operation) (block : List ℕ) (place : ℕ) (value : Result Form Letter) → IsEnding kind operation place (outcome_of_value kind operation block place value)
value-ending kind op.Org block place value = origin-ending kind place (origin_word kind block value) (origin_word-below kind block value)
value-ending kind op.Loc block place value = location-ending kind op.Loc place (location_value kind value)
value-ending kind op.Bss block place value = reserved-ending kind op.Bss place (reserved kind place value) (λ n e. reserved-within kind place n value e)
value-ending kind op.Bssz block place value = reserved-ending kind op.Bssz place (reserved kind place value) (λ n e. reserved-within kind place n value e)
value-ending kind operation block place value = ending kind operation place (record { end = place; setting = Unchanged; letters = letter_of value }) refl (omega arith) (λ h. h)

-- how each statement ends
pub outcome-ending : (kind : DeckKind) (operation : Operation) (operand : Operand) (block : List ℕ) (place : ℕ) (value : Option (Result Form Letter)) →
    IsEnding kind operation place (outcome_of kind operation operand block place value)
outcome-ending kind operation operand block place None = size-ending kind operation place (size_of kind operand)
outcome-ending kind operation operand block place (Some value) = value-ending kind operation block place value
