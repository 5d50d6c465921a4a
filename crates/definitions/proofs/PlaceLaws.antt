-- Places are lawful, and the least.
use Rattle.std.{proofs.Common.{◌≡◌, ◌≢◌, ℕ, ◌+◌, ◌-◌, ◌*◌, ◌/◌, ◌%◌, ◌≤◌, Bool, true, false, ◌&&◌, ◌||◌, ◌⊎◌, inl, inr, nat_eq, refl, arith, List}, specs.Prelude.if◌then◌else◌, proofs.lemmas.Bool.Decides.eqb_tells}
use Rattle.definitions.specs.{Operations.Operation, Operands.Operand, Kinds.units, Places.{MayStand, least_place, is_at_word, is_upper, is_long}, declared.deck_kind.DeckKind.DeckKind, declared.deck_kind.DeckKind.TheVariants.{Rel, Abs, Periph}}

-- the next word at or behind a place
word_behind : (from : ℕ) → from ≤ (from + 4 - 1) / 4 * 4
word_behind from = omega arith

word_whole : (from : ℕ) → (from + 4 - 1) / 4 * 4 % 4 ≡ 0
word_whole from = omega arith

word_least : (from place : ℕ) → from ≤ place → place % 4 ≡ 0 → (from + 4 - 1) / 4 * 4 ≤ place
word_least from place behind whole = omega arith

-- the place in a central deck: at a word, or past the last parcel for a long instruction
abbrev pub place_in_parcels : Bool → Bool → ℕ → ℕ
place_in_parcels word long from = if word then (from + 4 - 1) / 4 * 4 else (if long && (nat_eq (from % 4) 3) then from + 1 else from)

past_behind : (long : Bool) (from : ℕ) (at_last : Bool) → from ≤ (if long && at_last then from + 1 else from)
past_behind true from true = omega arith
past_behind true from false = omega arith
past_behind false from at_last = omega arith

-- a place in parcels is not before the end it is reckoned from
pub place-behind : (word long : Bool) (from : ℕ) → from ≤ place_in_parcels word long from
place-behind true long from = word_behind from
place-behind false long from = past_behind long from (nat_eq (from % 4) 3)

-- what stands at a word has parcel 0
pub place-at_word : (word long : Bool) (from : ℕ) → word ≡ true → place_in_parcels word long from % 4 ≡ 0
place-at_word true long from e = word_whole from
place-at_word false long from e = cc

past_whole : (from : ℕ) → (if true && (nat_eq (from % 4) 3) then from + 1 else from) % 4 ≢ 3
past_whole from = elim (eqb_tells (from % 4) 3) [
  | inl h ↦ λ e. let moved : (from + 1) % 4 ≡ 3 = rw h.0 at e in let last : from % 4 ≡ 3 = h.1 in omega arith
  | inr h ↦ λ e. let same : from % 4 ≡ 3 = rw h.0 at e in h.1 same
]

-- a long instruction does not begin in the last parcel
pub place-whole : (word long : Bool) (from : ℕ) → long ≡ true → place_in_parcels word long from % 4 ≢ 3
place-whole true long from e = let whole = word_whole from in λ last. absurd (omega arith)
place-whole false true from e = past_whole from
place-whole false false from e = cc

past_least : (from place : ℕ) → from ≤ place → place % 4 ≢ 3 → (if true && (nat_eq (from % 4) 3) then from + 1 else from) ≤ place
past_least from place behind whole = elim (eqb_tells (from % 4) 3) [
  | inl h ↦ rw h.0 (let last : from % 4 ≡ 3 = h.1 in omega arith)
  | inr h ↦ rw h.0 behind
]

-- no lawful place in parcels is before it
pub place-least : (word long : Bool) (from place : ℕ) → from ≤ place → (word ≡ true → place % 4 ≡ 0) → (long ≡ true → place % 4 ≢ 3) → place_in_parcels word long from ≤ place
place-least true long from place behind whole parcels = word_least from place behind (whole refl)
place-least false true from place behind whole parcels = past_least from place behind (parcels refl)
place-least false false from place behind whole parcels = behind

or_left : (a b : Bool) → a ≡ true → (a || b) ≡ true
or_left true b e = refl
or_left false b e = cc

or_right : (a b : Bool) → b ≡ true → (a || b) ≡ true
or_right true b e = refl
or_right false b e = e

or_cases : (a b : Bool) → (a || b) ≡ true → (a ≡ true) ⊎ (b ≡ true)
or_cases true b e = inl refl
or_cases false b e = inr e

-- whether a statement stands at a word
abbrev stands_at_word : DeckKind → Operation → Operand → List ℕ → Bool → Bool
stands_at_word kind operation operand location asks = is_at_word operation operand || is_upper kind operation location asks

-- a place in a peripheral deck is the next word, whatever is asked
whole_in_words : (word : Bool) (from : ℕ) → (if word then (from + 1 - 1) / 1 * 1 else from) ≡ from
whole_in_words true from = omega arith
whole_in_words false from = refl

-- the least place is not before the end it is reckoned from
pub least_place-behind : (kind : DeckKind) (operation : Operation) (operand : Operand) (location : List ℕ) (asks : Bool) (from : ℕ) → from ≤ least_place kind operation operand location asks from
least_place-behind Rel operation operand location asks from = place-behind (stands_at_word Rel operation operand location asks) (is_long Rel operation operand) from
least_place-behind Abs operation operand location asks from = place-behind (stands_at_word Abs operation operand location asks) (is_long Abs operation operand) from
least_place-behind Periph operation operand location asks from = let e = whole_in_words (stands_at_word Periph operation operand location asks) from in omega (arith, e)

central_lawful : (kind : DeckKind) (operation : Operation) (operand : Operand) (location : List ℕ) (asks : Bool) (place : ℕ) → units kind ≡ 4 →
    (stands_at_word kind operation operand location asks ≡ true → place % 4 ≡ 0) → (is_long kind operation operand ≡ true → place % 4 ≢ 3) → MayStand kind operation operand location asks place
central_lawful kind operation operand location asks place four word long = record {
  data_at_word = λ h. rw four (word (or_left (is_at_word operation operand) (is_upper kind operation location asks) h));
  upper_at_word = λ h. rw four (word (or_right (is_at_word operation operand) (is_upper kind operation location asks) h));
  long_whole = long;
}

-- the least place is lawful
pub least_place-lawful : (kind : DeckKind) (operation : Operation) (operand : Operand) (location : List ℕ) (asks : Bool) (from : ℕ) → MayStand kind operation operand location asks (least_place kind operation operand location asks from)
least_place-lawful Rel operation operand location asks from =
    let word = stands_at_word Rel operation operand location asks in let long = is_long Rel operation operand in
    central_lawful Rel operation operand location asks _ refl (place-at_word word long from) (place-whole word long from)
least_place-lawful Abs operation operand location asks from =
    let word = stands_at_word Abs operation operand location asks in let long = is_long Abs operation operand in
    central_lawful Abs operation operand location asks _ refl (place-at_word word long from) (place-whole word long from)
least_place-lawful Periph operation operand location asks from = record {
  data_at_word = λ h. omega arith;
  upper_at_word = λ h. omega arith;
  long_whole = λ h. cc;
}

-- a lawful place of a statement that stands at a word is at a word
word_of_lawful : (kind : DeckKind) (operation : Operation) (operand : Operand) (location : List ℕ) (asks : Bool) (place : ℕ) → units kind ≡ 4 →
    MayStand kind operation operand location asks place → stands_at_word kind operation operand location asks ≡ true → place % 4 ≡ 0
word_of_lawful kind operation operand location asks place four may h = elim (or_cases (is_at_word operation operand) (is_upper kind operation location asks) h) [
  | inl a ↦ rw four at (may.data_at_word a)
  | inr b ↦ rw four at (may.upper_at_word b)
]

-- no lawful place is before the least one
pub least_place-least : (kind : DeckKind) (operation : Operation) (operand : Operand) (location : List ℕ) (asks : Bool) (from place : ℕ) → from ≤ place →
    MayStand kind operation operand location asks place → least_place kind operation operand location asks from ≤ place
least_place-least Rel operation operand location asks from place behind may =
    place-least (stands_at_word Rel operation operand location asks) (is_long Rel operation operand) from place behind (word_of_lawful Rel operation operand location asks place refl may) may.long_whole
least_place-least Abs operation operand location asks from place behind may =
    place-least (stands_at_word Abs operation operand location asks) (is_long Abs operation operand) from place behind (word_of_lawful Abs operation operand location asks place refl may) may.long_whole
least_place-least Periph operation operand location asks from place behind may = let e = whole_in_words (stands_at_word Periph operation operand location asks) from in omega (arith, e)
