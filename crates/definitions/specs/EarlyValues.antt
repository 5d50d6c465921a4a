-- BSS, BSSZ, ORG, LOC and EQU: their value as the earlier statements give it, or their letter
-- (COMPASS 60492600, BSS, ORG, LOC, EQU; the order of the letters is ours).
use Rattle.std.specs.Prelude.{ℕ, ◌+◌, ◌*◌, List, [], ◌∷◌, Option, Some, None, Result, Ok, Err, Bool, true, false, ◌&&◌, nat_le, nat_lt, ℤ, pos, negsuc, if◌then◌else◌}
use Rattle.definitions.specs.{Characters.same_text, Kinds.{units, most_words, is_absolute_deck}, Symbols.is_nominal, Forms.{Form, Names, Part, Added, Block, absolute, is_absolute, and_then, value_of}, Operands.{Operand, ValueOperand}, Operations.Operation, Sizes.size_of, Counters.Counters, Settled.{LocationSetting, Unchanged, Counts, Ended}, declared.deck_kind.DeckKind.DeckKind, declared.letter.Letter.Letter}
use Rattle.definitions.specs.Operations as op
use Rattle.definitions.specs.declared.letter.Letter.TheVariants as letter

-- only symbols that are seen early, and no literals
abbrev pub early_names : (List ℕ → Option Form) → Counters → Names
early_names symbol counters = record { symbol = symbol; literal = λ literal. Err letter.V; location = counters.location; origin = counters.origin }

-- the value of the one expression; other operands read nothing early
abbrev pub early_value : Names → Operand → Option (Result Form Letter)
early_value names (ValueOperand e) = Some (value_of names e)
early_value names _ = None

-- a number of words from 0 up to, but not with, the greatest
abbrev pub in_words : ℕ → ℤ → Result ℕ Letter
in_words most (pos n) = if nat_lt n most then Ok n else Err letter.A
in_words most (negsuc n) = Err letter.A

-- a reservation that would end past the block is out of range
abbrev pub that_ends : DeckKind → ℕ → Result ℕ Letter → Result ℕ Letter
that_ends kind place words = and_then words (λ n. if nat_le (place + n * units kind) (most_words kind * units kind) then Ok n else Err letter.A)

-- how many words BSS and BSSZ reserve
abbrev pub reserved : DeckKind → ℕ → Result Form Letter → Result ℕ Letter
reserved kind place value = and_then value (λ form. if is_absolute form then that_ends kind place (in_words (most_words kind) form.number) else Err letter.R)

-- whether a value lies in this block, with sign plus
abbrev pub is_in_block : List ℕ → Option Part → Bool
is_in_block block (Some (Added (Block name))) = same_text name block
is_in_block block _ = false

-- ORG wants a number in the nominal block of absolute and peripheral decks, elsewhere a value in the block in use
abbrev pub is_origin_form : DeckKind → List ℕ → Form → Bool
is_origin_form kind block form = if is_absolute_deck kind && is_nominal block then is_absolute form else is_in_block block form.part

-- the word that ORG goes to, or its letter
abbrev pub origin_word : DeckKind → List ℕ → Result Form Letter → Result ℕ Letter
origin_word kind block value = and_then value (λ form. if is_origin_form kind block form then in_words (most_words kind) form.number else Err letter.R)

-- LOC wants a number, or a block that is added
abbrev pub is_location_part : Option Part → Bool
is_location_part None = true
is_location_part (Some (Added (Block name))) = true
is_location_part _ = false

-- the value that LOC gives to `*`, or its letter
abbrev pub location_value : DeckKind → Result Form Letter → Result Form Letter
location_value kind value =
    and_then value (λ form. if is_location_part form.part then and_then (in_words (most_words kind) form.number) (λ n. Ok form) else Err letter.R)

-- the letter of what is faulty, and none of what is not
abbrev pub letter_of : {A : Type 0} → Result A Letter → List Letter
letter_of (Err fault) = fault ∷ []
letter_of (Ok value) = []

-- what follows from a statement's size or from its early value: its end, what becomes of the location counter, its letters
pub record Outcome : Type 0 where
  pub end : ℕ
  pub setting : LocationSetting
  pub letters : List Letter

-- a statement that stays at its place, with a letter
abbrev pub stays_with : ℕ → Letter → Outcome
stays_with place fault = record { end = place; setting = Unchanged; letters = fault ∷ [] }

-- ORG goes to its word and ends the setting of a LOC; a faulty one leaves both as they are
abbrev pub origin_outcome : DeckKind → ℕ → Result ℕ Letter → Outcome
origin_outcome kind place (Err fault) = stays_with place fault
origin_outcome kind place (Ok word) = record { end = word * units kind; setting = Ended; letters = [] }

-- LOC sets the counter; a faulty one leaves it as it was
abbrev pub location_outcome : ℕ → Result Form Letter → Outcome
location_outcome place (Err fault) = stays_with place fault
location_outcome place (Ok form) = record { end = place; setting = Counts (record { form = form; place = place }); letters = [] }

-- BSS and BSSZ end behind their words; a faulty one reserves none
abbrev pub reserved_outcome : DeckKind → ℕ → Result ℕ Letter → Outcome
reserved_outcome kind place (Err fault) = stays_with place fault
reserved_outcome kind place (Ok words) = record { end = place + words * units kind; setting = Unchanged; letters = [] }

-- what an operation does with its early value, at this place of this block; EQU stays where it is
abbrev pub outcome_of_value : DeckKind → Operation → List ℕ → ℕ → Result Form Letter → Outcome
outcome_of_value kind op.Org block place value = origin_outcome kind place (origin_word kind block value)
outcome_of_value kind op.Loc block place value = location_outcome place (location_value kind value)
outcome_of_value kind op.Bss block place value = reserved_outcome kind place (reserved kind place value)
outcome_of_value kind op.Bssz block place value = reserved_outcome kind place (reserved kind place value)
outcome_of_value kind _ block place value = record { end = place; setting = Unchanged; letters = letter_of value }

-- a statement ends behind its items; one whose items would pass the block ends at its place, with A
abbrev pub outcome_of_size : DeckKind → ℕ → ℕ → Outcome
outcome_of_size kind place size =
    if nat_le (place + size) (most_words kind * units kind) then record { end = place + size; setting = Unchanged; letters = [] }
    else stays_with place letter.A

-- by its early value, where it reads one, else by its size
abbrev pub outcome_of : DeckKind → Operation → Operand → List ℕ → ℕ → Option (Result Form Letter) → Outcome
outcome_of kind operation operand block place None = outcome_of_size kind place (size_of kind operand)
outcome_of kind operation operand block place (Some value) = outcome_of_value kind operation block place value

-- a faulty or missing value of EQU counts as absolute 0
abbrev pub equated : Option (Result Form Letter) → Form
equated None = absolute (pos 0)
equated (Some (Err fault)) = absolute (pos 0)
equated (Some (Ok form)) = form
