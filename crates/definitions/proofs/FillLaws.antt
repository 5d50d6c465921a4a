-- The fields of a statement fill its place, fit, and are whole words where they are long.
use Rattle.std.{proofs.Common.{ℕ, ◌≡◌, ◌≢◌, ◌+◌, ◌-◌, ◌*◌, ◌/◌, ◌%◌, ◌<◌, ◌≤◌, Bool, true, false, List, [], ◌∷◌, Option, Some, None, Result, Ok, Err, refl, subst, arith}, specs.Prelude.{nat_le, if◌then◌else◌}, proofs.lemmas.Bool.leb-false}
use Rattle.definitions.{specs.Statements.Statement, specs.Kinds.{word_bits, units, unit_bits, most_words}, specs.Pieces.{pieces_of, subfields_of}, specs.Forms.{Form, Names}, specs.Operations.Operation, specs.Operands.{Operand, BadOperand, ValueOperand, operand_of}, specs.Sizes.size_of, specs.EarlyValues.{Outcome, outcome_of, outcome_of_size, reserved_outcome, reserved, stays_with, early_value, early_names}, specs.Counters.Counters, specs.Settled.{Settled, Unchanged, ReadStatement, read_of}, specs.Settling.{Seen, seen_of, settle, settled_with, Standing, standing_of}, specs.StatementItems.{Item, Context, operand_items, items_of}, specs.Words.width_of, specs.declared.deck_kind.DeckKind.DeckKind, specs.declared.deck_kind.DeckKind.TheVariants.{Rel, Abs, Periph}, specs.declared.number_base.NumberBase.NumberBase, specs.declared.letter.Letter.Letter, proofs.WordLaws.{pow_positive, picked_cond}, specs.Laws.Filling.{HasFields, DoFill, DoFit, AreLongWhole}, proofs.OperandShapes.IsMade, proofs.OperandLaws.{IsValue, one_value-value, operand_of-made}, proofs.FieldRoomLaws.{words_whole, operand-fields}}
use Rattle.definitions.specs.Operations as op
use Rattle.definitions.specs.declared.letter.Letter.TheVariants as letter

-- fields fill a place where they have so many bits together
fill-width : (kind : DeckKind) (place end : ℕ) (items : List Item) → width_of items ≡ (end - place) * unit_bits kind → DoFill kind place end items
fill-width kind place end [] e = tt
fill-width kind place end (item ∷ items) e = e

-- what is sized ends behind its size, or where it stands
sized-fill : (kind : DeckKind) (place size : ℕ) (items : List Item) → width_of items ≡ size * unit_bits kind → place < (outcome_of_size kind place size).end → DoFill kind place (outcome_of_size kind place size).end items
sized-fill kind place size items e = step (nat_le (place + size) (most_words kind * units kind))
  where
    step : (t : Bool) → (let outcome : Outcome = if t then record { end = place + size; setting = Unchanged; letters = [] } else stays_with place letter.A in
        place < outcome.end → DoFill kind place outcome.end items)
    step true = λ h. fill-width kind place (place + size) items (let same : place + size - place ≡ size = omega arith in rw same e)
    step false = λ h. absurd (omega (arith, h))

-- an operand without an early value is sized, and one with it has no fields
operand-fill : (context : Context) (settled : Settled) (operation : Operation) (operand : Operand) (block : List ℕ) (place : ℕ) (names : Names) → IsMade context.kind operand →
    place < (outcome_of context.kind operation operand block place (early_value names operand)).end →
    DoFill context.kind place (outcome_of context.kind operation operand block place (early_value names operand)).end (operand_items context settled operand)
operand-fill context settled operation (ValueOperand e) block place names made = λ h. tt
operand-fill context settled operation operand block place names made =
    sized-fill context.kind place (size_of context.kind operand) (operand_items context settled operand) (let fields = operand-fields context settled operand made in fields.wide)

-- BSSZ reserves whole words
reserved-whole : (kind : DeckKind) (place : ℕ) (words : Result ℕ Letter) → ((reserved_outcome kind place words).end - place) % units kind ≡ 0
reserved-whole Rel place (Err fault) = omega arith
reserved-whole Abs place (Err fault) = omega arith
reserved-whole Periph place (Err fault) = omega arith
reserved-whole Rel place (Ok n) = omega arith
reserved-whole Abs place (Ok n) = omega arith
reserved-whole Periph place (Ok n) = omega arith

nothing_whole : (kind : DeckKind) (place end : ℕ) → end ≡ place → (end - place) % units kind ≡ 0
nothing_whole Rel place end e = omega arith
nothing_whole Abs place end e = omega arith
nothing_whole Periph place end e = omega arith

bad-end : (kind : DeckKind) (place : ℕ) → (outcome_of_size kind place 0).end ≡ place
bad-end kind place = step (nat_le (place + 0) (most_words kind * units kind))
  where
    step : (t : Bool) → (let outcome : Outcome = if t then record { end = place + 0; setting = Unchanged; letters = [] } else stays_with place letter.A in outcome.end ≡ place)
    step true = omega arith
    step false = refl

zeros-whole : (kind : DeckKind) (operand : Operand) (block : List ℕ) (place : ℕ) (names : Names) → IsValue operand →
    ((outcome_of kind op.Bssz operand block place (early_value names operand)).end - place) % units kind ≡ 0
zeros-whole kind BadOperand block place names h = nothing_whole kind place (outcome_of_size kind place 0).end (bad-end kind place)
zeros-whole kind (ValueOperand e) block place names h = reserved-whole kind place (reserved kind place _)
zeros-whole kind _ block place names h = absurd h

bssz-whole : (kind : DeckKind) (base : NumberBase) (operation : Operation) (name text : List ℕ) (block : List ℕ) (place : ℕ) (names : Names) → operation ≡ op.Bssz →
    ((outcome_of kind operation (operand_of kind base operation name text) block place (early_value names (operand_of kind base operation name text))).end - place) % units kind ≡ 0
bssz-whole kind base operation name text block place names e = rw e (zeros-whole kind (operand_of kind base op.Bssz name text) block place names (one_value-value base (subfields_of (pieces_of text))))

-- BSSZ does not end before its place
bssz-ordered : (kind : DeckKind) (operand : Operand) (block : List ℕ) (place : ℕ) (value : Option (Result Form Letter)) → place ≤ (outcome_of kind op.Bssz operand block place value).end
bssz-ordered kind operand block place None = step (nat_le (place + size_of kind operand) (most_words kind * units kind))
  where
    step : (t : Bool) → (let outcome : Outcome = if t then record { end = place + size_of kind operand; setting = Unchanged; letters = [] } else stays_with place letter.A in place ≤ outcome.end)
    step true = omega arith
    step false = omega arith
bssz-ordered kind operand block place (Some value) = step (reserved kind place value)
  where
    step : (words : Result ℕ Letter) → place ≤ (reserved_outcome kind place words).end
    step (Err fault) = omega arith
    step (Ok n) = omega arith

-- zeros reach from the place to the end
zeros-width : (kind : DeckKind) (units' : ℕ) → units' % units kind ≡ 0 → units' / units kind * word_bits kind + 0 ≡ units' * unit_bits kind
zeros-width Rel units' e = omega arith
zeros-width Abs units' e = omega arith
zeros-width Periph units' e = omega arith

-- what is known of a statement's end: fields that are there fill its place, and BSSZ reserves whole words
record IsEnded (context : Context) (settled : Settled) (operation : Operation) : Type 0 where
  sized : settled.place < settled.end → DoFill context.kind settled.place settled.end (operand_items context settled settled.read.operand)
  made : IsMade context.kind settled.read.operand
  whole : operation ≡ op.Bssz → (settled.end - settled.place) % units context.kind ≡ 0

picked-fill : (kind : DeckKind) (place end : ℕ) (items : List Item) → (place < end → DoFill kind place end items) → DoFill kind place end (if nat_le end place then [] else items)
picked-fill kind place end items h = step (nat_le end place) refl
  where
    step : (t : Bool) → nat_le end place ≡ t → DoFill kind place end (if t then [] else items)
    step true e = tt
    step false e = h (leb-false end place e)

items-fill : (context : Context) (settled : Settled) (operation : Operation) → IsEnded context settled operation → DoFill context.kind settled.place settled.end (items_of context settled operation)
items-fill context settled op.Bssz ended = zeros-width context.kind (settled.end - settled.place) (ended.whole refl)
items-fill context settled _ ended = picked-fill context.kind settled.place settled.end (operand_items context settled settled.read.operand) ended.sized

picked-ordered : (place end : ℕ) (items : List Item) → HasFields (if nat_le end place then [] else items) → place < end
picked-ordered place end items = step (nat_le end place) refl
  where
    step : (t : Bool) → nat_le end place ≡ t → HasFields (if t then [] else items) → place < end
    step true e h = absurd h
    step false e h = leb-false end place e

items-some : (context : Context) (settled : Settled) (operation : Operation) → operation ≢ op.Bssz → HasFields (items_of context settled operation) → settled.place < settled.end
items-some context settled op.Bssz other = absurd (other refl)
items-some context settled _ other = picked-ordered settled.place settled.end (operand_items context settled settled.read.operand)

items-ordered : (context : Context) (settled : Settled) (operation : Operation) → (operation ≡ op.Bssz → settled.place ≤ settled.end) → HasFields (items_of context settled operation) → settled.place ≤ settled.end
items-ordered context settled op.Bssz ordered = λ h. ordered refl
items-ordered context settled _ ordered = λ h. let below = picked-ordered settled.place settled.end (operand_items context settled settled.read.operand) h in omega arith

items-fit : (context : Context) (settled : Settled) (operation : Operation) → IsMade context.kind settled.read.operand → DoFit (items_of context settled operation)
items-fit context settled op.Bssz made = (pow_positive ((settled.end - settled.place) / units context.kind * word_bits context.kind), tt)
items-fit context settled _ made =
    let fields = operand-fields context settled settled.read.operand made in
    picked_cond DoFit (nat_le settled.end settled.place) [] (operand_items context settled settled.read.operand) tt fields.fit

items-long : (context : Context) (settled : Settled) (operation : Operation) → IsMade context.kind settled.read.operand → AreLongWhole (word_bits context.kind) (items_of context settled operation)
items-long context settled op.Bssz made = (λ long. words_whole context.kind ((settled.end - settled.place) / units context.kind), tt)
items-long context settled _ made =
    let fields = operand-fields context settled settled.read.operand made in
    picked_cond (AreLongWhole (word_bits context.kind)) (nat_le settled.end settled.place) [] (operand_items context settled settled.read.operand) tt fields.long

-- a statement that is settled from what is read of it
with-ended : (context : Context) (seen : Seen) (read : ReadStatement) (place : ℕ) (counters : Counters) (names : Names) (base : NumberBase) (name text : List ℕ) →
    read.operand ≡ operand_of context.kind base read.operation name text →
    IsEnded context (settled_with context.kind seen read (record { place = place; counters = counters; value = early_value names read.operand })) read.operation
with-ended context seen read place counters names base name text is =
    let made : IsMade context.kind read.operand = rw is (operand_of-made context.kind base read.operation name text) in
    let settled = settled_with context.kind seen read (record { place = place; counters = counters; value = early_value names read.operand }) in
    record {
      sized = operand-fill context settled read.operation read.operand seen.block place names made;
      made = made;
      whole = λ e. rw is (bssz-whole context.kind base read.operation name text seen.block place names e);
    }

-- a statement behind those that are settled
settle-ended : (context : Context) (earlier : List Settled) (statement : Statement) → IsEnded context (settle context.kind earlier statement) (settle context.kind earlier statement).read.operation
settle-ended context earlier statement =
    let seen = seen_of earlier in
    let read = read_of context.kind seen.number_base statement in
    let standing = standing_of context.kind seen read in
    with-ended context seen read standing.place standing.counters (early_names seen.symbol standing.counters) seen.number_base read.fields.operation read.fields.variable refl

-- the fields of a statement fill its place
pub settle-fill : (kind : DeckKind) (earlier : List Settled) (statement : Statement) (context : Context) → context.kind ≡ kind →
    (let settled = settle kind earlier statement in DoFill kind settled.place settled.end (items_of context settled settled.read.operation))
settle-fill kind earlier statement context e =
    subst (λ k. (let settled = settle k earlier statement in DoFill k settled.place settled.end (items_of context settled settled.read.operation))) e
    (let settled = settle context.kind earlier statement in items-fill context settled settled.read.operation (settle-ended context earlier statement))

with-ordered : (kind : DeckKind) (seen : Seen) (read : ReadStatement) (standing : Standing) → read.operation ≡ op.Bssz →
    (let settled = settled_with kind seen read standing in settled.place ≤ settled.end)
with-ordered kind seen read standing e = rw e (bssz-ordered kind read.operand seen.block standing.place standing.value)

-- a statement that has fields does not end before its place
pub settle-ordered : (kind : DeckKind) (earlier : List Settled) (statement : Statement) (context : Context) →
    (let settled = settle kind earlier statement in HasFields (items_of context settled settled.read.operation) → settled.place ≤ settled.end)
settle-ordered kind earlier statement context =
    let seen = seen_of earlier in
    let read = read_of kind seen.number_base statement in
    let settled = settle kind earlier statement in
    items-ordered context settled settled.read.operation (with-ordered kind seen read (standing_of kind seen read))

-- and but for BSSZ it ends behind it
pub settle-some : (kind : DeckKind) (earlier : List Settled) (statement : Statement) (context : Context) →
    (let settled = settle kind earlier statement in settled.read.operation ≢ op.Bssz → HasFields (items_of context settled settled.read.operation) → settled.place < settled.end)
settle-some kind earlier statement context = let settled = settle kind earlier statement in items-some context settled settled.read.operation

-- each field has room
pub settle-fit : (kind : DeckKind) (earlier : List Settled) (statement : Statement) (context : Context) → context.kind ≡ kind →
    (let settled = settle kind earlier statement in DoFit (items_of context settled settled.read.operation))
settle-fit kind earlier statement context e =
    subst (λ k. (let settled = settle k earlier statement in DoFit (items_of context settled settled.read.operation))) e
    (let settled = settle context.kind earlier statement in let ended = settle-ended context earlier statement in items-fit context settled settled.read.operation ended.made)

-- each long field is whole words
pub settle-long : (kind : DeckKind) (earlier : List Settled) (statement : Statement) (context : Context) → context.kind ≡ kind →
    (let settled = settle kind earlier statement in AreLongWhole (word_bits kind) (items_of context settled settled.read.operation))
settle-long kind earlier statement context e =
    subst (λ k. (let settled = settle k earlier statement in AreLongWhole (word_bits k) (items_of context settled settled.read.operation))) e
    (let settled = settle context.kind earlier statement in let ended = settle-ended context earlier statement in items-long context settled settled.read.operation ended.made)
