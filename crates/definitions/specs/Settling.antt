-- One statement after another: what each is once those before it are known. A statement sees of those before it one record, `Seen`, and nothing else.
use Rattle.std.specs.{Prelude.{ℕ, ◌==◌, List, [], ◌∷◌, ◌++◌, Option, Some, None, Result, Bool, true, false, not, ◌&&◌, ◌||◌, codes, length, map, pos, is_some, if◌then◌else◌}, List.list_all}
use Rattle.definitions.specs.{Characters.same_text, Statements.{Statement, is_stray}, Pieces.{pieces_of, subfields_of}, Kinds.is_absolute_deck, Symbols.is_symbol, Forms.{Form, Added, External}, Operations.{Operation, is_neutral, has_place, is_labelled}, DeckKinds.number_base_after, Operands.{Operand, NamesOperand, UseName, UseRefused}, Settled.{ReadStatement, read_of, Settled, Counting, LocationSetting, Ended, Definition, defined, defined_in}, Blocks.{changes, open_names, block_in_use, blocks_used, is_accepted, change_of}, Places.{Position, position_in, is_bad, allows_minus, least_place, to_word, asks_after}, Counters.{Counters, counting_in, counters_at}, EarlyValues.{early_names, early_value, equated, outcome_of}, declared.deck_kind.DeckKind.DeckKind, declared.deck_kind.DeckKind.TheVariants.{Rel, Periph}, declared.number_base.NumberBase.NumberBase, declared.letter.Letter.Letter}
use Rattle.definitions.specs.Operations as op
use Rattle.definitions.specs.declared.letter.Letter.TheVariants as letter

-- the values of the symbols that earlier statements define
abbrev pub View : Type 0
View = List ℕ → Option Form

-- what a statement sees of those before it
pub record Seen : Type 0 where
  -- the block in use, and the blocks used in order
  pub block : List ℕ
  pub blocks : List (List ℕ)
  -- where the block in use stands, and its LOC in force
  pub position : Position
  pub counting : Option Counting
  pub number_base : NumberBase
  -- whether only neutral statements stood before
  pub neutral : Bool
  pub symbol : View

-- the number base behind these statements
abbrev pub number_base_of : List Settled → NumberBase
number_base_of earlier = number_base_after (map (λ (settled : Settled). settled.read.fields) earlier)

-- the kind may be set where only neutral statements stand before
abbrev pub all_neutral : List Settled → Bool
all_neutral earlier = list_all (λ (settled : Settled). is_neutral (Some settled.read.operation)) earlier

-- what the next statement sees of these, newest first
abbrev pub seen_of : List Settled → Seen
seen_of earlier =
    let done = changes earlier in
    let block = block_in_use (open_names done) in
    record {
      block = block;
      blocks = blocks_used done;
      position = position_in block earlier;
      counting = counting_in block earlier;
      number_base = number_base_of earlier;
      neutral = all_neutral earlier;
      symbol = λ name. defined name earlier;
    }

-- the letter, where it applies
abbrev pub letter_where : Bool → Letter → List Letter
letter_where b fault = if b then fault ∷ [] else []

-- nothing, `+`, or a `-` where that is lawful
abbrev pub is_plain_location : DeckKind → Operation → List ℕ → Bool
is_plain_location kind operation location =
    (length location == 0) || same_text location (codes "+") || (same_text location (codes "-") && allows_minus kind operation)

-- the letters of a location field, whose symbol may be defined before
abbrev pub location_letters : DeckKind → Operation → List ℕ → Option Form → List Letter
location_letters kind op.Equ location before = if is_symbol location then letter_where (is_some before) letter.D else letter.L ∷ []
location_letters kind operation location before =
    if not (is_labelled operation) then []
    else if is_symbol location then letter_where (is_some before) letter.D
    else letter_where (not (is_plain_location kind operation location)) letter.L

-- a USE whose block is not to be had, where these are used
abbrev pub is_refused_use : Operand → List (List ℕ) → Bool
is_refused_use UseRefused blocks = true
is_refused_use (UseName name) blocks = not (is_accepted name blocks)
is_refused_use _ blocks = false

-- what an operation may be misplaced by: its location field, a statement before that is not neutral, and the blocks used
pub record Surroundings : Type 0 where
  pub location : List ℕ
  pub neutral : Bool
  pub blocks : List (List ℕ)

-- an operation that is unknown, or misplaced
abbrev pub is_refused : DeckKind → Operation → Operand → Surroundings → Bool
is_refused kind op.Unknown operand around = true
is_refused kind op.EmptyField operand around = not (length around.location == 0)
is_refused kind (op.Kind made) operand around = not around.neutral
is_refused kind op.Use operand around = is_refused_use operand around.blocks
is_refused Periph op.Entry operand around = true
is_refused kind op.Ext operand around = is_absolute_deck kind
is_refused kind operation operand around = false

-- a name that EXT defines: its value is the external of that name
abbrev pub external : List ℕ → Definition
external name = record { name = name; form = record { number = pos 0; part = Some (Added (External name)) } }

-- whether a name stands earlier in the same EXT, or is defined before
abbrev pub is_known : View → List ℕ → List Definition → Bool
is_known symbol name so_far = is_some (defined_in name so_far) || is_some (symbol name)

-- the externals of an EXT, each name that is new, behind those so far
abbrev pub externals : View → List (Option (List ℕ)) → List Definition → List Definition
externals symbol [] so_far = so_far
externals symbol (None ∷ names) so_far = externals symbol names so_far
externals symbol (Some name ∷ names) so_far = externals symbol names (if is_known symbol name so_far then so_far else so_far ++ external name ∷ [])

-- the letters of the names of an EXT: V for what is no lawful name, D for one that is not new
abbrev pub external_letters : View → List (Option (List ℕ)) → List Definition → List Letter
external_letters symbol [] so_far = []
external_letters symbol (None ∷ names) so_far = letter.V ∷ external_letters symbol names so_far
external_letters symbol (Some name ∷ names) so_far =
    let known = is_known symbol name so_far in
    letter_where known letter.D ++ external_letters symbol names (if known then so_far else so_far ++ external name ∷ [])

-- the first definition of a location symbol, which may be defined before
abbrev pub first_definition : List ℕ → Form → Option Form → List Definition
first_definition name form before = if is_symbol name && not (is_some before) then record { name = name; form = form } ∷ [] else []

-- a location field with what its symbol may be worth, and the symbols that are defined before
pub record Label : Type 0 where
  pub location : List ℕ
  -- the value of an EQU, and `*`
  pub value : Form
  pub counter : Form
  pub symbol : View

-- what a statement defines: EQU its symbol as the value, EXT its externals, other labelled ones theirs as `*`
abbrev pub definitions_of : DeckKind → Operation → Operand → Label → List Definition
definitions_of kind op.Equ operand label = first_definition label.location label.value (label.symbol label.location)
definitions_of Rel op.Ext (NamesOperand names) label = externals label.symbol names []
definitions_of kind operation operand label = if is_labelled operation then first_definition label.location label.counter (label.symbol label.location) else []

-- whether a run begins: an ORG that is not faulty begins one
abbrev pub is_run : LocationSetting → Bool
is_run Ended = true
is_run _ = false

-- the letters of the names of an EXT, and V for a bad operand
abbrev pub operand_letters : DeckKind → Operation → Operand → View → List Letter
operand_letters Rel op.Ext (NamesOperand names) symbol = external_letters symbol names []
operand_letters kind operation operand symbol = letter_where (is_bad operand) letter.V

-- the letters of the location field, and O alone where the operation is refused, else those of the operand and of what comes of it
abbrev pub settled_letters : DeckKind → Seen → ReadStatement → List Letter → List Letter
settled_letters kind seen read outcome =
    let around : Surroundings = record { location = read.fields.location; neutral = seen.neutral; blocks = seen.blocks } in
    location_letters kind read.operation read.fields.location (seen.symbol read.fields.location)
    ++ (if is_refused kind read.operation read.operand around then letter.O ∷ []
    else operand_letters kind read.operation read.operand seen.symbol ++ outcome)

-- what stands nowhere has the position of its block as its place, moved to a word where upper is asked
abbrev pub place_of : DeckKind → Operation → Operand → List ℕ → Position → ℕ
place_of kind operation operand location position =
    if has_place operation then least_place kind operation operand location position.asks position.end
    else if position.asks then to_word kind position.end else position.end

-- where a statement stands: its place, its counters there, and its early value
pub record Standing : Type 0 where
  pub place : ℕ
  pub counters : Counters
  pub value : Option (Result Form Letter)

-- where a statement stands behind what it sees
abbrev pub standing_of : DeckKind → Seen → ReadStatement → Standing
standing_of kind seen read =
    let place = place_of kind read.operation read.operand read.fields.location seen.position in
    let counters = counters_at kind seen.block place seen.counting in
    record { place = place; counters = counters; value = early_value (early_names seen.symbol counters) read.operand }

-- a statement that stands so: what it is worth and defines, and its letters, follow from what it sees
abbrev pub settled_with : DeckKind → Seen → ReadStatement → Standing → Settled
settled_with kind seen read standing =
    let outcome = outcome_of kind read.operation read.operand seen.block standing.place standing.value in
    record {
      read = read;
      block = seen.block;
      change = change_of read.operand seen.blocks;
      is_placed = has_place read.operation;
      place = standing.place;
      end = outcome.end;
      asks = asks_after kind read.operation read.operand read.fields.operation (length (subfields_of (pieces_of read.fields.variable)));
      begins_run = is_run outcome.setting;
      setting = outcome.setting;
      location = standing.counters.location;
      origin = standing.counters.origin;
      definitions = definitions_of kind read.operation read.operand (record { location = read.fields.location; value = equated standing.value; counter = standing.counters.location; symbol = seen.symbol });
      letters = letter_where (is_stray read.statement.cards) letter.C ++ settled_letters kind seen read outcome.letters;
    }

-- a statement that was read, settled from what it sees
abbrev pub settled_read : DeckKind → Seen → ReadStatement → Settled
settled_read kind seen read = settled_with kind seen read (standing_of kind seen read)

-- a statement, settled from what it sees
abbrev pub settled_from : DeckKind → Seen → Statement → Settled
settled_from kind seen statement = settled_read kind seen (read_of kind seen.number_base statement)

-- the next statement behind those that are settled
abbrev pub settle : DeckKind → List Settled → Statement → Settled
settle kind earlier statement = settled_from kind (seen_of earlier) statement

-- one statement more, settled
abbrev pub settle_onto : DeckKind → List Settled → Statement → List Settled
settle_onto kind earlier statement = settle kind earlier statement ∷ earlier

-- the statements of a deck, newest first
abbrev pub settled_all : DeckKind → List Statement → List Settled
settled_all kind [] = []
settled_all kind (statement ∷ earlier) = settle_onto kind (settled_all kind earlier) statement
