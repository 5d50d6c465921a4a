-- Operations, the kind of a deck and the number base (COMPASS 60492600, pseudo-instructions).
use Rattle.std.specs.{Prelude.{ℕ, List, [], ◌∷◌, Option, Some, None, Bool, true, false, ◌||◌, codes, is_some, if◌then◌else◌}, List.list_any}
use Rattle.definitions.specs.{Characters.same_text, CentralTable.{Row, SumRow, central_rows, ignoring_rows, sum_rows}, PeripheralTable.peripheral_row, Matching.is_operation, declared.deck_kind.DeckKind.DeckKind, declared.deck_kind.DeckKind.TheVariants.{Abs, Periph}}

-- the operations that the language distinguishes
pub data Operation : Type 0 where
  -- the field is empty
  EmptyField : Operation
  -- IDENT, TITLE, EJECT, SPACE, LIST
  Listed : Operation
  End : Operation
  Kind : DeckKind → Operation
  Base : Operation
  Use : Operation
  Org : Operation
  Loc : Operation
  Equ : Operation
  Bss : Operation
  Bssz : Operation
  Data : Operation
  Con : Operation
  Vfd : Operation
  Dis : Operation
  Entry : Operation
  Ext : Operation
  -- an instruction of the deck's kind
  Instruction : Operation
  Unknown : Operation

-- the pseudo-instructions by name; the empty field and `=` are among them
abbrev pub pseudo_instructions : List (List ℕ × Operation)
pseudo_instructions =
    ([], EmptyField) ∷ (codes "IDENT", Listed) ∷ (codes "TITLE", Listed) ∷ (codes "EJECT", Listed) ∷ (codes "SPACE", Listed) ∷ (codes "LIST", Listed)
    ∷ (codes "END", End) ∷ (codes "ABS", Kind Abs) ∷ (codes "PERIPH", Kind Periph) ∷ (codes "BASE", Base) ∷ (codes "USE", Use)
    ∷ (codes "ORG", Org) ∷ (codes "LOC", Loc) ∷ (codes "EQU", Equ) ∷ (codes "=", Equ) ∷ (codes "BSS", Bss) ∷ (codes "BSSZ", Bssz)
    ∷ (codes "DATA", Data) ∷ (codes "CON", Con) ∷ (codes "VFD", Vfd) ∷ (codes "DIS", Dis) ∷ (codes "ENTRY", Entry) ∷ (codes "EXT", Ext) ∷ []

-- whether the central table has an operation
abbrev pub is_central : List ℕ → Bool
is_central operation =
    list_any (λ (row : Row). is_operation row.operation operation) ignoring_rows
    || list_any (λ (row : SumRow). is_operation row.operation operation) sum_rows
    || list_any (λ (row : Row). is_operation row.operation operation) central_rows

-- whether the peripheral table has an operation
abbrev pub is_peripheral : List ℕ → Bool
is_peripheral operation = is_some (peripheral_row operation)

-- whether an operation is an instruction in a deck of this kind
abbrev pub is_instruction_name : DeckKind → List ℕ → Bool
is_instruction_name Periph operation = is_peripheral operation
is_instruction_name _ operation = is_central operation

-- the pseudo-instruction of this name, if it is among them
abbrev pub pseudo_among : List ℕ → List (List ℕ × Operation) → Option Operation
pseudo_among operation [] = None
pseudo_among operation (row ∷ rows) = if same_text row.0 operation then Some row.1 else pseudo_among operation rows

-- the pseudo-instruction that is found, else an instruction of the deck's kind, else unknown
abbrev pub or_instruction : DeckKind → List ℕ → Option Operation → Operation
or_instruction kind operation None = if is_instruction_name kind operation then Instruction else Unknown
or_instruction kind operation (Some found) = found

-- the operation that a field names in a deck of this kind
abbrev pub operation_of : DeckKind → List ℕ → Operation
operation_of kind operation = or_instruction kind operation (pseudo_among operation pseudo_instructions)

-- what may stand in front of the ABS or PERIPH that makes the kind
abbrev pub is_neutral : Option Operation → Bool
is_neutral (Some EmptyField) = true
is_neutral (Some Listed) = true
is_neutral (Some Base) = true
is_neutral _ = false

-- whether an operation is an instruction
abbrev pub is_instruction : Operation → Bool
is_instruction Instruction = true
is_instruction operation = false

-- DATA, CON, VFD and DIS
abbrev pub is_data : Operation → Bool
is_data Data = true
is_data Con = true
is_data Vfd = true
is_data Dis = true
is_data _ = false

-- BSS, BSSZ, ORG and LOC
abbrev pub is_reserving : Operation → Bool
is_reserving Bss = true
is_reserving Bssz = true
is_reserving Org = true
is_reserving Loc = true
is_reserving _ = false

-- instructions, and unknown operations, which are placed as instructions are
abbrev pub is_machine : Operation → Bool
is_machine Instruction = true
is_machine Unknown = true
is_machine _ = false

-- which operations have a place of their own
abbrev pub has_place : Operation → Bool
has_place operation = is_machine operation || is_data operation || is_reserving operation

-- operations that define the symbol of their location field, but EQU
abbrev pub is_labelled : Operation → Bool
is_labelled Bss = true
is_labelled Bssz = true
is_labelled operation = is_machine operation || is_data operation
