-- Operands: what a variable field is to its operation, before any name is known.
use Rattle.std.specs.Prelude.{ℕ, ◌+◌, ◌-◌, ◌*◌, ◌/◌, ◌==◌, List, [], ◌∷◌, ◌++◌, Option, Some, None, Bool, false, not, ◌&&◌, nat_le, codes, map, length, drop, take, take_while, replicate, option_map, option_and_then, if◌then◌else◌}
use Rattle.definitions.specs.{Characters.{is_among, same_text, blank, slash, comma}, CountedItems.CountedItem, Pieces.{Plus, Minus, Slash, Piece, IsMark, IsCountedItem, Plain, pieces_of, subfields_of}, Kinds.{word_bits, allows_literals}, Symbols.{Number, Value, number_read, is_block_name, is_linked_name}, Expressions.{Sign, NoSign, PlusSign, MinusSign, Expression, expression_of, is_plain}, PeripheralTable.{PeripheralForm, Ignored, Long, PeripheralRow, peripheral_row}, Matching.{Instruction, central_of}, Operations.Operation, declared.deck_kind.DeckKind.DeckKind, declared.deck_kind.DeckKind.TheVariants.{Rel, Periph}, declared.number_base.NumberBase.NumberBase}
use Rattle.definitions.specs.Operations as op

-- what fills words of DATA or CON
pub data Datum : Type 0 where
  ZeroWord : Datum
  NumberWord : Sign → Number → Datum
  CountedItemWords : CountedItem → Datum
  ExpressionWord : Expression → Datum

-- a field of a VFD; without an expression it is 0
pub record BitField : Type 0 where
  pub width : ℕ
  pub value : Option Expression

-- what stands in a variable field
pub data Operand : Type 0 where
  -- nothing is read
  Unread : Operand
  -- flagged V
  BadOperand : Operand
  CentralOperand : Instruction → Operand
  PeripheralOperand : PeripheralRow → List Expression → Operand
  WordsOperand : List Datum → Operand
  BitsOperand : List BitField → Operand
  -- DIS: its characters, in so many words
  TextOperand : ℕ → List ℕ → Operand
  -- BSS, BSSZ, ORG, LOC, EQU
  ValueOperand : Expression → Operand
  -- ENTRY and EXT: each subfield's name, if it has a lawful one
  NamesOperand : List (Option (List ℕ)) → Operand
  UseName : List ℕ → Operand
  UseBefore : Operand
  -- USE of a text with `/` that names no common block
  UseRefused : Operand

-- an expression that is there, without registers, and without literals where they are not allowed
abbrev pub plain_expression : Bool → Option Expression → Option Expression
plain_expression literals found = option_and_then (λ e. if is_plain literals e then Some e else None) found

-- an expression without registers
abbrev pub plain_of : Bool → NumberBase → List Piece → Option Expression
plain_of literals base pieces = plain_expression literals (expression_of base pieces)

-- all that is there, or nothing where one of them is not
abbrev pub onto_all : {A : Type 0} → Option A → Option (List A) → Option (List A)
onto_all first rest = option_and_then (λ x. option_map (λ xs. x ∷ xs) rest) first

-- a subfield of DATA: nothing, a number with or without a sign, or an item
abbrev pub data_word : NumberBase → List Piece → Option Datum
data_word base [] = Some ZeroWord
data_word base (Plain text ∷ []) = option_map (NumberWord NoSign) (number_read base text)
data_word base (IsMark Plus ∷ Plain text ∷ []) = option_map (NumberWord PlusSign) (number_read base text)
data_word base (IsMark Minus ∷ Plain text ∷ []) = option_map (NumberWord MinusSign) (number_read base text)
data_word base (IsCountedItem item ∷ []) = Some (CountedItemWords item)
data_word base _ = None

-- a subfield of CON: nothing, or an expression
abbrev pub con_word : Bool → NumberBase → List Piece → Option Datum
con_word literals base [] = Some ZeroWord
con_word literals base (piece ∷ pieces) = option_map ExpressionWord (plain_of literals base (piece ∷ pieces))

-- what all subfields are, if each is lawful
abbrev pub all_read : {A : Type 0} → (List Piece → Option A) → List (List Piece) → Option (List A)
all_read read [] = Some []
all_read read (subfield ∷ subfields) = onto_all (read subfield) (all_read read subfields)

-- words, or V where a subfield is not lawful
abbrev pub words_operand : Option (List Datum) → Operand
words_operand None = BadOperand
words_operand (Some words) = WordsOperand words

-- a count from 1 to the greatest that is allowed
abbrev pub count_read : ℕ → Option Number → Option ℕ
count_read most (Some (Value n)) = if nat_le 1 n && nat_le n most then Some n else None
count_read most _ = None

-- a field of a VFD, if its width and its value are lawful
abbrev pub bit_field : Option ℕ → Option (Option Expression) → Option BitField
bit_field (Some width) (Some value) = Some (record { width = width; value = value })
bit_field _ _ = None

-- `n/e`, where e may be missing
abbrev pub vfd_field : Bool → NumberBase → List Piece → Option BitField
vfd_field literals base (Plain width ∷ IsMark Slash ∷ []) = bit_field (count_read 60 (number_read base width)) (Some None)
vfd_field literals base (Plain width ∷ IsMark Slash ∷ pieces) = bit_field (count_read 60 (number_read base width)) (option_map Some (plain_of literals base pieces))
vfd_field literals base _ = None

-- fields, or V where one of them is not lawful
abbrev pub bits_operand : Option (List BitField) → Operand
bits_operand None = BadOperand
bits_operand (Some fields) = BitsOperand fields

-- how many characters a word of DIS has
abbrev pub word_characters : DeckKind → ℕ
word_characters kind = word_bits kind / 6

-- so many words of characters, with blanks where the text ends; V without a lawful count
abbrev pub text_operand : DeckKind → Option ℕ → List ℕ → Operand
text_operand kind None text = BadOperand
text_operand kind (Some count) text =
    let n = count * word_characters kind in
    TextOperand count (take n (text ++ replicate n blank))

-- `n,` and the characters behind the comma
abbrev pub dis_operand : DeckKind → NumberBase → List ℕ → Operand
dis_operand kind base text =
    let count = take_while (λ c. not (c == comma)) text in
    if nat_le (1 + length count) (length text) then text_operand kind (count_read 100 (number_read base count)) (drop (1 + length count) text) else BadOperand

-- an expression, or V where there is none
abbrev pub value_operand : Option Expression → Operand
value_operand None = BadOperand
value_operand (Some e) = ValueOperand e

-- the operand of BSS, BSSZ, ORG, LOC and EQU: one subfield, without registers and literals
abbrev pub one_value : NumberBase → List (List Piece) → Operand
one_value base (pieces ∷ []) = value_operand (plain_of false base pieces)
one_value base _ = BadOperand

-- the name that a subfield of ENTRY or EXT is, if it is lawful
abbrev pub linked_name : List Piece → Option (List ℕ)
linked_name (Plain text ∷ []) = if is_linked_name text then Some text else None
linked_name _ = None

-- `/name/`, where name is a symbol of at most 7 characters
abbrev pub is_common_name : List ℕ → Bool
is_common_name [] = false
is_common_name (c ∷ cs) =
    let name = take (length cs - 1) cs in
    (c == slash) && same_text cs (name ++ slash ∷ []) && is_linked_name name

-- USE of a text with `/`: a common block in a REL deck; every other is refused
abbrev pub common_operand : DeckKind → List ℕ → Operand
common_operand Rel text = if is_common_name text then UseName text else UseRefused
common_operand kind text = UseRefused

-- USE: a block name, `*`, or nothing, or a text with `/`
abbrev pub use_operand : DeckKind → List ℕ → Operand
use_operand kind [] = UseName (codes "0")
use_operand kind (c ∷ cs) =
    if is_among slash (c ∷ cs) then common_operand kind (c ∷ cs)
    else if same_text (c ∷ cs) (codes "*") then UseBefore
    else if is_block_name (c ∷ cs) then UseName (c ∷ cs) else BadOperand

-- the operand of BASE: O or D
abbrev pub base_operand : List ℕ → Operand
base_operand text = if same_text text (codes "O") then Unread else if same_text text (codes "D") then Unread else BadOperand

-- the instruction that was found, or V
abbrev pub central_operand : Option Instruction → Operand
central_operand None = BadOperand
central_operand (Some instruction) = CentralOperand instruction

-- m, or m and d
abbrev pub one_or_two : PeripheralRow → List (Option Expression) → Operand
one_or_two row (Some m ∷ []) = PeripheralOperand row (m ∷ [])
one_or_two row (Some m ∷ Some d ∷ []) = PeripheralOperand row (m ∷ d ∷ [])
one_or_two row _ = BadOperand

-- one value and no more
abbrev pub just_one : PeripheralRow → List (Option Expression) → Operand
just_one row (Some d ∷ []) = PeripheralOperand row (d ∷ [])
just_one row _ = BadOperand

-- as many values as the form has, or V; PSN ignores what stands there
abbrev pub by_form : PeripheralRow → PeripheralForm → List (Option Expression) → Operand
by_form row Ignored values = PeripheralOperand row []
by_form row Long values = one_or_two row values
by_form row _ values = just_one row values

-- the operand of a peripheral instruction: expressions without registers and literals
abbrev pub peripheral_operand : NumberBase → Option PeripheralRow → List (List Piece) → Operand
peripheral_operand base None subfields = BadOperand
peripheral_operand base (Some row) subfields = by_form row row.form (map (plain_of false base) subfields)

-- the operand of an instruction, by the kind of its deck
abbrev pub instruction_operand : DeckKind → NumberBase → List ℕ → List (List Piece) → Operand
instruction_operand Periph base operation subfields = peripheral_operand base (peripheral_row operation) subfields
instruction_operand _ base operation subfields = central_operand (central_of base operation subfields)

-- the operand of an operation whose variable field is read subfield by subfield
abbrev pub subfields_operand : DeckKind → NumberBase → Operation → List ℕ → List (List Piece) → Operand
subfields_operand kind base op.Org operation subfields = one_value base subfields
subfields_operand kind base op.Loc operation subfields = one_value base subfields
subfields_operand kind base op.Equ operation subfields = one_value base subfields
subfields_operand kind base op.Bss operation subfields = one_value base subfields
subfields_operand kind base op.Bssz operation subfields = one_value base subfields
subfields_operand kind base op.Data operation subfields = words_operand (all_read (data_word base) subfields)
subfields_operand kind base op.Con operation subfields = words_operand (all_read (con_word (allows_literals kind) base) subfields)
subfields_operand kind base op.Vfd operation subfields = bits_operand (all_read (vfd_field (allows_literals kind) base) subfields)
subfields_operand kind base op.Entry operation subfields = NamesOperand (map linked_name subfields)
subfields_operand kind base op.Ext operation subfields = NamesOperand (map linked_name subfields)
subfields_operand kind base op.Instruction operation subfields = instruction_operand kind base operation subfields
subfields_operand kind base _ operation subfields = Unread

-- the operand of an operation: what its variable field is to it
abbrev pub operand_of : DeckKind → NumberBase → Operation → List ℕ → List ℕ → Operand
operand_of kind base op.Base operation text = base_operand text
operand_of kind base op.Use operation text = use_operand kind text
operand_of kind base op.Dis operation text = dis_operand kind base text
operand_of kind base made operation text = subfields_operand kind base made operation (subfields_of (pieces_of text))
