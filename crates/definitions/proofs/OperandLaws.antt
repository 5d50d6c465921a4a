-- Operands as they are read are made of what their kind says.
use Rattle.std.{proofs.Common.{ℕ, ◌≡◌, suc, ◌+◌, ◌*◌, ◌<◌, ◌≤◌, Bool, true, false, ◌&&◌, List, [], ◌∷◌, ◌++◌, length, Option, Some, None, refl, subst, arith}, specs.Prelude.{nat_le, nat_lt, map, drop, replicate, codes, take_while, not, nat_eq, option_map, if◌then◌else◌}, specs.List.list_all, proofs.lemmas.Bool.leb-true, proofs.lemmas.List.length-take}
use Rattle.definitions.{specs.Characters.{is_among, same_text, slash, comma, blank}, specs.Pieces.{Slash, Piece, IsMark, Plain, pieces_of, subfields_of}, specs.Kinds.{unit_bits, allows_literals}, specs.Symbols.{Number, Value, number_read, is_block_name}, specs.Expressions.Expression, specs.PeripheralTable.{PeripheralForm, Ignored, Short, ShortJump, Shift, Wide, Long, PeripheralRow, row_among, peripheral_row, peripheral_rows}, specs.Matching.{Instruction, central_of}, specs.Operations.Operation, specs.Operands.{Datum, BitField, Operand, Unread, BadOperand, ValueOperand, UseName, UseBefore, UseRefused, plain_of, onto_all, all_read, words_operand, data_word, con_word, count_read, bit_field, vfd_field, bits_operand, word_characters, text_operand, dis_operand, value_operand, one_value, is_common_name, common_operand, use_operand, base_operand, central_operand, one_or_two, just_one, by_form, peripheral_operand, instruction_operand, operand_of}, specs.declared.deck_kind.DeckKind.DeckKind, specs.declared.deck_kind.DeckKind.TheVariants.{Rel, Abs, Periph}, specs.declared.number_base.NumberBase.NumberBase, proofs.WordLaws.picked_cond, proofs.OperandShapes.{HasValues, HaveWidths, IsMade}, proofs.CentralLaws.{IsWholeIf, central_of-whole}}
use Rattle.definitions.specs.Operations as op

central_operand-made : (kind : DeckKind) (instruction : Option Instruction) → unit_bits kind ≡ 15 → IsWholeIf instruction → IsMade kind (central_operand instruction)
central_operand-made kind None e h = tt
central_operand-made kind (Some instruction) e h = (e, h)

-- each operation of the peripheral table has a code of two octal digits
row_among-below : (operation : List ℕ) (rows : List PeripheralRow) (row : PeripheralRow) → list_all (λ (r : PeripheralRow). nat_lt r.code 64) rows ≡ true → row_among operation rows ≡ Some row → row.code < 64
row_among-below operation [] row e f = cc
row_among-below operation (first ∷ rows) row e f = step (λ k g. row_among-below operation rows row k g) (nat_lt first.code 64) refl (same_text first.operation operation) e f
  where
    step : (list_all (λ (r : PeripheralRow). nat_lt r.code 64) rows ≡ true → row_among operation rows ≡ Some row → row.code < 64) →
        (s : Bool) → nat_lt first.code 64 ≡ s → (t : Bool) → (s && list_all (λ (r : PeripheralRow). nat_lt r.code 64) rows) ≡ true →
        (if t then Some first else row_among operation rows) ≡ Some row → row.code < 64
    step behind true is true e f = let same : first ≡ row = cc in subst (λ (r : PeripheralRow). r.code < 64) same (leb-true (suc first.code) 64 is)
    step behind true is false e f = behind e f
    step behind false is t e f = cc

one_or_two-made : (kind : DeckKind) (row : PeripheralRow) (values : List (Option Expression)) → unit_bits kind ≡ 12 → row.code < 64 → row.form ≡ Long → IsMade kind (one_or_two row values)
one_or_two-made kind row (Some m ∷ []) e small is = (e, (small, rw is tt))
one_or_two-made kind row (Some m ∷ Some d ∷ []) e small is = (e, (small, rw is tt))
one_or_two-made kind row _ e small is = tt

just_one-made : (kind : DeckKind) (row : PeripheralRow) (values : List (Option Expression)) → unit_bits kind ≡ 12 → row.code < 64 → ((d : Expression) → HasValues row.form (d ∷ [])) → IsMade kind (just_one row values)
just_one-made kind row (Some d ∷ []) e small is = (e, (small, is d))
just_one-made kind row _ e small is = tt

by_form-made : (kind : DeckKind) (row : PeripheralRow) (form : PeripheralForm) (values : List (Option Expression)) → unit_bits kind ≡ 12 → row.code < 64 → row.form ≡ form → IsMade kind (by_form row form values)
by_form-made kind row Ignored values e small is = (e, (small, rw is tt))
by_form-made kind row Long values e small is = one_or_two-made kind row values e small is
by_form-made kind row Short values e small is = just_one-made kind row values e small (λ d. rw is tt)
by_form-made kind row ShortJump values e small is = just_one-made kind row values e small (λ d. rw is tt)
by_form-made kind row Shift values e small is = just_one-made kind row values e small (λ d. rw is tt)
by_form-made kind row Wide values e small is = just_one-made kind row values e small (λ d. rw is tt)

peripheral_operand-made : (kind : DeckKind) (base : NumberBase) (row : Option PeripheralRow) (subfields : List (List Piece)) → unit_bits kind ≡ 12 → ((r : PeripheralRow) → row ≡ Some r → r.code < 64) →
    IsMade kind (peripheral_operand base row subfields)
peripheral_operand-made kind base None subfields e small = tt
peripheral_operand-made kind base (Some row) subfields e small = by_form-made kind row row.form (map (plain_of false base) subfields) e (small row refl) refl

instruction_operand-made : (kind : DeckKind) (base : NumberBase) (operation : List ℕ) (subfields : List (List Piece)) → IsMade kind (instruction_operand kind base operation subfields)
instruction_operand-made Rel base operation subfields = central_operand-made Rel (central_of base operation subfields) refl (central_of-whole base operation subfields)
instruction_operand-made Abs base operation subfields = central_operand-made Abs (central_of base operation subfields) refl (central_of-whole base operation subfields)
instruction_operand-made Periph base operation subfields =
    peripheral_operand-made Periph base (peripheral_row operation) subfields refl (λ row is. row_among-below operation peripheral_rows row refl is)

words_operand-made : (kind : DeckKind) (words : Option (List Datum)) → IsMade kind (words_operand words)
words_operand-made kind None = tt
words_operand-made kind (Some words) = tt

-- the width of a VFD's field
count_read-within : (most : ℕ) (number : Option Number) (n : ℕ) → count_read most number ≡ Some n → (1 ≤ n) × (n ≤ most)
count_read-within most (Some (Value m)) n e = step (nat_le 1 m) refl (nat_le m most) refl e
  where
    step : (s : Bool) → nat_le 1 m ≡ s → (t : Bool) → nat_le m most ≡ t → (if s && t then Some m else None) ≡ Some n → (1 ≤ n) × (n ≤ most)
    step true is true js e = let same : m ≡ n = cc in subst (λ k. (1 ≤ k) × (k ≤ most)) same (leb-true 1 m is, leb-true m most js)
    step true is false js e = cc
    step false is t js e = cc
count_read-within most _ n e = cc

-- a width that a field of a VFD may have
abbrev IsWidth : BitField → Type 0
IsWidth field = (1 ≤ field.width) × (field.width ≤ 60)

bit_field-width : (width : Option ℕ) (value : Option (Option Expression)) (field : BitField) → ((n : ℕ) → width ≡ Some n → (1 ≤ n) × (n ≤ 60)) → bit_field width value ≡ Some field → IsWidth field
bit_field-width None value field h e = cc
bit_field-width (Some width) None field h e = cc
bit_field-width (Some width) (Some value) field h e = let same : (let f : BitField = record { width = width; value = value } in f) ≡ field = cc in subst IsWidth same (h width refl)

vfd_field-width : (literals : Bool) (base : NumberBase) (pieces : List Piece) (field : BitField) → vfd_field literals base pieces ≡ Some field → IsWidth field
vfd_field-width literals base (Plain width ∷ IsMark Slash ∷ []) field e = bit_field-width (count_read 60 (number_read base width)) (Some None) field (count_read-within 60 (number_read base width)) e
vfd_field-width literals base (Plain width ∷ IsMark Slash ∷ (piece ∷ pieces)) field e =
    bit_field-width (count_read 60 (number_read base width)) (option_map Some (plain_of literals base (piece ∷ pieces))) field (count_read-within 60 (number_read base width)) e
vfd_field-width literals base _ field e = cc

fields-widths : (field : List Piece → Option BitField) (subfields : List (List Piece)) (found : List BitField) → ((pieces : List Piece) (f : BitField) → field pieces ≡ Some f → IsWidth f) →
    all_read field subfields ≡ Some found → HaveWidths found
fields-widths field [] found h e = let same : [] ≡ found = cc in subst HaveWidths same tt
fields-widths field (subfield ∷ subfields) found h e = step (λ fs g. fields-widths field subfields fs h g) (field subfield) refl (all_read field subfields) refl e
  where
    step : ((fs : List BitField) → all_read field subfields ≡ Some fs → HaveWidths fs) → (first : Option BitField) → field subfield ≡ first →
        (rest : Option (List BitField)) → all_read field subfields ≡ rest → onto_all first rest ≡ Some found → HaveWidths found
    step behind None is rest js e = cc
    step behind (Some first) is None js e = cc
    step behind (Some first) is (Some rest) js e = let same : first ∷ rest ≡ found = cc in subst HaveWidths same (h subfield first is, behind rest js)

bits_operand-made : (kind : DeckKind) (fields : Option (List BitField)) → ((fs : List BitField) → fields ≡ Some fs → HaveWidths fs) → IsMade kind (bits_operand fields)
bits_operand-made kind None h = tt
bits_operand-made kind (Some fields) h = h fields refl

text_operand-made : (kind : DeckKind) (count : Option ℕ) (text : List ℕ) → IsMade kind (text_operand kind count text)
text_operand-made kind None text = tt
text_operand-made kind (Some count) text =
    let n = count * word_characters kind in
    let same = length-take n (text ++ replicate n blank) in omega (arith, same)

dis_operand-made : (kind : DeckKind) (base : NumberBase) (text : List ℕ) → IsMade kind (dis_operand kind base text)
dis_operand-made kind base text =
    let count = take_while (λ c. not (nat_eq c comma)) text in
    picked_cond (IsMade kind) (nat_le (1 + length count) (length text)) _ _ (text_operand-made kind (count_read 100 (number_read base count)) (drop (1 + length count) text)) tt

-- one expression, or a bad operand
abbrev pub IsValue : Operand → Type 0
IsValue BadOperand = Unit {0}
IsValue (ValueOperand e) = Unit {0}
IsValue _ = ⊥

value_operand-value : (e : Option Expression) → IsValue (value_operand e)
value_operand-value None = tt
value_operand-value (Some e) = tt

-- the operand of BSS, BSSZ, ORG, LOC and EQU
pub one_value-value : (base : NumberBase) (subfields : List (List Piece)) → IsValue (one_value base subfields)
one_value-value base [] = tt
one_value-value base (pieces ∷ []) = value_operand-value (plain_of false base pieces)
one_value-value base (pieces ∷ other ∷ others) = tt

value-made : (kind : DeckKind) (operand : Operand) → IsValue operand → IsMade kind operand
value-made kind BadOperand h = tt
value-made kind (ValueOperand e) h = tt
value-made kind _ h = absurd h

one_value-made : (kind : DeckKind) (base : NumberBase) (subfields : List (List Piece)) → IsMade kind (one_value base subfields)
one_value-made kind base subfields = value-made kind (one_value base subfields) (one_value-value base subfields)

common_operand-made : (kind : DeckKind) (text : List ℕ) → IsMade kind (common_operand kind text)
common_operand-made Rel text = picked_cond (IsMade Rel) (is_common_name text) (UseName text) UseRefused tt tt
common_operand-made Abs text = tt
common_operand-made Periph text = tt

use_operand-made : (kind : DeckKind) (text : List ℕ) → IsMade kind (use_operand kind text)
use_operand-made kind [] = tt
use_operand-made kind (c ∷ cs) =
    picked_cond (IsMade kind) (is_among slash (c ∷ cs)) _ _ (common_operand-made kind (c ∷ cs))
    (picked_cond (IsMade kind) (same_text (c ∷ cs) (codes "*")) UseBefore _ tt
    (picked_cond (IsMade kind) (is_block_name (c ∷ cs)) (UseName (c ∷ cs)) BadOperand tt tt))

base_operand-made : (kind : DeckKind) (text : List ℕ) → IsMade kind (base_operand text)
base_operand-made kind text = picked_cond (IsMade kind) (same_text text (codes "O")) Unread _ tt (picked_cond (IsMade kind) (same_text text (codes "D")) Unread BadOperand tt tt)

-- each operation's operand is made so
pub operand_of-made : (kind : DeckKind) (base : NumberBase) (operation : Operation) (name text : List ℕ) → IsMade kind (operand_of kind base operation name text)
operand_of-made kind base op.Base name text = base_operand-made kind text
operand_of-made kind base op.Use name text = use_operand-made kind text
operand_of-made kind base op.Org name text = one_value-made kind base (subfields_of (pieces_of text))
operand_of-made kind base op.Loc name text = one_value-made kind base (subfields_of (pieces_of text))
operand_of-made kind base op.Equ name text = one_value-made kind base (subfields_of (pieces_of text))
operand_of-made kind base op.Bss name text = one_value-made kind base (subfields_of (pieces_of text))
operand_of-made kind base op.Bssz name text = one_value-made kind base (subfields_of (pieces_of text))
operand_of-made kind base op.Data name text = words_operand-made kind (all_read (data_word base) (subfields_of (pieces_of text)))
operand_of-made kind base op.Con name text = words_operand-made kind (all_read (con_word (allows_literals kind) base) (subfields_of (pieces_of text)))
operand_of-made kind base op.Vfd name text =
    bits_operand-made kind (all_read (vfd_field (allows_literals kind) base) (subfields_of (pieces_of text)))
    (λ fs e. fields-widths (vfd_field (allows_literals kind) base) (subfields_of (pieces_of text)) fs (vfd_field-width (allows_literals kind) base) e)
operand_of-made kind base op.Dis name text = dis_operand-made kind base text
operand_of-made kind base op.Entry name text = tt
operand_of-made kind base op.Ext name text = tt
operand_of-made kind base op.Instruction name text = instruction_operand-made kind base name (subfields_of (pieces_of text))
operand_of-made kind base _ name text = tt
