-- The text of a DIS fills its words.
use Rattle.std.{proofs.Common.{◌≡◌, ℕ, ◌+◌, ◌*◌, ◌/◌, Bool, true, false, List, [], ◌∷◌, ◌++◌, Option, Some, None, length, take, drop, map, replicate, arith, length-append, if◌then◌else◌}, specs.Prelude.{nat_le, codes, take_while, not, nat_eq}, proofs.lemmas.List.{length-take-le, length-replicate}}
use Rattle.definitions.specs.{Characters.{blank, is_among, same_text, slash, comma}, Expressions.Expression, Kinds.{word_bits, allows_literals}, Matching.{Instruction, central_of}, Operands.{Operand, TextOperand, UseName, UseBefore, UseRefused, BadOperand, Unread, Datum, BitField, word_characters, count_read, text_operand, dis_operand, value_operand, plain_of, one_value, words_operand, all_read, data_word, con_word, bits_operand, vfd_field, base_operand, common_operand, is_common_name, use_operand, central_operand, one_or_two, just_one, by_form, peripheral_operand, instruction_operand, operand_of}, Operations.Operation, PeripheralTable.{PeripheralForm, Ignored, Short, ShortJump, Shift, Wide, Long, PeripheralRow, peripheral_row}, Pieces.{Piece, pieces_of, subfields_of}, Symbols.{number_read, is_block_name}, declared.number_base.NumberBase.NumberBase, declared.deck_kind.DeckKind.TheVariants.{Rel, Abs, Periph}, declared.deck_kind.DeckKind.DeckKind}
use Rattle.definitions.specs.Operations as op

-- as many characters as the words have, if the operand is a text
abbrev pub FillsWords : DeckKind → Operand → Type 0
FillsWords kind (TextOperand count characters) = length characters ≡ count * (word_bits kind / 6)
FillsWords kind _ = Unit {0}

-- a text and blanks behind it fill so many places
fills-places : (n : ℕ) (text : List ℕ) → length (take n (text ++ replicate n blank)) ≡ n
fills-places n text = length-take-le n (text ++ replicate n blank) (omega (arith, length-append text (replicate n blank), length-replicate n blank))

fills-text_operand : (kind : DeckKind) (count : Option ℕ) (text : List ℕ) → FillsWords kind (text_operand kind count text)
fills-text_operand kind None text = tt
fills-text_operand kind (Some count) text = fills-places (count * word_characters kind) text

fills-cond : (kind : DeckKind) (b : Bool) (x y : Operand) → FillsWords kind x → FillsWords kind y → FillsWords kind (if b then x else y)
fills-cond kind true x y h k = h
fills-cond kind false x y h k = k

fills-dis : (kind : DeckKind) (base : NumberBase) (text : List ℕ) → FillsWords kind (dis_operand kind base text)
fills-dis kind base text =
    let count : List ℕ = take_while (λ c. not (nat_eq c comma)) text in
    fills-cond kind (nat_le (1 + length count) (length text)) _ BadOperand
    (fills-text_operand kind (count_read 100 (number_read base count)) (drop (1 + length count) text)) tt

fills-value : (kind : DeckKind) (e : Option Expression) → FillsWords kind (value_operand e)
fills-value kind None = tt
fills-value kind (Some e) = tt

fills-one : (kind : DeckKind) (base : NumberBase) (subfields : List (List Piece)) → FillsWords kind (one_value base subfields)
fills-one kind base [] = tt
fills-one kind base (pieces ∷ []) = fills-value kind (plain_of false base pieces)
fills-one kind base (pieces ∷ other ∷ rest) = tt

fills-words : (kind : DeckKind) (words : Option (List Datum)) → FillsWords kind (words_operand words)
fills-words kind None = tt
fills-words kind (Some words) = tt

fills-bits : (kind : DeckKind) (fields : Option (List BitField)) → FillsWords kind (bits_operand fields)
fills-bits kind None = tt
fills-bits kind (Some fields) = tt

fills-base : (kind : DeckKind) (text : List ℕ) → FillsWords kind (base_operand text)
fills-base kind text =
    fills-cond kind (same_text text (codes "O")) Unread _ tt (fills-cond kind (same_text text (codes "D")) Unread BadOperand tt tt)

fills-common : (kind deck : DeckKind) (text : List ℕ) → FillsWords kind (common_operand deck text)
fills-common kind Rel text = fills-cond kind (is_common_name text) (UseName text) UseRefused tt tt
fills-common kind Abs text = tt
fills-common kind Periph text = tt

fills-use : (kind : DeckKind) (text : List ℕ) → FillsWords kind (use_operand kind text)
fills-use kind [] = tt
fills-use kind (c ∷ cs) =
    fills-cond kind (is_among slash (c ∷ cs)) (common_operand kind (c ∷ cs)) _ (fills-common kind kind (c ∷ cs))
    (fills-cond kind (same_text (c ∷ cs) (codes "*")) UseBefore _ tt (fills-cond kind (is_block_name (c ∷ cs)) (UseName (c ∷ cs)) BadOperand tt tt))

fills-central : (kind : DeckKind) (found : Option Instruction) → FillsWords kind (central_operand found)
fills-central kind None = tt
fills-central kind (Some instruction) = tt

fills-just_one : (kind : DeckKind) (row : PeripheralRow) (values : List (Option Expression)) → FillsWords kind (just_one row values)
fills-just_one kind row [] = tt
fills-just_one kind row (None ∷ rest) = tt
fills-just_one kind row (Some d ∷ []) = tt
fills-just_one kind row (Some d ∷ other ∷ rest) = tt

fills-one_or_two : (kind : DeckKind) (row : PeripheralRow) (values : List (Option Expression)) → FillsWords kind (one_or_two row values)
fills-one_or_two kind row [] = tt
fills-one_or_two kind row (None ∷ rest) = tt
fills-one_or_two kind row (Some m ∷ []) = tt
fills-one_or_two kind row (Some m ∷ None ∷ rest) = tt
fills-one_or_two kind row (Some m ∷ Some d ∷ []) = tt
fills-one_or_two kind row (Some m ∷ Some d ∷ other ∷ rest) = tt

fills-form : (kind : DeckKind) (row : PeripheralRow) (form : PeripheralForm) (values : List (Option Expression)) → FillsWords kind (by_form row form values)
fills-form kind row Ignored values = tt
fills-form kind row Long values = fills-one_or_two kind row values
fills-form kind row Short values = fills-just_one kind row values
fills-form kind row ShortJump values = fills-just_one kind row values
fills-form kind row Shift values = fills-just_one kind row values
fills-form kind row Wide values = fills-just_one kind row values

fills-peripheral : (kind : DeckKind) (base : NumberBase) (row : Option PeripheralRow) (subfields : List (List Piece)) → FillsWords kind (peripheral_operand base row subfields)
fills-peripheral kind base None subfields = tt
fills-peripheral kind base (Some row) subfields = fills-form kind row row.form (map (plain_of false base) subfields)

fills-instruction : (kind deck : DeckKind) (base : NumberBase) (name : List ℕ) (subfields : List (List Piece)) → FillsWords kind (instruction_operand deck base name subfields)
fills-instruction kind Periph base name subfields = fills-peripheral kind base (peripheral_row name) subfields
fills-instruction kind Rel base name subfields = fills-central kind (central_of base name subfields)
fills-instruction kind Abs base name subfields = fills-central kind (central_of base name subfields)

-- a text that is an operand has as many characters as its words
pub operand_of-fills : (kind : DeckKind) (base : NumberBase) (operation : Operation) (name text : List ℕ) → FillsWords kind (operand_of kind base operation name text)
operand_of-fills kind base op.Base name text = fills-base kind text
operand_of-fills kind base op.Use name text = fills-use kind text
operand_of-fills kind base op.Org name text = fills-one kind base (subfields_of (pieces_of text))
operand_of-fills kind base op.Loc name text = fills-one kind base (subfields_of (pieces_of text))
operand_of-fills kind base op.Equ name text = fills-one kind base (subfields_of (pieces_of text))
operand_of-fills kind base op.Bss name text = fills-one kind base (subfields_of (pieces_of text))
operand_of-fills kind base op.Bssz name text = fills-one kind base (subfields_of (pieces_of text))
operand_of-fills kind base op.Data name text = fills-words kind (all_read (data_word base) (subfields_of (pieces_of text)))
operand_of-fills kind base op.Con name text = fills-words kind (all_read (con_word (allows_literals kind) base) (subfields_of (pieces_of text)))
operand_of-fills kind base op.Vfd name text = fills-bits kind (all_read (vfd_field (allows_literals kind) base) (subfields_of (pieces_of text)))
operand_of-fills kind base op.Dis name text = fills-dis kind base text
operand_of-fills kind base op.Entry name text = tt
operand_of-fills kind base op.Ext name text = tt
operand_of-fills kind base op.Instruction name text = fills-instruction kind kind base name (subfields_of (pieces_of text))
operand_of-fills kind base op.EmptyField name text = tt
operand_of-fills kind base op.Listed name text = tt
operand_of-fills kind base op.End name text = tt
operand_of-fills kind base (op.Kind made) name text = tt
operand_of-fills kind base op.Unknown name text = tt
