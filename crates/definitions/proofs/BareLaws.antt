-- Statements without a place, and those of ORG, have no fields.
use Rattle.std.{proofs.Common.{ℕ, ◌≡◌, Bool, true, false, List, [], ◌∷◌, refl}, specs.Prelude.nat_le}
use Rattle.definitions.{specs.Characters.{is_among, same_text, slash}, specs.Pieces.{Piece, pieces_of, subfields_of}, specs.Statements.Statement, specs.Operations.{Operation, has_place}, specs.Operands.{Operand, CentralOperand, PeripheralOperand, WordsOperand, BitsOperand, TextOperand, Unread, BadOperand, ValueOperand, UseName, UseBefore, UseRefused, one_value, common_operand, use_operand, base_operand, operand_of, is_common_name}, specs.Symbols.is_block_name, specs.Settled.{Settled, ReadStatement, read_of}, specs.Settling.{Seen, seen_of, settle, settled_with, Standing, standing_of}, specs.StatementItems.{Item, Context, operand_items, items_of}, specs.declared.deck_kind.DeckKind.DeckKind, specs.declared.deck_kind.DeckKind.TheVariants.{Rel, Abs, Periph}, specs.declared.number_base.NumberBase.NumberBase, proofs.WordLaws.picked_cond, proofs.OperandLaws.{IsValue, one_value-value}}
use Rattle.definitions.specs.Operations as op

-- the operations whose operands have fields
abbrev pub has_fields : Operation → Bool
has_fields op.Instruction = true
has_fields op.Data = true
has_fields op.Con = true
has_fields op.Vfd = true
has_fields op.Dis = true
has_fields op.Bssz = true
has_fields _ = false

-- an operation without a place has no fields
pub unplaced_bare : (operation : Operation) → has_place operation ≡ false → has_fields operation ≡ false
unplaced_bare op.Instruction e = cc
unplaced_bare op.Data e = cc
unplaced_bare op.Con e = cc
unplaced_bare op.Vfd e = cc
unplaced_bare op.Dis e = cc
unplaced_bare op.Bssz e = cc
unplaced_bare _ e = refl

-- an operand that has no fields
abbrev pub IsBare : Operand → Type 0
IsBare (CentralOperand instruction) = ⊥
IsBare (PeripheralOperand row values) = ⊥
IsBare (WordsOperand data') = ⊥
IsBare (BitsOperand fields) = ⊥
IsBare (TextOperand count characters) = ⊥
IsBare _ = Unit {0}

value-bare : (operand : Operand) → IsValue operand → IsBare operand
value-bare BadOperand h = tt
value-bare (ValueOperand e) h = tt
value-bare _ h = absurd h

pub one_value-bare : (base : NumberBase) (subfields : List (List Piece)) → IsBare (one_value base subfields)
one_value-bare base subfields = value-bare (one_value base subfields) (one_value-value base subfields)

common_operand-bare : (kind : DeckKind) (text : List ℕ) → IsBare (common_operand kind text)
common_operand-bare Rel text = picked_cond IsBare (is_common_name text) (UseName text) UseRefused tt tt
common_operand-bare Abs text = tt
common_operand-bare Periph text = tt

use_operand-bare : (kind : DeckKind) (text : List ℕ) → IsBare (use_operand kind text)
use_operand-bare kind [] = tt
use_operand-bare kind (c ∷ cs) =
    picked_cond IsBare (is_among slash (c ∷ cs)) _ _ (common_operand-bare kind (c ∷ cs))
    (picked_cond IsBare (same_text (c ∷ cs) (42 ∷ [])) UseBefore _ tt
    (picked_cond IsBare (is_block_name (c ∷ cs)) (UseName (c ∷ cs)) BadOperand tt tt))

base_operand-bare : (text : List ℕ) → IsBare (base_operand text)
base_operand-bare text = picked_cond IsBare (same_text text (79 ∷ [])) Unread _ tt (picked_cond IsBare (same_text text (68 ∷ [])) Unread BadOperand tt tt)

pub operand_of-bare : (kind : DeckKind) (base : NumberBase) (operation : Operation) (name text : List ℕ) → has_fields operation ≡ false → IsBare (operand_of kind base operation name text)
operand_of-bare kind base op.Base name text e = base_operand-bare text
operand_of-bare kind base op.Use name text e = use_operand-bare kind text
operand_of-bare kind base op.Org name text e = one_value-bare base (subfields_of (pieces_of text))
operand_of-bare kind base op.Loc name text e = one_value-bare base (subfields_of (pieces_of text))
operand_of-bare kind base op.Equ name text e = one_value-bare base (subfields_of (pieces_of text))
operand_of-bare kind base op.Bss name text e = one_value-bare base (subfields_of (pieces_of text))
operand_of-bare kind base op.Entry name text e = tt
operand_of-bare kind base op.Ext name text e = tt
operand_of-bare kind base op.Bssz name text e = cc
operand_of-bare kind base op.Data name text e = cc
operand_of-bare kind base op.Con name text e = cc
operand_of-bare kind base op.Vfd name text e = cc
operand_of-bare kind base op.Dis name text e = cc
operand_of-bare kind base op.Instruction name text e = cc
operand_of-bare kind base _ name text e = tt

operand_items-none : (context : Context) (settled : Settled) (operand : Operand) → IsBare operand → operand_items context settled operand ≡ []
operand_items-none context settled (CentralOperand instruction) h = absurd h
operand_items-none context settled (PeripheralOperand row values) h = absurd h
operand_items-none context settled (WordsOperand data') h = absurd h
operand_items-none context settled (BitsOperand fields) h = absurd h
operand_items-none context settled (TextOperand count characters) h = absurd h
operand_items-none context settled _ h = refl

pub items_of-none : (context : Context) (settled : Settled) (operation : Operation) → has_fields operation ≡ false → IsBare settled.read.operand → items_of context settled operation ≡ []
items_of-none context settled op.Bssz e h = cc
items_of-none context settled _ e h =
    picked_cond (λ (items : List Item). items ≡ []) (nat_le settled.end settled.place) [] (operand_items context settled settled.read.operand) refl (operand_items-none context settled settled.read.operand h)

with-bare : (kind : DeckKind) (context : Context) (seen : Seen) (read : ReadStatement) (standing : Standing) (base : NumberBase) (name text : List ℕ) →
    read.operand ≡ operand_of kind base read.operation name text → has_fields read.operation ≡ false → items_of context (settled_with kind seen read standing) read.operation ≡ []
with-bare kind context seen read standing base name text is e =
    items_of-none context (settled_with kind seen read standing) read.operation e (rw is (operand_of-bare kind base read.operation name text e))

-- a statement whose operation has no fields
pub settle-bare : (kind : DeckKind) (earlier : List Settled) (statement : Statement) (context : Context) →
    (let settled = settle kind earlier statement in has_fields settled.read.operation ≡ false → items_of context settled settled.read.operation ≡ [])
settle-bare kind earlier statement context =
    let seen = seen_of earlier in
    let read = read_of kind seen.number_base statement in
    with-bare kind context seen read (standing_of kind seen read) seen.number_base read.fields.operation read.fields.variable refl
