-- The lines of fields, by their width and their bits alone.
use Rattle.std.proofs.Common.{◌≡◌, ℕ, ◌/◌, ◌%◌, true, List, [], ◌∷◌, refl, sym, ap₂, ◌∙◌}
use Rattle.definitions.specs.{Listing.{central_line, central_lines, data_lines, item_lines, peripheral_item_lines, peripheral_lines}, Operations.{Operation, is_instruction}, StatementItems.Item, Words.{Coded, Linking, cut, joined, width_of}, declared.deck_kind.DeckKind.DeckKind, declared.deck_kind.DeckKind.TheVariants.{Rel, Abs, Periph}}
use Rattle.definitions.specs.Operations as op
use Rattle.deck_objects.specs.Joins.LineItems.{AreBitsOf}
use Rattle.deck_listing.specs.Joins.WordLines.{fields_text, has_one_line}

-- the lines of a statement of a central deck that has fields, by their width and bits
abbrev central_of : Operation → ℕ → ℕ → ℕ → List ℕ
central_of op.Bssz place width bits = []
central_of op.Instruction place width bits = central_line (place / 4) (place % 4) width bits
central_of operation place width bits = data_lines (place / 4) (cut 60 (width / 60) bits)

central-some : (linking : Linking) (operation : Operation) (place : ℕ) (field : Item) (fields : List Item) →
    central_lines linking operation place (field ∷ fields) ≡ central_of operation place (width_of (field ∷ fields)) (joined linking (field ∷ fields))
central-some linking op.EmptyField place field fields = refl
central-some linking op.Listed place field fields = refl
central-some linking op.End place field fields = refl
central-some linking (op.Kind kind) place field fields = refl
central-some linking op.Base place field fields = refl
central-some linking op.Use place field fields = refl
central-some linking op.Org place field fields = refl
central-some linking op.Loc place field fields = refl
central-some linking op.Equ place field fields = refl
central-some linking op.Bss place field fields = refl
central-some linking op.Bssz place field fields = refl
central-some linking op.Data place field fields = refl
central-some linking op.Con place field fields = refl
central-some linking op.Vfd place field fields = refl
central-some linking op.Dis place field fields = refl
central-some linking op.Entry place field fields = refl
central-some linking op.Ext place field fields = refl
central-some linking op.Instruction place field fields = refl
central-some linking op.Unknown place field fields = refl

-- the lines of a statement of a peripheral deck, by the width and the bits of its fields
abbrev peripheral_of : Operation → ℕ → ℕ → ℕ → List ℕ
peripheral_of op.Bssz place width bits = []
peripheral_of operation place width bits = peripheral_lines place (cut 12 (width / 12) bits)

peripheral-is : (linking : Linking) (operation : Operation) (place : ℕ) (fields : List Item) →
    peripheral_item_lines linking operation place fields ≡ peripheral_of operation place (width_of fields) (joined linking fields)
peripheral-is linking op.EmptyField place fields = refl
peripheral-is linking op.Listed place fields = refl
peripheral-is linking op.End place fields = refl
peripheral-is linking (op.Kind kind) place fields = refl
peripheral-is linking op.Base place fields = refl
peripheral-is linking op.Use place fields = refl
peripheral-is linking op.Org place fields = refl
peripheral-is linking op.Loc place fields = refl
peripheral-is linking op.Equ place fields = refl
peripheral-is linking op.Bss place fields = refl
peripheral-is linking op.Bssz place fields = refl
peripheral-is linking op.Data place fields = refl
peripheral-is linking op.Con place fields = refl
peripheral-is linking op.Vfd place fields = refl
peripheral-is linking op.Dis place fields = refl
peripheral-is linking op.Entry place fields = refl
peripheral-is linking op.Ext place fields = refl
peripheral-is linking op.Instruction place fields = refl
peripheral-is linking op.Unknown place fields = refl

-- fields with the same bits have the same lines
central-same : (linking : Linking) (operation : Operation) (place : ℕ) (kept fields : List Item) → AreBitsOf kept fields → central_lines linking operation place kept ≡ central_lines linking operation place fields
central-same linking operation place [] [] bits = refl
central-same linking operation place [] (field ∷ fields) bits = absurd (bits.some tt)
central-same linking operation place (item ∷ kept) [] bits = let e = bits.none refl in cc
central-same linking operation place (item ∷ kept) (field ∷ fields) bits =
    central-some linking operation place item kept
    ∙ ap₂ (central_of operation place) bits.width (bits.bits linking)
    ∙ sym (central-some linking operation place field fields)

pub fields_text-same : (kind : DeckKind) (linking : Linking) (operation : Operation) (place : ℕ) (kept fields : List Item) → AreBitsOf kept fields →
    fields_text kind linking operation place kept ≡ fields_text kind linking operation place fields
fields_text-same Rel linking operation place kept fields bits = central-same linking operation place kept fields bits
fields_text-same Abs linking operation place kept fields bits = central-same linking operation place kept fields bits
fields_text-same Periph linking operation place kept fields bits =
    peripheral-is linking operation place kept ∙ ap₂ (peripheral_of operation place) bits.width (bits.bits linking) ∙ sym (peripheral-is linking operation place fields)

-- the lines of a statement are those of its fields
pub fields_text-items : (kind : DeckKind) (linking : Linking) (coded : Coded) →
    fields_text kind linking coded.settled.read.operation coded.settled.place coded.fields ≡ item_lines kind linking coded
fields_text-items Rel linking coded = refl
fields_text-items Abs linking coded = refl
fields_text-items Periph linking coded = refl

is_instruction-true : (operation : Operation) → is_instruction operation ≡ true → operation ≡ op.Instruction
is_instruction-true op.EmptyField e = cc
is_instruction-true op.Listed e = cc
is_instruction-true op.End e = cc
is_instruction-true (op.Kind kind) e = cc
is_instruction-true op.Base e = cc
is_instruction-true op.Use e = cc
is_instruction-true op.Org e = cc
is_instruction-true op.Loc e = cc
is_instruction-true op.Equ e = cc
is_instruction-true op.Bss e = cc
is_instruction-true op.Bssz e = cc
is_instruction-true op.Data e = cc
is_instruction-true op.Con e = cc
is_instruction-true op.Vfd e = cc
is_instruction-true op.Dis e = cc
is_instruction-true op.Entry e = cc
is_instruction-true op.Ext e = cc
is_instruction-true op.Instruction e = refl
is_instruction-true op.Unknown e = cc

-- what has one line is an instruction
pub has_one_line-true : (kind : DeckKind) (operation : Operation) → has_one_line kind operation ≡ true → operation ≡ op.Instruction
has_one_line-true Rel operation e = is_instruction-true operation e
has_one_line-true Abs operation e = is_instruction-true operation e
has_one_line-true Periph operation e = cc
