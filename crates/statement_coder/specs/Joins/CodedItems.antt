-- What is listed of the fields of a statement.
use Rattle.std.specs.Prelude.{ℕ, ◌≡◌, ◌+◌, ◌-◌, ◌*◌, ◌/◌, List, [], ◌∷◌, Bool, true, false, map, length, take, drop}
use Rattle.definitions.specs.{Kinds.{word_bits, units}, Letters.in_order, Operands.Operand, Operations.Operation, StatementItems.{Item, known}, declared.deck_kind.DeckKind.DeckKind}
use Rattle.definitions.specs.Operations as op
use Rattle.statement_coder.specs.{Joins.FieldLetters.field_letters, Joins.Items.item_as, Joins.WordItems.listed_fields, declared.coded.Coded.Coded, declared.sizing.Sizing.Sizing}
use Rattle.statement_coder.specs.declared.items.Item as code
use Rattle.statement_coder.specs.declared.coded.CodedItems as told
use Rattle.statement_coder.specs.declared.coded.CodedItems.TheVariants as items

-- a list of which nothing before its old end is changed
abbrev pub IsKept : List code.Item → List code.Item → Type 0
IsKept before after = take (length before) after ≡ before

-- so many at the end of a list are these fields of an operand
pub record AreListed (kind : DeckKind) (operand : Operand) (count : ℕ) (before after : List code.Item) (fields : List Item) : Type 0 where
  pub kept : IsKept before after
  pub size : length after ≡ length before + count
  pub told : map item_as (drop (length before) after) ≡ listed_fields kind operand fields

-- zeros from the place of a statement to its end
abbrev pub zeros_of : DeckKind → Sizing → Item
zeros_of kind sizing = known ((sizing.usual.end - sizing.usual.place) / units kind * word_bits kind) 0

-- what is told of the fields of a statement with this operand, with the list before and after it, are these
abbrev pub AreTold : DeckKind → Operand → Sizing → told.CodedItems → List code.Item → List code.Item → List Item → Type 0
AreTold kind operand sizing items.Absent before after fields = (fields ≡ []) × (after ≡ before)
AreTold kind operand sizing (items.Instruction fields) before after told = (map item_as fields.now ≡ told) × ((after ≡ before) × (listed_fields kind operand told ≡ told))
AreTold kind operand sizing (items.Listed count) before after fields = AreListed kind operand count before after fields
AreTold kind operand sizing items.Zeros before after fields = (fields ≡ zeros_of kind sizing ∷ []) × (after ≡ before)

-- and so are their letters
abbrev pub AreCoded : DeckKind → Operand → Sizing → Coded → List code.Item → List code.Item → List Item → Type 0
AreCoded kind operand sizing coded before after fields = AreTold kind operand sizing coded.items before after fields × (coded.letters ≡ in_order (field_letters fields))

-- the same, of fields that a list would have as they are
abbrev pub AreCodedAs : List Item → Coded → Type 0
AreCodedAs fields coded = (kind : DeckKind) (operand : Operand) (sizing : Sizing) (list : List code.Item) → listed_fields kind operand fields ≡ fields → AreCoded kind operand sizing coded list list fields

-- whether zeros are listed
abbrev pub is_zeros : told.CodedItems → Bool
is_zeros items.Zeros = true
is_zeros _ = false

-- whether an operation stores zeros
abbrev pub stores_zeros : Operation → Bool
stores_zeros op.Bssz = true
stores_zeros _ = false
