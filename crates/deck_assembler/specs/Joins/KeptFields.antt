-- The fields of a statement, as a line keeps them.
use Rattle.std.specs.Prelude.{ℕ, ◌≡◌, ◌≤◌, ◌<◌, ◌+◌, ◌^◌, List, [], ◌∷◌, Bool, true, false, length, take, drop}
use Rattle.definitions.specs.{Layout.{Layout, Based}, LinkLines.unfit_words, Operands.Operand, StatementItems.Item, Words.{Linking, width_of, joined}, declared.deck_kind.DeckKind.DeckKind, Settled.Settled, Settling.View, Laws.Filling.{HasFields, DoFill}}
use Rattle.statement_coder.specs.declared.items.Item as code
use Rattle.statement_coder.specs.{Joins.CodedItems.{AreTold, zeros_of, is_zeros, stores_zeros}, Joins.Sizings.IsSizing, Joins.WordItems.{known_words, listed_fields}, declared.coded.CodedItems.CodedItems, declared.sizing.Sizing.Sizing}
use Rattle.deck_objects.specs.Joins.LineItems.{listed, words_listed, AreShort}
use Rattle.deck_objects.specs.declared.lines.FieldLists.{FieldLists}
use Rattle.deck_objects.specs.declared.lines.LineFields as kept
use Rattle.deck_objects.specs.declared.lines.LineFields.TheVariants as fields

-- a list begins with another: nothing before the old end is changed
abbrev pub BeginsWith : {A : Type 0} → List A → List A → Type 0
BeginsWith before after = take (length before) after ≡ before

-- and so do the lists of an object
abbrev pub AreKeptOn : FieldLists → FieldLists → Type 0
AreKeptOn before after = BeginsWith before.words.items after.words.items × BeginsWith before.items.items after.items.items

-- or are as they were
abbrev pub AreUnchanged : FieldLists → FieldLists → Type 0
AreUnchanged before after = (after.words.items ≡ before.words.items) × (after.items.items ≡ before.items.items)

-- the words that were put at the end of a list are these fields
pub record ArePut (width : ℕ) (fields : List Item) (before after : List ℕ) : Type 0 where
  pub kept : BeginsWith before after
  pub told : known_words width (drop (length before) after) ≡ fields

-- fields of known bits have so many bits together, and are this number
pub record AreTogether (fields : List Item) (width bits : ℕ) : Type 0 where
  pub wide : width_of fields ≡ width
  pub same : (linking : Linking) → joined linking fields ≡ bits
  pub fitting : (layout : Layout) (based : Based) (from : ℕ) → unfit_words layout based from fields ≡ []

-- fields of known bits are this number of at most 60 bits
pub record IsNumber (fields : List Item) (bits : ℕ) : Type 0 where
  pub together : AreTogether fields (width_of fields) bits
  pub room : bits < 2 ^ width_of fields
  pub short : width_of fields ≤ 60

-- there are some, and they are this number
abbrev pub IsOneNumber : List Item → ℕ → Type 0
IsOneNumber fields bits = HasFields fields × IsNumber fields bits

-- what a line keeps of these fields of an operand, with the lists of its object
abbrev pub AreKeptAs : DeckKind → Operand → Sizing → kept.LineFields → FieldLists → List Item → Type 0
AreKeptAs kind operand sizing fields.Absent lists told = told ≡ []
AreKeptAs kind operand sizing (fields.Known bits) lists told = IsOneNumber (listed_fields kind operand told) bits
AreKeptAs kind operand sizing (fields.Words first count) lists told =
    (2 ≤ count) × ((first + count ≤ length lists.words.items) × (words_listed kind lists.words.items first count ≡ listed_fields kind operand told))
AreKeptAs kind operand sizing (fields.Listed first count) lists told = (first + count ≤ length lists.items.items) × (listed lists.items.items first count ≡ listed_fields kind operand told)
AreKeptAs kind operand sizing fields.Zeros lists told = told ≡ zeros_of kind sizing ∷ []

-- whether a line stores zeros
abbrev pub are_zeros : kept.LineFields → Bool
are_zeros fields.Zeros = true
are_zeros _ = false

-- what is stated of a settled statement with these fields, and what the laws say of those
pub record IsTold (kind : DeckKind) (view : View) (settled : Settled) (sizing : Sizing) (told : CodedItems) (before after : List code.Item) (fields' : List Item) : Type 0 where
  pub is_sizing : IsSizing kind view settled sizing
  pub are_told : AreTold kind settled.read.operand sizing told before after fields'
  pub zeros : is_zeros told ≡ stores_zeros settled.read.operation
  pub filled : DoFill kind settled.place settled.end fields'
  pub short : stores_zeros settled.read.operation ≡ false → AreShort (listed_fields kind settled.read.operand fields')
