-- What a statement reads once all names have their values, and whether it has another value in the deck before an edit.
use Rattle.std.specs.Prelude.{◌≡◌, Bool, not, List, [], ◌∷◌, ◌++◌, flat_map}
use Rattle.definitions.specs.{Expressions.{Element, LocationCounter, elements_of}, Forms.{Form, Names, element_form}, Lengths.BlockRow, Literals.literal_form, Operands.BitField, Operations.Operation, Laws.Rebound.{value_elements, datum_elements, name_elements, same_value}, Settled.{Settled, defined}, StatementItems.Context, declared.deck_kind.DeckKind.TheVariants.Rel}
use Rattle.expr_forms.specs.declared.shapes.Field as code
use Rattle.expr_forms.specs.declared.shapes.Field.TheVariants as field
use Rattle.statement_coder.specs.declared.readings.Reading as readings
use Rattle.statement_coder.specs.declared.readings.Reading.TheVariants as reading
use Rattle.deck_assembler.specs.{Joins.FirstSymbols.symbol_in, declared.rebinding.Bindings.Bindings, declared.rebinding.Rebinding.Rebinding}

-- what a statement with these two counters sees of a deck
abbrev pub names_in : Bindings → Form → Form → Names
names_in bindings location origin =
    record { symbol = symbol_in bindings.symbols.now; literal = λ literal. literal_form bindings.literals.now literal; location = location; origin = origin }

-- a deck of which only the places of its blocks are known
abbrev pub context_at : List BlockRow → Context
context_at rows = record { kind = Rel; settled = []; rows = rows; literals = [] }

-- whether an element has another value, or a block that stands elsewhere
abbrev pub differs : Rebinding → Element → Bool
differs r element =
    not (same_value (context_at r.old.bases.now) (context_at r.new.bases.now)
    (element_form (names_in r.old r.location r.origin) element) (element_form (names_in r.new r.location r.origin) element))

-- what a field of a VFD reads
abbrev pub bit_elements : BitField → List Element
bit_elements field = value_elements field.value

-- what an instruction reads behind its digits: a displacement reads the location counter
abbrev pub shape_elements : code.Field → List Element
shape_elements (field.Address e) = elements_of e
shape_elements (field.Count e) = elements_of e
shape_elements (field.Short e) = elements_of e
shape_elements (field.Displacement e) = LocationCounter ∷ elements_of e
shape_elements (field.Shift e) = elements_of e
shape_elements (field.Wide e) = elements_of e
shape_elements (field.Long m d) = elements_of m ++ value_elements d
shape_elements _ = []

-- what coding reads of what was read in a variable field
abbrev pub reading_elements : Operation → readings.Reading → List Element
reading_elements operation (reading.Instruction shape) = shape_elements shape.field
reading_elements operation (reading.Data words) = flat_map datum_elements words
reading_elements operation (reading.Con words) = flat_map datum_elements words
reading_elements operation (reading.Vfd fields) = flat_map bit_elements fields
reading_elements operation (reading.Names names) = name_elements operation names
reading_elements operation _ = []

-- these are the names, the literals and the blocks of a deck
pub record AreBindings (bindings : Bindings) (context : Context) : Type 0 where
  pub symbols : symbol_in bindings.symbols.now ≡ (λ name. defined name context.settled)
  pub literals : bindings.literals.now ≡ context.literals
  pub rows : bindings.bases.now ≡ context.rows

-- a settled statement sees these in two decks
pub record IsRebinding (r : Rebinding) (old new : Context) (settled : Settled) : Type 0 where
  pub of_old : AreBindings r.old old
  pub of_new : AreBindings r.new new
  pub location : r.location ≡ settled.location
  pub origin : r.origin ≡ settled.origin

-- all names mean the same in two decks
pub record MeanSame (bindings other : Bindings) : Type 0 where
  pub symbols : bindings.symbols.now ≡ other.symbols.now
  pub literals : bindings.literals.now ≡ other.literals.now
  pub rows : bindings.bases.now ≡ other.bases.now
