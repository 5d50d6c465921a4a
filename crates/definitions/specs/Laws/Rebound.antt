-- Statements that an edit leaves as they are, and whose elements it binds otherwise: these are coded again (ours).
use Rattle.std.specs.{Prelude.{ℕ, ◌≤◌, ◌+◌, ◌==◌, List, [], ◌∷◌, ◌++◌, Option, Some, None, Result, Ok, Err, Bool, true, false, not, ◌&&◌, length, map, flat_map}, List.{list_any, count_by}, Ordering.int_eq}
use Rattle.definitions.specs.{Statements.Statement, Expressions.{Element, ASymbol, LocationCounter, Expression, elements_of}, Forms.{Form, Relocation, Block, External, Part, Added, Subtracted, same_relocation, element_form}, PeripheralTable.{PeripheralForm, ShortJump}, Matching.{Field, NoField, OfK, OfN}, Operations.Operation, Operands.{Operand, CentralOperand, PeripheralOperand, WordsOperand, BitsOperand, NamesOperand, Datum, ExpressionWord, BitField}, DeckKinds.kind_of_statements, Settled.Settled, Settling.settled_all, Laws.Agreement.{lawful_names, settled_tail}, Lengths.{BlockRow, base_in}, StatementItems.{Context, final_names}, Objects.context_of, Laws.Edits.{Edited, IsUntouched, Split, DoAgree}, declared.letter.Letter.Letter}
use Rattle.definitions.specs.Operations as op

-- the elements of K or n
abbrev pub field_elements : Field → List Element
field_elements NoField = []
field_elements (OfK e) = elements_of e
field_elements (OfN e) = elements_of e

-- the elements of a word of CON; DATA has none
abbrev pub datum_elements : Datum → List Element
datum_elements (ExpressionWord e) = elements_of e
datum_elements _ = []

-- the elements of a field of a VFD, if it has an expression
abbrev pub value_elements : Option Expression → List Element
value_elements None = []
value_elements (Some e) = elements_of e

-- a short jump reads the location counter, whether or not it is written
abbrev pub form_elements : PeripheralForm → List Element
form_elements ShortJump = LocationCounter ∷ []
form_elements form = []

-- the names that ENTRY reads
abbrev pub name_elements : Operation → List (Option (List ℕ)) → List Element
name_elements op.Entry names = map ASymbol (lawful_names names)
name_elements operation names = []

-- what coding reads in an operand; what a statement reads early or defines is settled before
abbrev pub coded_elements : Operation → Operand → List Element
coded_elements operation (CentralOperand instruction) = field_elements instruction.field
coded_elements operation (PeripheralOperand row values) = form_elements row.form ++ flat_map elements_of values
coded_elements operation (WordsOperand data') = flat_map datum_elements data'
coded_elements operation (BitsOperand fields) = flat_map (λ (field : BitField). value_elements field.value) fields
coded_elements operation (NamesOperand names) = name_elements operation names
coded_elements operation _ = []

-- whether two parts are one
abbrev pub same_part : Option Part → Option Part → Bool
same_part None None = true
same_part (Some (Added a)) (Some (Added b)) = same_relocation a b
same_part (Some (Subtracted a)) (Some (Subtracted b)) = same_relocation a b
same_part _ _ = false

-- where a relocation stands among the blocks of a deck; an external stands nowhere before the link
abbrev pub relocation_base : List BlockRow → Relocation → ℕ
relocation_base rows (Block name) = base_in name rows
relocation_base rows (External name) = 0

-- where the block of a part stands, if it has one
abbrev pub part_base : List BlockRow → Option Part → ℕ
part_base rows None = 0
part_base rows (Some (Added relocation)) = relocation_base rows relocation
part_base rows (Some (Subtracted relocation)) = relocation_base rows relocation

-- whether two forms are one, whose block stands where it stood
abbrev pub same_form : Context → Context → Form → Form → Bool
same_form old new a b = int_eq a.number b.number && (same_part a.part b.part && (part_base old.rows a.part == part_base new.rows b.part))

-- whether an element's two values are one; where it has none, its letter is always the same
abbrev pub same_value : Context → Context → Result Form Letter → Result Form Letter → Bool
same_value old new (Ok a) (Ok b) = same_form old new a b
same_value old new (Err a) (Err b) = true
same_value old new _ _ = false

-- whether an element of a statement is bound alike in two decks
abbrev pub bound_alike : Context → Context → Settled → Element → Bool
bound_alike old new settled element = same_value old new (element_form (final_names old settled) element) (element_form (final_names new settled) element)

-- whether one of a statement's elements is bound otherwise
abbrev pub is_rebound : Context → Context → Settled → Bool
is_rebound old new settled = list_any (λ element. not (bound_alike old new settled element)) (coded_elements settled.read.operation settled.read.operand)

-- what is known of the statements of a whole deck
abbrev pub context_from : List Statement → Context
context_from statements = let kind = kind_of_statements statements in context_of kind (settled_all kind statements)

-- how many statements of a front of the new deck are bound otherwise
abbrev pub rebound_front : Edited → List Statement → ℕ
rebound_front decks front = count_by (is_rebound (context_from decks.old) (context_from decks.new)) (settled_all (kind_of_statements decks.new) front)

-- how many statements of a tail of the new deck are bound otherwise
abbrev pub rebound_tail : Edited → List Statement → List Statement → ℕ
rebound_tail decks front tail =
    let kind = kind_of_statements decks.new in
    count_by (is_rebound (context_from decks.old) (context_from decks.new)) (settled_tail kind (settled_all kind front) tail)

-- as within due, with the statements of the front and of the tail that are bound otherwise
pub record IsWithinDueCode (decks : Edited) (more count : ℕ) : Type 0 where
  pub to_end : (front : List Statement) → IsUntouched decks front → length front + count ≤ length decks.new + rebound_front decks front + more
  pub to_agreement : (front : List Statement) (split : Split) → IsUntouched decks front → DoAgree decks split →
      length front + count ≤ length split.new_front + (rebound_front decks front + rebound_tail decks split.new_front split.new_tail) + more
