-- A statement rests on the early values of its own symbols and of those that its operand reads early, and on no others.
use Rattle.std.{proofs.Common.{◌≡◌, ℕ, Bool, true, false, ◌||◌, List, [], ◌∷◌, ◌++◌, Option, Some, None, refl, ap, ap₂, ◌∙◌}, specs.Prelude.{if◌then◌else◌, is_some, ok_or, flat_map}}
use Rattle.definitions.{specs.Statements.{Statement, is_stray}, specs.Symbols.is_symbol, specs.Expressions.{Element, ANumber, ACountedItem, ASymbol, ARegister, LocationCounter, OriginCounter, ALiteral, Expression, elements_of}, specs.Forms.{Form, element_form, value_of}, specs.Operations.{Operation, is_labelled}, specs.Operands.{Operand, NamesOperand, ValueOperand}, specs.Settled.{ReadStatement, read_of, Settled, Definition, defined_in}, specs.Counters.Counters, specs.EarlyValues.{early_names, early_value, equated, outcome_of}, specs.Settling.{View, is_known, external, externals, external_letters, letter_where, location_letters, first_definition, Label, definitions_of, operand_letters, settled_letters, is_refused, Standing, standing_of, settled_with, settled_from}, specs.Laws.States.{BlockState, seen_from}, specs.Laws.Agreement.{symbols_of_element, symbols_in, own_symbols, operand_symbols, lawful_names, defines_location, early_symbols, Agree}, specs.declared.deck_kind.DeckKind.DeckKind, specs.declared.deck_kind.DeckKind.TheVariants.{Rel, Abs, Periph}, specs.declared.letter.Letter.Letter, proofs.NamesLaws.{all-front, all-behind, Alike, value_of-alike}}
use Rattle.definitions.specs.Operations as op
use Rattle.definitions.specs.declared.letter.Letter.TheVariants as letter

-- views that agree on two lists of names together agree on each
agree-front : (v w : View) (a b : List (List ℕ)) → Agree v w (a ++ b) → Agree v w a
agree-front v w a b h = all-front (λ name. v name ≡ w name) a b h

agree-behind : (v w : View) (a b : List (List ℕ)) → Agree v w (a ++ b) → Agree v w b
agree-behind v w a b h = all-behind (λ name. v name ≡ w name) a b h

-- the symbols of elements
abbrev symbols_of : List Element → List (List ℕ)
symbols_of elements = flat_map symbols_of_element elements

element_form-agree : (v w : View) (counters : Counters) (element : Element) → Agree v w (symbols_of_element element) →
    element_form (early_names v counters) element ≡ element_form (early_names w counters) element
element_form-agree v w counters (ANumber number) h = refl
element_form-agree v w counters (ACountedItem item) h = refl
element_form-agree v w counters (ASymbol name) h = ap (λ form. ok_or form letter.U) h.0
element_form-agree v w counters (ARegister register) h = refl
element_form-agree v w counters LocationCounter h = refl
element_form-agree v w counters OriginCounter h = refl
element_form-agree v w counters (ALiteral literal) h = refl

elements-agree : (v w : View) (counters : Counters) (elements : List Element) → Agree v w (symbols_of elements) → Alike (early_names v counters) (early_names w counters) elements
elements-agree v w counters [] h = tt
elements-agree v w counters (element ∷ elements) h = (
  element_form-agree v w counters element (agree-front v w (symbols_of_element element) (symbols_of elements) h),
  elements-agree v w counters elements (agree-behind v w (symbols_of_element element) (symbols_of elements) h),
)

value_of-agree : (v w : View) (counters : Counters) (e : Expression) → Agree v w (symbols_in e) → value_of (early_names v counters) e ≡ value_of (early_names w counters) e
value_of-agree v w counters e h = value_of-alike (early_names v counters) (early_names w counters) e (elements-agree v w counters (elements_of e) h)

-- an EXT's names: whether each is known, the externals, and the letters
is_known-agree : (v w : View) (name : List ℕ) (so_far : List Definition) → v name ≡ w name → is_known v name so_far ≡ is_known w name so_far
is_known-agree v w name so_far e = ap (λ form. is_some (defined_in name so_far) || is_some form) e

externals-agree : (v w : View) (names : List (Option (List ℕ))) (so_far : List Definition) → Agree v w (lawful_names names) → externals v names so_far ≡ externals w names so_far
externals-agree v w [] so_far h = refl
externals-agree v w (None ∷ names) so_far h = externals-agree v w names so_far h
externals-agree v w (Some name ∷ names) so_far h =
    externals-agree v w names (if is_known v name so_far then so_far else so_far ++ external name ∷ []) h.1
    ∙ ap (λ known. externals w names (if known then so_far else so_far ++ external name ∷ [])) (is_known-agree v w name so_far h.0)

external_letters-agree : (v w : View) (names : List (Option (List ℕ))) (so_far : List Definition) → Agree v w (lawful_names names) → external_letters v names so_far ≡ external_letters w names so_far
external_letters-agree v w [] so_far h = refl
external_letters-agree v w (None ∷ names) so_far h = ap (λ letters. letter.V ∷ letters) (external_letters-agree v w names so_far h)
external_letters-agree v w (Some name ∷ names) so_far h =
    ap (λ letters. letter_where (is_known v name so_far) letter.D ++ letters) (external_letters-agree v w names (if is_known v name so_far then so_far else so_far ++ external name ∷ []) h.1)
    ∙ ap (λ known. letter_where known letter.D ++ external_letters w names (if known then so_far else so_far ++ external name ∷ [])) (is_known-agree v w name so_far h.0)

-- what is said of the location symbol, whether the operation defines it and it is a symbol
own-agree : (v w : View) (operation : Operation) (location : List ℕ) → Agree v w (own_symbols operation location) →
    (defines : Bool) → defines_location operation ≡ defines → (symbol : Bool) → is_symbol location ≡ symbol → defines ≡ true → symbol ≡ true → v location ≡ w location
own-agree v w operation location h true d true s e f = let k : Agree v w (location ∷ []) = rw (d, s) at h in k.0
own-agree v w operation location h true d false s e f = cc
own-agree v w operation location h false d symbol s e f = cc

-- a letter of what may be defined before, where the field is a symbol
D_letter-agree : (v w : View) (location : List ℕ) (other : List Letter) (symbol : Bool) → (symbol ≡ true → v location ≡ w location) →
    (if symbol then letter_where (is_some (v location)) letter.D else other) ≡ (if symbol then letter_where (is_some (w location)) letter.D else other)
D_letter-agree v w location other true h = ap (λ form. letter_where (is_some form) letter.D) (h refl)
D_letter-agree v w location other false h = refl

first_definition-agree : (v w : View) (location : List ℕ) (form : Form) (symbol : Bool) → is_symbol location ≡ symbol → (symbol ≡ true → v location ≡ w location) →
    first_definition location form (v location) ≡ first_definition location form (w location)
first_definition-agree v w location form true s h = ap (first_definition location form) (h refl)
first_definition-agree v w location form false s h = rw s refl

-- what is seen of the location symbol, for an operation that defines it
abbrev own_front : View → View → Operation → Operand → List ℕ → Type 0
own_front v w operation operand location = Agree v w (own_symbols operation location ++ operand_symbols operand operation)

own_seen : (v w : View) (operation : Operation) (operand : Operand) (location : List ℕ) → own_front v w operation operand location →
    defines_location operation ≡ true → (symbol : Bool) → is_symbol location ≡ symbol → symbol ≡ true → v location ≡ w location
own_seen v w operation operand location h d symbol s e =
    own-agree v w operation location (agree-front v w (own_symbols operation location) (operand_symbols operand operation) h) true d symbol s refl e

-- what a statement defines
abbrev label_in : List ℕ → Form → Form → View → Label
label_in location value counter view = record { location = location; value = value; counter = counter; symbol = view }

definitions_of-agree : (v w : View) (kind : DeckKind) (operation : Operation) (operand : Operand) (location : List ℕ) (value counter : Form) → own_front v w operation operand location →
    definitions_of kind operation operand (label_in location value counter v) ≡ definitions_of kind operation operand (label_in location value counter w)
definitions_of-agree v w kind op.Equ operand location value counter h =
    first_definition-agree v w location value (is_symbol location) refl (own_seen v w op.Equ operand location h refl (is_symbol location) refl)
definitions_of-agree v w Rel op.Ext (NamesOperand names) location value counter h = externals-agree v w names [] (agree-behind v w (own_symbols op.Ext location) (lawful_names names) h)
definitions_of-agree v w Rel op.Ext operand location value counter h = refl
definitions_of-agree v w Abs op.Ext operand location value counter h = refl
definitions_of-agree v w Periph op.Ext operand location value counter h = refl
definitions_of-agree v w kind op.Bss operand location value counter h =
    first_definition-agree v w location counter (is_symbol location) refl (own_seen v w op.Bss operand location h refl (is_symbol location) refl)
definitions_of-agree v w kind op.Bssz operand location value counter h =
    first_definition-agree v w location counter (is_symbol location) refl (own_seen v w op.Bssz operand location h refl (is_symbol location) refl)
definitions_of-agree v w kind op.Data operand location value counter h =
    first_definition-agree v w location counter (is_symbol location) refl (own_seen v w op.Data operand location h refl (is_symbol location) refl)
definitions_of-agree v w kind op.Con operand location value counter h =
    first_definition-agree v w location counter (is_symbol location) refl (own_seen v w op.Con operand location h refl (is_symbol location) refl)
definitions_of-agree v w kind op.Vfd operand location value counter h =
    first_definition-agree v w location counter (is_symbol location) refl (own_seen v w op.Vfd operand location h refl (is_symbol location) refl)
definitions_of-agree v w kind op.Dis operand location value counter h =
    first_definition-agree v w location counter (is_symbol location) refl (own_seen v w op.Dis operand location h refl (is_symbol location) refl)
definitions_of-agree v w kind op.Instruction operand location value counter h =
    first_definition-agree v w location counter (is_symbol location) refl (own_seen v w op.Instruction operand location h refl (is_symbol location) refl)
definitions_of-agree v w kind op.Unknown operand location value counter h =
    first_definition-agree v w location counter (is_symbol location) refl (own_seen v w op.Unknown operand location h refl (is_symbol location) refl)
definitions_of-agree v w kind op.EmptyField operand location value counter h = refl
definitions_of-agree v w kind op.Listed operand location value counter h = refl
definitions_of-agree v w kind op.End operand location value counter h = refl
definitions_of-agree v w kind (op.Kind made) operand location value counter h = refl
definitions_of-agree v w kind op.Base operand location value counter h = refl
definitions_of-agree v w kind op.Use operand location value counter h = refl
definitions_of-agree v w kind op.Org operand location value counter h = refl
definitions_of-agree v w kind op.Loc operand location value counter h = refl
definitions_of-agree v w kind op.Entry operand location value counter h = refl

-- the letters of a location field
location_letters-agree : (v w : View) (kind : DeckKind) (operation : Operation) (operand : Operand) (location : List ℕ) → own_front v w operation operand location →
    location_letters kind operation location (v location) ≡ location_letters kind operation location (w location)
location_letters-agree v w kind op.Equ operand location h = D_letter-agree v w location _ (is_symbol location) (own_seen v w op.Equ operand location h refl (is_symbol location) refl)
location_letters-agree v w kind op.Ext operand location h = refl
location_letters-agree v w kind op.Bss operand location h = D_letter-agree v w location _ (is_symbol location) (own_seen v w op.Bss operand location h refl (is_symbol location) refl)
location_letters-agree v w kind op.Bssz operand location h = D_letter-agree v w location _ (is_symbol location) (own_seen v w op.Bssz operand location h refl (is_symbol location) refl)
location_letters-agree v w kind op.Data operand location h = D_letter-agree v w location _ (is_symbol location) (own_seen v w op.Data operand location h refl (is_symbol location) refl)
location_letters-agree v w kind op.Con operand location h = D_letter-agree v w location _ (is_symbol location) (own_seen v w op.Con operand location h refl (is_symbol location) refl)
location_letters-agree v w kind op.Vfd operand location h = D_letter-agree v w location _ (is_symbol location) (own_seen v w op.Vfd operand location h refl (is_symbol location) refl)
location_letters-agree v w kind op.Dis operand location h = D_letter-agree v w location _ (is_symbol location) (own_seen v w op.Dis operand location h refl (is_symbol location) refl)
location_letters-agree v w kind op.Instruction operand location h = D_letter-agree v w location _ (is_symbol location) (own_seen v w op.Instruction operand location h refl (is_symbol location) refl)
location_letters-agree v w kind op.Unknown operand location h = D_letter-agree v w location _ (is_symbol location) (own_seen v w op.Unknown operand location h refl (is_symbol location) refl)
location_letters-agree v w kind op.EmptyField operand location h = refl
location_letters-agree v w kind op.Listed operand location h = refl
location_letters-agree v w kind op.End operand location h = refl
location_letters-agree v w kind (op.Kind made) operand location h = refl
location_letters-agree v w kind op.Base operand location h = refl
location_letters-agree v w kind op.Use operand location h = refl
location_letters-agree v w kind op.Org operand location h = refl
location_letters-agree v w kind op.Loc operand location h = refl
location_letters-agree v w kind op.Entry operand location h = refl

-- the letters of an operand
operand_letters-agree : (v w : View) (kind : DeckKind) (operation : Operation) (operand : Operand) (location : List ℕ) → own_front v w operation operand location →
    operand_letters kind operation operand v ≡ operand_letters kind operation operand w
operand_letters-agree v w Rel op.Ext (NamesOperand names) location h = external_letters-agree v w names [] (agree-behind v w (own_symbols op.Ext location) (lawful_names names) h)
operand_letters-agree v w Rel operation operand location h = refl
operand_letters-agree v w Abs operation operand location h = refl
operand_letters-agree v w Periph operation operand location h = refl

-- the early value of an operand
early_value-agree : (v w : View) (counters : Counters) (operation : Operation) (operand : Operand) (location : List ℕ) → own_front v w operation operand location →
    early_value (early_names v counters) operand ≡ early_value (early_names w counters) operand
early_value-agree v w counters operation (ValueOperand e) location h = ap Some (value_of-agree v w counters e (agree-behind v w (own_symbols operation location) (symbols_in e) h))
early_value-agree v w counters operation operand location h = refl

-- the letters of a statement
settled_letters-agree : (v w : View) (kind : DeckKind) (state : BlockState) (read : ReadStatement) (outcome : List Letter) → own_front v w read.operation read.operand read.fields.location →
    settled_letters kind (seen_from state v) read outcome ≡ settled_letters kind (seen_from state w) read outcome
settled_letters-agree v w kind state read outcome h =
    let location = read.fields.location in
    let refused = is_refused kind read.operation read.operand (record { location = location; neutral = state.neutral; blocks = (seen_from state v).blocks }) in
    ap₂ (λ own rest. own ++ (if refused then letter.O ∷ [] else rest ++ outcome))
    (location_letters-agree v w kind read.operation read.operand location h) (operand_letters-agree v w kind read.operation read.operand location h)

-- a settled statement with these definitions, and these letters behind one for a stray card
abbrev with_definitions_and_letters : Settled → List Definition → List Letter → Settled
with_definitions_and_letters settled definitions letters = record {
  read = settled.read;
  block = settled.block;
  change = settled.change;
  is_placed = settled.is_placed;
  place = settled.place;
  end = settled.end;
  asks = settled.asks;
  begins_run = settled.begins_run;
  setting = settled.setting;
  location = settled.location;
  origin = settled.origin;
  definitions = definitions;
  letters = letter_where (is_stray settled.read.statement.cards) letter.C ++ letters;
}

-- the same place and counters, with the early value that a view gives
abbrev with_view : Standing → Operand → View → Standing
with_view standing operand view = record standing { value = early_value (early_names view standing.counters) operand }

-- a statement settled from what it sees with an early value
settled_with-agree : (kind : DeckKind) (state : BlockState) (read : ReadStatement) (standing : Standing) (v w : View) → Agree v w (early_symbols read) →
    settled_with kind (seen_from state v) read (with_view standing read.operand v) ≡ settled_with kind (seen_from state w) read (with_view standing read.operand w)
settled_with-agree kind state read standing v w h =
    let location = read.fields.location in
    let seen = seen_from state v in
    let second = with_view standing read.operand w in
    let outcome = outcome_of kind read.operation read.operand seen.block second.place second.value in
    ap (λ value. settled_with kind seen read (record standing { value = value })) (early_value-agree v w standing.counters read.operation read.operand location h)
    ∙ ap₂ (λ definitions letters. with_definitions_and_letters (settled_with kind seen read second) definitions letters)
    (definitions_of-agree v w kind read.operation read.operand location (equated second.value) standing.counters.location h)
    (settled_letters-agree v w kind state read outcome.letters h)

-- a statement, settled from a state and two views that agree on what matters early to it
pub settled_from-agree : (kind : DeckKind) (state : BlockState) (v w : View) (statement : Statement) → Agree v w (early_symbols (read_of kind state.number_base statement)) →
    settled_from kind (seen_from state v) statement ≡ settled_from kind (seen_from state w) statement
settled_from-agree kind state v w statement h =
    let read = read_of kind state.number_base statement in
    settled_with-agree kind state read (standing_of kind (seen_from state v) read) v w h
