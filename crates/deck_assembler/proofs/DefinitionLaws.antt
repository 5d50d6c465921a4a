-- What a statement defines is new, so it stands behind what was defined before.
use Rattle.std.{proofs.Common.{◌≡◌, ℕ, ◌&&◌, ◌||◌, not, Bool, true, false, true≢false, List, [], ◌∷◌, ◌++◌, Option, Some, None, is_some, refl, sym, ap, ◌∙◌, subst, if◌then◌else◌}, specs.List.AllByRecursion, specs.Option.option_or}
use Rattle.definitions.{specs.Characters.same_text, specs.Forms.Form, specs.Operations.{Operation, is_labelled}, specs.Operands.{Operand, NamesOperand}, specs.Settled.{Definition, Settled, defined_in, defined}, specs.Settling.{View, external, externals, is_known, first_definition, definitions_of, settle}, specs.Statements.Statement, specs.Symbols.is_symbol, specs.declared.deck_kind.DeckKind.DeckKind, specs.declared.deck_kind.DeckKind.TheVariants.{Rel, Abs, Periph}, proofs.TextLaws.same_text-true, proofs.TestLaws.{option_or-none, option_or-assoc}}
use Rattle.definitions.specs.Operations as op
use Rattle.expr_forms.specs.declared.use_fields.UseField.TheVariants as use_field
use Rattle.statement_coder.specs.Joins.{Definitions.{defined_by, externals_of}, Readings.{IsReading, IsLawful, IsLawfulName}}
use Rattle.statement_coder.specs.declared.definitions_made.Defines as code
use Rattle.statement_coder.specs.declared.definitions_made.Defines.TheVariants as defines
use Rattle.statement_coder.specs.declared.readings.Reading as readings
use Rattle.statement_coder.specs.declared.readings.Reading.TheVariants as reading
use Rattle.deck_assembler.{specs.Joins.FirstSymbols.{is_known_name, with_symbol, with_externals, with_names, with_defined, IsLawfulOperand}, proofs.NameTexts.{symbol-known, linked-known}}

pub lawful-shape : (operand : Operand) (read : readings.Reading) → IsReading read operand → IsLawful read → IsLawfulOperand operand
lawful-shape operand (reading.Names names) h l = subst IsLawfulOperand (sym h) l
lawful-shape operand reading.Unread h l = subst IsLawfulOperand (sym h) tt
lawful-shape operand reading.Bad h l = subst IsLawfulOperand (sym h) tt
lawful-shape operand (reading.Data words) h l = subst IsLawfulOperand (sym h) tt
lawful-shape operand (reading.Con words) h l = subst IsLawfulOperand (sym h) tt
lawful-shape operand (reading.Vfd fields) h l = subst IsLawfulOperand (sym h) tt
lawful-shape operand (reading.Text text) h l = subst IsLawfulOperand (sym h) tt
lawful-shape operand (reading.Value e) h l = subst IsLawfulOperand (sym h) tt
lawful-shape operand (reading.Use (use_field.UseName name)) h l = subst IsLawfulOperand (sym h) tt
lawful-shape operand (reading.Use use_field.UseBefore) h l = subst IsLawfulOperand (sym h) tt
lawful-shape operand (reading.Use use_field.Refused) h l = subst IsLawfulOperand (sym h) tt
lawful-shape operand (reading.Use use_field.Bad) h l = subst IsLawfulOperand (sym h) tt
lawful-shape (NamesOperand names) (reading.Instruction shape) h l = absurd h
lawful-shape operand (reading.Instruction shape) h l = tt

-- the name of a definition is a name, and has no value before
abbrev pub IsFresh : View → Definition → Type 0
IsFresh v definition = (is_known_name definition.name ≡ true) × (v definition.name ≡ None)

abbrev pub AreFresh : View → List Definition → Type 0
AreFresh v definitions = AllByRecursion (IsFresh v) definitions

fresh-push : (v : View) (definitions : List Definition) (definition : Definition) → AreFresh v definitions → IsFresh v definition → AreFresh v (definitions ++ definition ∷ [])
fresh-push v [] definition h f = (f, tt)
fresh-push v (first ∷ definitions) definition h f = (h.0, fresh-push v definitions definition h.1 f)

fresh-first : (v : View) (name : List ℕ) (form : Form) → AreFresh v (first_definition name form (v name))
fresh-first v name form = by (is_symbol name) (v name) refl refl
  where
    by : (b : Bool) (o : Option Form) → is_symbol name ≡ b → v name ≡ o → AreFresh v (if b && not (is_some o) then record { name = name; form = form } ∷ [] else [])
    by true None e f = ((symbol-known name e, f), tt)
    by true (Some other) e f = tt
    by false o e f = tt

none-of : (o : Option Form) → is_some o ≡ false → o ≡ None
none-of None h = refl
none-of (Some form) h = absurd (true≢false h)

or-second : (x y : Bool) → (x || y) ≡ false → y ≡ false
or-second true y h = absurd (true≢false h)
or-second false y h = h

fresh-externals : (v : View) (names : List (Option (List ℕ))) (so_far : List Definition) → AllByRecursion IsLawfulName names → AreFresh v so_far → AreFresh v (externals v names so_far)
fresh-externals v [] so_far l h = h
fresh-externals v (None ∷ names) so_far l h = fresh-externals v names so_far l.1 h
fresh-externals v (Some name ∷ names) so_far l h =
    fresh-externals v names (if is_known v name so_far then so_far else so_far ++ external name ∷ []) l.1 (by (is_known v name so_far) refl)
  where
    by : (b : Bool) → is_known v name so_far ≡ b → AreFresh v (if b then so_far else so_far ++ external name ∷ [])
    by true e = h
    by false e = fresh-push v so_far (external name) h (linked-known name l.0, none-of (v name) (or-second (is_some (defined_in name so_far)) (is_some (v name)) e))

fresh-where : (v : View) (b : Bool) (location : List ℕ) (counter : Form) → AreFresh v (if b then first_definition location counter (v location) else [])
fresh-where v true location counter = fresh-first v location counter
fresh-where v false location counter = tt

-- what a statement defines is new
pub fresh-of : (v : View) (kind : DeckKind) (operation : Operation) (operand : Operand) (location : List ℕ) (value counter : Form) → IsLawfulOperand operand →
    AreFresh v (definitions_of kind operation operand (record { location = location; value = value; counter = counter; symbol = v }))
fresh-of v Rel op.Equ operand location value counter l = fresh-first v location value
fresh-of v Rel op.Ext (NamesOperand names) location value counter l = fresh-externals v names [] l tt
fresh-of v Rel operation operand location value counter l = fresh-where v (is_labelled operation) location counter
fresh-of v Abs op.Equ operand location value counter l = fresh-first v location value
fresh-of v Abs operation operand location value counter l = fresh-where v (is_labelled operation) location counter
fresh-of v Periph op.Equ operand location value counter l = fresh-first v location value
fresh-of v Periph operation operand location value counter l = fresh-where v (is_labelled operation) location counter

-- the values with definitions behind them
abbrev pub joined : View → List Definition → View
joined v definitions other = option_or (v other) (defined_in other definitions)

pub option_or-some : (o other : Option Form) → is_some o ≡ true → option_or o other ≡ o
option_or-some None other h = absurd (true≢false (sym h))
option_or-some (Some form) other h = refl

pub is_some-or : (a b : Option Form) → is_some (option_or a b) ≡ (is_some b || is_some a)
is_some-or None None = refl
is_some-or None (Some form) = refl
is_some-or (Some form) None = refl
is_some-or (Some form) (Some other) = refl

pub defined_in-push : (other : List ℕ) (definitions : List Definition) (definition : Definition) →
    defined_in other (definitions ++ definition ∷ []) ≡ option_or (defined_in other definitions) (if same_text other definition.name then Some definition.form else None)
defined_in-push other [] definition = refl
defined_in-push other (first ∷ definitions) definition = by (same_text other first.name) (defined_in-push other definitions definition)
  where
    last : Option Form
    last = if same_text other definition.name then Some definition.form else None

    by : (b : Bool) → defined_in other (definitions ++ definition ∷ []) ≡ option_or (defined_in other definitions) last → (if b then Some first.form else defined_in other (definitions ++ definition ∷ []))
        ≡ option_or (if b then Some first.form else defined_in other definitions) last
    by true e = refl
    by false e = e

-- new definitions may stand in front
pub joined-fresh : (v : View) (definitions : List Definition) → AreFresh v definitions → (other : List ℕ) → joined v definitions other ≡ option_or (defined_in other definitions) (v other)
joined-fresh v [] h other = option_or-none (v other) None refl
joined-fresh v (first ∷ definitions) h other = by (same_text other first.name) refl (joined-fresh v definitions h.1 other)
  where
    by : (b : Bool) → same_text other first.name ≡ b → joined v definitions other ≡ option_or (defined_in other definitions) (v other) →
        option_or (v other) (if b then Some first.form else defined_in other definitions) ≡ option_or (if b then Some first.form else defined_in other definitions) (v other)
    by true e rest = ap (λ o. option_or o (Some first.form)) (ap v (same_text-true other first.name e) ∙ h.0.1)
    by false e rest = rest

-- one external more
pub external-step : (v : View) (name : List ℕ) (so_far : List Definition) → is_known_name name ≡ true →
    with_symbol name (external name).form (joined v so_far) ≡ joined v (if is_known v name so_far then so_far else so_far ++ external name ∷ [])
external-step v name so_far known = λ i other. (at other ∙ by other (is_known v name so_far) refl) i
  where
    form : Form
    form = (external name).form

    at : (other : List ℕ) → with_symbol name form (joined v so_far) other ≡ option_or (joined v so_far other) (if same_text other name then Some form else None)
    at other = ap (λ b. option_or (joined v so_far other) (if b && same_text other name then Some form else None)) known

    there : (other : List ℕ) → is_known v name so_far ≡ true → (c : Bool) → same_text other name ≡ c → option_or (joined v so_far other) (if c then Some form else None) ≡ joined v so_far other
    there other e true f =
        option_or-some (joined v so_far other) (Some form)
        (ap (λ n. is_some (joined v so_far n)) (same_text-true other name f) ∙ is_some-or (v name) (defined_in name so_far) ∙ e)
    there other e false f = option_or-none (joined v so_far other) None refl

    by : (other : List ℕ) (b : Bool) → is_known v name so_far ≡ b →
        option_or (joined v so_far other) (if same_text other name then Some form else None) ≡ joined v (if b then so_far else so_far ++ external name ∷ []) other
    by other true e = there other e (same_text other name) refl
    by other false e =
        option_or-assoc (v other) (defined_in other so_far) (if same_text other name then Some form else None)
        ∙ ap (option_or (v other)) (sym (defined_in-push other so_far (external name)))

pub externals-joined : (v : View) (names : List (Option (List ℕ))) (so_far : List Definition) → AllByRecursion IsLawfulName names →
    with_externals names (joined v so_far) ≡ joined v (externals v names so_far)
externals-joined v [] so_far l = refl
externals-joined v (None ∷ names) so_far l = externals-joined v names so_far l.1
externals-joined v (Some name ∷ names) so_far l =
    ap (with_externals names) (external-step v name so_far (linked-known name l.0))
    ∙ externals-joined v names (if is_known v name so_far then so_far else so_far ++ external name ∷ []) l.1

-- what an EXT defines, behind what was defined before
pub names-joined : (v : View) (operand : Operand) → IsLawfulOperand operand → with_names operand v ≡ joined v (externals_of v operand)
names-joined v (NamesOperand names) l = ap (with_externals names) (λ i other. sym (option_or-none (v other) None refl) i) ∙ externals-joined v names [] l
names-joined v operand l = λ i other. sym (option_or-none (v other) None refl) i

pub symbol-joined : (v : View) (name : List ℕ) (form : Form) → is_known_name name ≡ true → with_symbol name form v ≡ joined v (record { name = name; form = form } ∷ [])
symbol-joined v name form known = λ i other. ap (λ b. option_or (v other) (if b && same_text other name then Some form else None)) known i

defined-joined : (v : View) (location : List ℕ) (operand : Operand) (what : code.Defines) → IsLawfulOperand operand → AreFresh v (defined_by v location operand what) →
    with_defined location operand what v ≡ joined v (defined_by v location operand what)
defined-joined v location operand defines.Nothing l h = λ i other. sym (option_or-none (v other) None refl) i
defined-joined v location operand (defines.Symbol form) l h = symbol-joined v location form h.0.0
defined-joined v location operand defines.Externals l h = names-joined v operand l

-- the first definitions behind one statement more
pub defined-step : (kind : DeckKind) (earlier : List Settled) (statement : Statement) (what : code.Defines) →
    let settled = settle kind earlier statement in
    let v : View = λ name. defined name earlier in
    IsLawfulOperand settled.read.operand →
    defined_by v settled.read.fields.location settled.read.operand what ≡ settled.definitions →
    with_defined settled.read.fields.location settled.read.operand what v ≡ (λ name. defined name (settled ∷ earlier))
defined-step kind earlier statement what lawful e =
    let settled = settle kind earlier statement in
    let v : View = λ name. defined name earlier in
    let fresh : AreFresh v settled.definitions = fresh-of v kind settled.read.operation settled.read.operand settled.read.fields.location _ _ lawful in
    defined-joined v settled.read.fields.location settled.read.operand what lawful (subst (AreFresh v) (sym e) fresh)
    ∙ ap (joined v) e
    ∙ (λ i other. joined-fresh v settled.definitions fresh other i)
