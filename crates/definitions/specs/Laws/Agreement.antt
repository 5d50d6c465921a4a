-- When tails of the same cards are settled alike behind different statements: equal states, and equal values of the names that the tail defines or reads early (ours).
-- `src/edit_laws.rt` and `src/state_laws.rt` have what comes of it.
use Rattle.std.specs.{Prelude.{ℕ, ◌≡◌, ⊤, List, [], ◌∷◌, ◌++◌, Option, Bool, true, ◌&&◌, flat_map, filter_map, map, if◌then◌else◌}, List.AllByRecursion}
use Rattle.definitions.specs.{Statements.Statement, Symbols.is_symbol, Expressions.{Element, ASymbol, Expression, elements_of}, Operations.{Operation, is_labelled}, Operands.{Operand, NamesOperand, ValueOperand}, Settled.{ReadStatement, Settled, defined}, Settling.{View, settle, settled_all}, declared.deck_kind.DeckKind.DeckKind}
use Rattle.definitions.specs.Operations as op

-- the symbols that an element is
abbrev pub symbols_of_element : Element → List (List ℕ)
symbols_of_element (ASymbol name) = name ∷ []
symbols_of_element _ = []

-- the symbols that an expression reads, from left to right
abbrev pub symbols_in : Expression → List (List ℕ)
symbols_in e = flat_map symbols_of_element (elements_of e)

-- whether an operation defines the symbol of its location field
abbrev pub defines_location : Operation → Bool
defines_location op.Equ = true
defines_location operation = is_labelled operation

-- the symbol of its location field that a statement defines, for the first time or again
abbrev pub own_symbols : Operation → List ℕ → List (List ℕ)
own_symbols operation location = if defines_location operation && is_symbol location then location ∷ [] else []

-- the lawful names of an EXT
abbrev pub lawful_names : List (Option (List ℕ)) → List (List ℕ)
lawful_names names = filter_map (λ name. name) names

-- the names that an EXT defines, and the symbols that BSS, BSSZ, ORG, LOC and EQU read
abbrev pub operand_symbols : Operand → Operation → List (List ℕ)
operand_symbols (NamesOperand names) op.Ext = lawful_names names
operand_symbols (ValueOperand e) operation = symbols_in e
operand_symbols operand operation = []

-- the symbols whose definition on an earlier statement matters to a statement
abbrev pub early_symbols : ReadStatement → List (List ℕ)
early_symbols read = own_symbols read.operation read.fields.location ++ operand_symbols read.operand read.operation

-- two views give these symbols the same values
abbrev pub Agree : View → View → List (List ℕ) → Type 0
Agree first second names = AllByRecursion (λ name. first name ≡ second name) names

-- a statement whose number of cards before it counts as 0
abbrev pub unnumbered_statement : Statement → Statement
unnumbered_statement statement = record statement { before = 0 }

-- a settled statement without the number of cards before it; all but the numbers in the listing is made of this
abbrev pub unnumbered : Settled → Settled
unnumbered settled = record settled { read = record settled.read { statement = unnumbered_statement settled.read.statement } }

-- the statements of a tail, newest first, settled behind those before it
abbrev pub settled_tail : DeckKind → List Settled → List Statement → List Settled
settled_tail kind earlier [] = []
settled_tail kind earlier (statement ∷ tail) =
    let behind = settled_tail kind earlier tail in settle kind (behind ++ earlier) statement ∷ behind

-- tails of the same cards
abbrev pub HaveSameCards : List Statement → List Statement → Type 0
HaveSameCards [] [] = ⊤
HaveSameCards (first ∷ tail) (second ∷ other) = (first.cards ≡ second.cards) × HaveSameCards tail other
HaveSameCards _ _ = ⊥

-- the statements before two tails give the same values to what each statement of the tail defines or reads early
abbrev pub AgreeOnTail : DeckKind → List Settled → List Settled → List Statement → Type 0
AgreeOnTail kind earlier before tail =
    AllByRecursion (λ (settled : Settled). Agree (λ name. defined name earlier) (λ name. defined name before) (early_symbols settled.read)) (settled_tail kind earlier tail)

-- two tails are settled alike behind their fronts, but for the numbers of cards before them
abbrev pub SettleAlike : DeckKind → List Statement → List Statement → List Statement → List Statement → Type 0
SettleAlike kind front other_front tail other_tail =
    map unnumbered (settled_tail kind (settled_all kind front) tail) ≡ map unnumbered (settled_tail kind (settled_all kind other_front) other_tail)
