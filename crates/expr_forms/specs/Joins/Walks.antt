-- The value of an expression while its links are walked over.
use Rattle.std.specs.Prelude.{◌≡◌, List, Result, Ok, Err, ⊤}
use Rattle.definitions.specs.{Expressions.{Operator, OperatorElement, grouped}, Forms.{Form, Names, Running, product, plus_term, sum_from, closed}, declared.letter.Letter.Letter}
use Rattle.expr_forms.specs.{Joins.Links.operator_as, Joins.Running.running_as, declared.running.Base.Base, declared.values.Walk.Walk}
use Rattle.expr_forms.specs.declared.values.Walked as codes
use Rattle.expr_forms.specs.declared.values.Walked.TheVariants as walked

-- the value of a sum so far, an open term and the links behind it
abbrev pub value_at : Names → Running → Operator → Form → List OperatorElement → Result Form Letter
value_at names running operator form pairs =
    let group = grouped pairs in
    closed (sum_from names (plus_term operator running (product names (Ok form) group.factors)) group.terms)

-- the value of a walk and the links behind it
abbrev pub walk_value : Names → Walk → List Base → List OperatorElement → Result Form Letter
walk_value names walk room pairs = value_at names (running_as walk.sum room) (operator_as walk.operator) walk.form pairs

-- a value is that of the walk that came, or its letter
abbrev pub WalksOn : Names → Result Form Letter → codes.Walked → List Base → List OperatorElement → Type 0
WalksOn names value (walked.Next next) room pairs = value ≡ walk_value names next room pairs
WalksOn names value (walked.Fault letter) room pairs = value ≡ Err letter
WalksOn names value walked.Full room pairs = ⊤

-- a fact on the next walk, if one came
abbrev pub ForNext : codes.Walked → (Walk → Type 0) → Type 0
ForNext (walked.Next next) P = P next
ForNext (walked.Fault letter) P = ⊤
ForNext walked.Full P = ⊤

-- a fact where there was no room
abbrev pub ForNoRoom : codes.Walked → Type 0 → Type 0
ForNoRoom (walked.Next next) P = ⊤
ForNoRoom (walked.Fault letter) P = ⊤
ForNoRoom walked.Full P = P
