-- A statement sees the names of its deck, and a text that was read fills its words.
use Rattle.std.proofs.Common.{◌≡◌, Result, subst}
use Rattle.definitions.specs.{Expressions.Literal, Forms.Form, Literals.literal_form, Operands.Operand, Settled.{Settled, defined}, Settling.View, StatementItems.Context, declared.deck_kind.DeckKind.DeckKind, declared.letter.Letter.Letter}
use Rattle.statement_coder.{specs.Joins.Items.AreSeen, specs.Joins.Readings.{IsReading, IsWhole}, specs.declared.readings.Reading.Reading, proofs.OperandLaws.FillsWords}
use Rattle.statement_coder.specs.declared.readings.Reading.TheVariants as reading

-- the names of a deck and the counters of a statement are what it sees
pub are_seen : (symbol : View) (literal : Literal → Result Form Letter) (location origin : Form) (context : Context) (settled : Settled) →
    symbol ≡ (λ name. defined name context.settled) → literal ≡ (λ l. literal_form context.literals l) → location ≡ settled.location → origin ≡ settled.origin →
    AreSeen (record { symbol = symbol; literal = literal; location = location; origin = origin }) context settled
are_seen symbol literal location origin context settled s l p o = λ i. record { symbol = s i; literal = l i; location = p i; origin = o i }

-- the text that was read fills its words
pub read_whole : (kind : DeckKind) (found : Reading) (operand : Operand) → IsReading found operand → FillsWords kind operand → IsWhole kind found
read_whole kind (reading.Text text) operand is fills = subst (FillsWords kind) is fills
read_whole kind reading.Unread operand is fills = tt
read_whole kind reading.Bad operand is fills = tt
read_whole kind (reading.Instruction shape) operand is fills = tt
read_whole kind (reading.Data words) operand is fills = tt
read_whole kind (reading.Con words) operand is fills = tt
read_whole kind (reading.Vfd fields) operand is fills = tt
read_whole kind (reading.Value e) operand is fills = tt
read_whole kind (reading.Names names) operand is fills = tt
read_whole kind (reading.Use field) operand is fills = tt
