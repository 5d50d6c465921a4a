-- The statements of spans of cards that stand in front of a span, and those up to END among them.
use Rattle.std.specs.Prelude.{ℕ, ◌≡◌, ◌≤◌, List, take, drop, map, length, reverse}
use Rattle.cards.specs.{Joins.Spans.statements_at, declared.statement_list.Span.Span}
use Rattle.definitions.specs.{Cards.Card, DeckKinds.{up_to_end, behind_end}, Fields.{Fields, fields_of}, Statements.Statement}

-- the statements of the first so many spans, newest first
abbrev pub first_statements : List Card → List Span → ℕ → List Statement
first_statements cards spans count = reverse (statements_at cards (take count spans))

-- all statements, newest first
abbrev pub all_statements : List Card → List Span → List Statement
all_statements cards spans = reverse (statements_at cards spans)

-- their fields
abbrev pub fields_in : List Statement → List Fields
fields_in statements = map (λ (statement : Statement). fields_of statement.cards) statements

-- the first so many spans are the statements up to END
pub record IsEnding (cards : List Card) (spans : List Span) (count : ℕ) : Type 0 where
  pub within : count ≤ length spans
  pub front : up_to_end (all_statements cards spans) ≡ first_statements cards spans count
  pub behind : behind_end (all_statements cards spans) ≡ reverse (statements_at cards (drop count spans))
