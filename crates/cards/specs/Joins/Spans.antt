-- Statements as spans of a deck's cards.
use Rattle.std.specs.Prelude.{ℕ, ◌-◌, ◌+◌, ◌<◌, ◌≤◌, List, [], ◌∷◌, ◌++◌, take, drop, map, nat_lt, if◌then◌else◌}
use Rattle.definitions.specs.{Cards.Card, Statements.Statement}
use Rattle.cards.specs.declared.statement_list.Span.{Span}

-- the statement that a span of these cards is
abbrev pub statement_at : List Card → Span → Statement
statement_at cards span = record { before = span.start; cards = take span.count (drop span.start cards) }

-- the statements of these spans
abbrev pub statements_at : List Card → List Span → List Statement
statements_at cards spans = map (statement_at cards) spans

-- the spans, and the last one, up to `end`, if it has a card
abbrev pub with_last : List Span → ℕ → ℕ → List Span
with_last spans start end = if nat_lt start end then spans ++ record { start = start; count = end - start } ∷ [] else spans

-- a span of some of so many cards: at least one, and at most the ten of one statement
pub record IsSpan (cards : ℕ) (span : Span) : Type 0 where
  pub some : 0 < span.count
  pub few : span.count ≤ 10
  pub within : span.start + span.count ≤ cards
