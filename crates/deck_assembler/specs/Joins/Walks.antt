-- The statements of a deck, one after the other, and the lines that show them.
use Rattle.std.specs.{Prelude.{ℕ, ◌≡◌, ◌≤◌, ◌+◌, List, [], ◌∷◌, Bool, true, false, map, drop, length, reverse}, List.list_any}
use Rattle.definitions.specs.{Cards.Card, Characters.same_text, Expressions.{Literal, OfNumber}, Lengths.{BlockRow, block_rows}, Objects.{Shown, shown_of}, Settled.{Settled, Definition}, Settling.settled_all, StatementItems.Context, Statements.Statement, Symbols.TooGreat, declared.deck_kind.DeckKind.DeckKind}
use Rattle.deck_objects.specs.declared.lines.FieldLists.{FieldLists}
use Rattle.deck_objects.specs.{Joins.CodedLines.IsShown, declared.lines.Line.Line}
use Rattle.deck_assembler.specs.{Joins.DeckParts.DeckParts, Joins.SizedDecks.IsSizedUp, Joins.SharedNames.entries_to, declared.deck_lines.DeckLines.DeckLines, declared.deck_view.DeckView.DeckView}

-- whether a literal is a number that is too great
abbrev pub is_too_great : Literal → Bool
is_too_great (OfNumber sign TooGreat) = true
is_too_great literal = false

-- whether a block is among those of a deck
abbrev pub has_row : List ℕ → List BlockRow → Bool
has_row name rows = list_any (λ (row : BlockRow). same_text name row.name) rows

-- a deck with its cards and its blocks, and its statements up to END and behind it, newest first
pub record Whole : Type 0 where
  pub cards : List Card
  pub deck : DeckParts
  pub rows : List BlockRow
  pub known : List Statement
  pub others : List Statement

-- a deck that is viewed, where these are its statements
abbrev pub whole_of : DeckView → List Statement → List Statement → Whole
whole_of view known others = record { cards = view.cards.now; deck = view.deck.now; rows = view.bases.now; known = known; others = others }

-- its settled statements
abbrev pub all_settled : Whole → List Settled
all_settled whole = settled_all whole.deck.kind whole.known

-- what its statements are coded with
abbrev pub context_in : Whole → Context
context_in whole = record { kind = whole.deck.kind; settled = all_settled whole; rows = whole.rows; literals = whole.deck.literals }

-- the deck was sized, and its blocks have their places
pub record IsWhole (whole : Whole) : Type 0 where
  pub sized : IsSizedUp whole.cards whole.known whole.others whole.deck
  pub rows : whole.rows ≡ block_rows whole.deck.kind (all_settled whole)
  pub few : length whole.cards ≤ 20000

-- lines show statements one behind the other: those have the first of these cards, so many stood before them, and so many are behind
abbrev pub AreShownTo : DeckKind → List BlockRow → FieldLists → ℕ → List Card → List Line → List Shown → ℕ → List Card → Type 0
AreShownTo kind rows lists before cards [] [] stood ahead = (before ≡ stood) × (cards ≡ ahead)
AreShownTo kind rows lists before cards [] (shown ∷ others) stood ahead = ⊥
AreShownTo kind rows lists before cards (line ∷ lines) [] stood ahead = ⊥
AreShownTo kind rows lists before cards (line ∷ lines) (shown ∷ others) stood ahead =
    IsShown kind rows lists before cards line shown × AreShownTo kind rows lists (before + line.cards) (drop line.cards cards) lines others stood ahead

-- the lines show these statements, and the cards that are left stand behind them
abbrev pub AreLinedAs : Whole → List Shown → DeckLines → Type 0
AreLinedAs whole shown lines = AreShownTo whole.deck.kind whole.rows lines.fields 0 whole.cards lines.lines.items shown lines.stood (drop lines.stood whole.cards)

-- the lines show statements up to END, read newest first
abbrev pub AreLined : Whole → List Statement → DeckLines → Type 0
AreLined whole earlier lines = AreLinedAs whole (reverse (map (shown_of (context_in whole)) (settled_all whole.deck.kind earlier))) lines

-- the names are those that statements up to END enter, read newest first
abbrev pub AreNoted : Whole → List Statement → List Definition → Type 0
AreNoted whole earlier names = names ≡ entries_to whole.deck.kind (all_settled whole) (settled_all whole.deck.kind earlier)
