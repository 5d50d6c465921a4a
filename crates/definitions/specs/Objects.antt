-- The object of a deck: its statements with their fields and letters, its blocks, entries and externals.
use Rattle.std.specs.Prelude.{ℕ, List, [], map, reverse, ◌++◌, Option, Some, None}
use Rattle.definitions.specs.{DeckInput.Deck, Statements.{Statement, statements_of}, DeckKinds.{kind_of_statements, up_to_end, behind_end}, Settled.{Settled, Definition}, Settling.settled_all, Literals.literal_words, Lengths.{BlockRow, block_rows}, StatementItems.{Context, items_of}, Letters.{letters_of, in_order}, Entries.{entries_of, externals_of}, Words.Coded, declared.deck_kind.DeckKind.DeckKind}

-- a statement of the listing: its cards, its letters and its fields
pub record Shown : Type 0 where
  pub statement : Statement
  pub letters : List ℕ
  -- none behind END
  pub coded : Option Coded

-- an object; its statements are newest first
pub record Object : Type 0 where
  pub name : List ℕ
  pub kind : DeckKind
  pub shown : List Shown
  pub coded : List Coded
  pub rows : List BlockRow
  pub literals : List ℕ
  pub entries : List Definition
  pub externals : List (List ℕ)

-- a statement with the fields it makes
abbrev pub coded_of : Context → Settled → Coded
coded_of context settled = record { settled = settled; fields = items_of context settled settled.read.operation }

-- a statement up to END in the listing, with its letters and its items
abbrev pub shown_of : Context → Settled → Shown
shown_of context settled = record { statement = settled.read.statement; letters = in_order (letters_of context settled); coded = Some (coded_of context settled) }

-- what follows END is only listed
abbrev pub only_listed : Statement → Shown
only_listed statement = record { statement = statement; letters = []; coded = None }

-- the object of a deck whose context is known, with the statements behind its END
abbrev pub object_in : List ℕ → Context → List Statement → Object
object_in name context behind = record {
  name = name;
  kind = context.kind;
  shown = map only_listed behind ++ map (shown_of context) context.settled;
  coded = map (coded_of context) context.settled;
  rows = context.rows;
  literals = context.literals;
  entries = entries_of context.kind context.settled;
  externals = externals_of context.settled;
}

-- what the settled statements of a deck make known: its kind, its blocks and its literals
abbrev pub context_of : DeckKind → List Settled → Context
context_of kind settled = record { kind = kind; settled = settled; rows = block_rows kind settled; literals = literal_words settled }

-- the object of a name, the statements up to END, and those behind it
abbrev pub object_from : List ℕ → List Statement → List Statement → Object
object_from name statements behind =
    let kind = kind_of_statements statements in
    object_in name (context_of kind (settled_all kind statements)) behind

-- the object of a deck
abbrev pub object_of : Deck → Object
object_of deck =
    let statements = statements_of (reverse deck.cards) in
    object_from deck.name (up_to_end statements) (behind_end statements)
