-- What is needed of the deck before an edit.
use Rattle.std.specs.Prelude.{◌≡◌, List, reverse}
use Rattle.definitions.specs.{Cards.Card, DeckKinds.{up_to_end, kind_of_statements}, Literals.literal_words, Settled.defined, Settling.settled_all, Statements.{Statement, statements_of}}
use Rattle.deck_assembler.specs.{Joins.FirstSymbols.symbol_in, declared.former.Former.Former}

-- the statements of a deck up to END, newest first
abbrev pub known_in : List Card → List Statement
known_in cards = up_to_end (statements_of (reverse cards))

-- kind, symbols and literals are those of a deck with these cards
pub record IsFormerOf (cards : List Card) (former : Former) : Type 0 where
  pub kind : former.kind ≡ kind_of_statements (known_in cards)
  pub symbols : symbol_in former.symbols ≡ (λ name. defined name (settled_all former.kind (known_in cards)))
  pub literals : former.literals ≡ literal_words (settled_all former.kind (known_in cards))
