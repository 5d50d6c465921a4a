-- Fields of the code, in the words of the definitions.
use Rattle.std.specs.Prelude.{ℕ, ◌≡◌, List, [], ◌∷◌, Option, Some, None}
use Rattle.definitions.specs.{Forms.Names, Settled.Settled, Lengths.BlockRow, StatementItems.{Content, Known, Linked, Item, Context, final_names}, declared.deck_kind.DeckKind.DeckKind, declared.letter.Letter.Letter}
use Rattle.statement_coder.specs.declared.items.Content as contents
use Rattle.statement_coder.specs.declared.items.Content.TheVariants as content
use Rattle.statement_coder.specs.declared.items.Item as code

-- bits, or a form that the link makes bits of
abbrev pub content_as : contents.Content → Content
content_as (content.Known bits) = Known bits
content_as (content.Linked form) = Linked form

-- a letter, or none
abbrev pub letters_as : Option Letter → List Letter
letters_as None = []
letters_as (Some letter) = letter ∷ []

-- the field
abbrev pub item_as : code.Item → Item
item_as item = record { width = item.width; content = content_as item.content; letters = letters_as item.letter }

-- a deck of this kind with these blocks, of which its statements and its literals are left open
abbrev pub deck_with : DeckKind → List BlockRow → List Settled → List ℕ → Context
deck_with kind rows settled literals = record { kind = kind; settled = settled; rows = rows; literals = literals }

-- these are the names that a statement of a deck sees
abbrev pub AreSeen : Names → Context → Settled → Type 0
AreSeen names context settled = names ≡ final_names context settled
