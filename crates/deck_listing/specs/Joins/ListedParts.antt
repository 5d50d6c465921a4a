-- The text of what an object keeps, in the words of the definitions.
use Rattle.std.specs.Prelude.{ℕ, ◌≡◌, ◌≤◌, ◌<◌, ◌+◌, ◌%◌, ◌^◌, ⊤, List, [], ◌∷◌, ◌++◌, Bool, true, false, Option, Some, None, All, codes, length, take, drop, filter, flat_map, nat_lt, ◌↔◌}
use Rattle.definitions.specs.{Cards.Card, Kinds.{kind_text, word_bits}, Lengths.BlockRow, Listing.{block_line, card_lines, letters_line, line, unlinked}, Numerals.decimal_of, Words.width_of, declared.deck_kind.DeckKind.DeckKind}
use Rattle.definitions.specs.Operations as op
use Rattle.deck_objects.specs.{Joins.LineItems.{AreKept, kept_items}, declared.lines.CodedLine.CodedLine, declared.lines.Line.Line, declared.object.ObjectParts.ObjectParts}
use Rattle.deck_objects.specs.declared.lines.LineFields.TheVariants as variant
use Rattle.deck_objects.specs.declared.lines.FieldLists.{FieldLists}
use Rattle.operations.specs.Joins.OperationsAs.{operation_as}
use Rattle.deck_listing.specs.Joins.WordLines.{fields_text, has_one_line}

-- the lines of what a statement stores, where it stores anything
abbrev pub stored_text : DeckKind → List BlockRow → FieldLists → Option CodedLine → List ℕ
stored_text kind rows lists None = []
stored_text kind rows lists (Some stored) = fields_text kind (unlinked rows) (operation_as stored.operation) stored.place (kept_items kind lists stored)

-- the text of a statement that has these cards, where so many stand before it
abbrev pub line_text : DeckKind → List BlockRow → FieldLists → ℕ → List Card → Line → List ℕ
line_text kind rows lists before cards shown = card_lines before cards ++ (letters_line shown.letters ++ stored_text kind rows lists shown.coded)

-- the text of statements one behind the other, which have these cards
abbrev pub lines_text : DeckKind → List BlockRow → FieldLists → ℕ → List Card → List Line → List ℕ
lines_text kind rows lists before cards [] = []
lines_text kind rows lists before cards (shown ∷ lines) =
    line_text kind rows lists before (take shown.cards cards) shown
    ++ lines_text kind rows lists (before + length (take shown.cards cards)) (drop shown.cards cards) lines

-- whether a statement has a letter
abbrev pub has_letters : Line → Bool
has_letters shown = nat_lt 0 (length shown.letters)

-- how many statements have a letter
abbrev pub flagged_lines : List Line → ℕ
flagged_lines lines = length (filter has_letters lines)

-- the listing of a deck with this name and these cards, from what its object keeps
abbrev pub parts_text : List ℕ → List Card → ObjectParts → List ℕ
parts_text name cards parts =
    line (codes "DECK " ++ (name ++ (codes " " ++ kind_text parts.kind)))
    ++ (lines_text parts.kind parts.bases parts.fields 0 cards parts.lines.items
    ++ (flat_map block_line parts.bases
    ++ line (codes "ERRORS " ++ decimal_of (flagged_lines parts.lines.items))))

-- what is known of what a statement stores
pub record IsListable (kind : DeckKind) (lists : FieldLists) (stored : CodedLine) : Type 0 where
  -- each field is short but a BSSZ's, which has no line
  pub kept : AreKept kind lists stored stored.fields
  pub zeros : (stored.fields ≡ variant.Zeros) ↔ (operation_as stored.operation ≡ op.Bssz)
  -- what has one line has at most 60 bits, and all else fills whole words
  pub short : has_one_line kind (operation_as stored.operation) ≡ true → width_of (kept_items kind lists stored) ≤ 60
  pub whole : has_one_line kind (operation_as stored.operation) ≡ false → width_of (kept_items kind lists stored) % word_bits kind ≡ 0
  pub bounded : width_of (kept_items kind lists stored) < 2 ^ 23

-- the same of a statement that may store nothing
abbrev pub IsListableLine : DeckKind → FieldLists → Option CodedLine → Type 0
IsListableLine kind lists None = ⊤
IsListableLine kind lists (Some stored) = IsListable kind lists stored

-- the same of all statements
abbrev pub AreListable : DeckKind → FieldLists → List Line → Type 0
AreListable kind lists lines = All (λ (shown : Line). IsListableLine kind lists shown.coded) lines
