-- The LINK A lines of an object, from its fields as they are kept.
use Rattle.std.specs.Prelude.{ℕ, ◌≡◌, ◌*◌, ⊤, Bool, true, List, [], ◌∷◌, ◌++◌, Option, Some, None, slice_get}
use Rattle.definitions.specs.{Kinds.unit_bits, Lengths.BlockRow, Layout.{Layout, Based, block_base}, LinkLines.{address_lines, unfit_words}, declared.deck_kind.DeckKind.DeckKind}
use Rattle.deck_objects.specs.declared.lines.FieldLists.{FieldLists}
use Rattle.deck_objects.specs.{Joins.LineItems.{kept_items, AreKept}, declared.lines.Line.Line}
use Rattle.deck_objects.specs.declared.lines.CodedLine as lines

-- the lines of a statement in this block
abbrev pub unfit_in : Layout → Based → FieldLists → lines.CodedLine → Option BlockRow → List (List ℕ)
unfit_in layout based lists line None = []
unfit_in layout based lists line (Some row) =
    address_lines based.object.name (block_base layout.commons based row.name)
    (unfit_words layout based (line.place * unit_bits based.object.kind) (kept_items based.object.kind lists line))

-- the lines of a statement of the listing
abbrev pub unfit_of : Layout → Based → List BlockRow → FieldLists → Option lines.CodedLine → List (List ℕ)
unfit_of layout based rows lists None = []
unfit_of layout based rows lists (Some line) = unfit_in layout based lists line (slice_get rows line.block)

-- the lines of all statements
abbrev pub unfit_lines : Layout → Based → List BlockRow → FieldLists → List Line → List (List ℕ)
unfit_lines layout based rows lists [] = []
unfit_lines layout based rows lists (line ∷ lines) = unfit_of layout based rows lists line.coded ++ unfit_lines layout based rows lists lines

-- the fields of a statement of the listing are kept as they are to be
abbrev pub IsKept : DeckKind → FieldLists → Option lines.CodedLine → Type 0
IsKept kind lists None = ⊤
IsKept kind lists (Some line) = AreKept kind lists line line.fields

-- so are those of all statements
abbrev pub AllAreKept : DeckKind → FieldLists → List Line → Type 0
AllAreKept kind lists [] = ⊤
AllAreKept kind lists (line ∷ lines) = IsKept kind lists line.coded × AllAreKept kind lists lines
