-- Whether statements store words at or behind the end of their memory, by the places that their fields reach.
use Rattle.std.specs.{Prelude.{ℕ, ◌+◌, ◌-◌, ◌/◌, List, [], ◌∷◌, Some, None, Bool, true, false, not, ◌&&◌, ◌||◌, nat_lt, nat_le, length, slice_get}, List.list_any}
use Rattle.definitions.specs.{Blocks.{is_common, literals_block}, Characters.same_text, Kinds.{memory_end, units}, Lengths.BlockRow, StatementItems.Item, Words.Coded, declared.deck_kind.DeckKind.DeckKind}
use Rattle.deck_objects.specs.declared.{lines.CodedLine.CodedLine, lines.Line.Line, lines.LineFields.LineFields, object.ObjectParts.ObjectParts}
use Rattle.deck_objects.specs.declared.lines.LineFields.TheVariants as fields

-- whether the word before an end lies at or behind the end of memory, in a block that stands at a base
abbrev pub reaches_beyond : DeckKind → ℕ → ℕ → Bool
reaches_beyond kind base end = nat_le (memory_end kind) (base + (end - 1) / units kind)

-- whether fields from a place to an end store a word there
abbrev pub stores_beyond : DeckKind → ℕ → ℕ → ℕ → Bool
stores_beyond kind base place end = nat_lt place end && reaches_beyond kind base end

-- whether there are fields
abbrev pub has_items : List Item → Bool
has_items [] = false
has_items (item ∷ items) = true

-- whether a statement stores a word of this block there
abbrev pub coded_beyond : DeckKind → BlockRow → Coded → Bool
coded_beyond kind row coded =
    same_text coded.settled.block row.name && (not coded.settled.begins_run && (has_items coded.fields && stores_beyond kind row.base coded.settled.place coded.settled.end))

-- whether a line keeps fields
abbrev pub keeps_fields : LineFields → Bool
keeps_fields fields.Absent = false
keeps_fields (fields.Known bits) = true
keeps_fields (fields.Words first count) = nat_lt 0 count
keeps_fields (fields.Listed first count) = nat_lt 0 count
keeps_fields fields.Zeros = true

-- whether a block is one of the deck's own, whose words are those of statements
abbrev pub is_plain : BlockRow → Bool
is_plain row = not (is_common row.name) && not (same_text row.name literals_block)

-- whether a line stores a word of its block there
abbrev pub line_beyond : DeckKind → List BlockRow → CodedLine → Bool
line_beyond kind rows line = elim (slice_get rows line.block) [
  | None ↦ false
  | Some row ↦ (not line.begins_run && keeps_fields line.fields) && (is_plain row && stores_beyond kind row.base line.place line.end)
]

-- whether a line of the listing does; one behind END stores nothing
abbrev pub listed_beyond : DeckKind → List BlockRow → Line → Bool
listed_beyond kind rows line = elim line.coded [ None ↦ false | Some coded ↦ line_beyond kind rows coded ]

-- whether so many literals reach there
abbrev pub literals_beyond : DeckKind → ℕ → ℕ → Bool
literals_beyond kind base count = nat_lt 0 count && nat_lt (memory_end kind) (base + count)

-- whether a block is that of so many literals and reaches there
abbrev pub literals_row_beyond : DeckKind → ℕ → BlockRow → Bool
literals_row_beyond kind count row = not (is_common row.name) && (same_text row.name literals_block && literals_beyond kind row.base count)

-- whether an object stores a word there, by its lines and its literals
abbrev pub parts_beyond : ObjectParts → Bool
parts_beyond parts =
    list_any (listed_beyond parts.kind parts.bases) parts.lines.items || list_any (literals_row_beyond parts.kind (length parts.literals.items)) parts.bases
