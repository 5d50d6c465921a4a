-- The fields that a line keeps, in the words of the definitions.
use Rattle.std.specs.Prelude.{ℕ, ◌≡◌, ◌≤◌, ◌+◌, ◌-◌, ◌*◌, ◌/◌, ⊤, List, [], ◌∷◌, map, take, drop, length}
use Rattle.definitions.specs.{Kinds.{unit_bits, word_bits, units}, Layout.{Layout, Based}, LinkLines.unfit_words, StatementItems.{Item, known}, Words.{Linking, width_of, joined}, declared.deck_kind.DeckKind.DeckKind, Laws.Filling.{HasFields, HasRoom}}
use Rattle.statement_coder.specs.Joins.{Items.item_as, WordItems.known_words}
use Rattle.statement_coder.specs.declared.items.Item as code
use Rattle.deck_objects.specs.declared.lines.CodedLine as lines
use Rattle.deck_objects.specs.declared.lines.FieldLists.{FieldLists}
use Rattle.deck_objects.specs.declared.lines.LineFields as kept
use Rattle.deck_objects.specs.declared.lines.LineFields.TheVariants as fields

-- some of the fields of an object
abbrev pub listed : List code.Item → ℕ → ℕ → List Item
listed items first count = map item_as (take count (drop first items))

-- some of the words of an object, as fields
abbrev pub words_listed : DeckKind → List ℕ → ℕ → ℕ → List Item
words_listed kind words first count = known_words (word_bits kind) (take count (drop first words))

-- zeros from a place to an end
abbrev pub zeros_to : DeckKind → ℕ → ℕ → Item
zeros_to kind place end = known ((end - place) / units kind * word_bits kind) 0

-- the fields from a place to an end, as a line keeps them
abbrev pub kept_from : DeckKind → FieldLists → ℕ → ℕ → kept.LineFields → List Item
kept_from kind lists place end fields.Absent = []
kept_from kind lists place end (fields.Known bits) = known ((end - place) * unit_bits kind) bits ∷ []
kept_from kind lists place end (fields.Words first count) = words_listed kind lists.words.items first count
kept_from kind lists place end (fields.Listed first count) = listed lists.items.items first count
kept_from kind lists place end fields.Zeros = zeros_to kind place end ∷ []

-- the fields that a line keeps
abbrev pub kept_items : DeckKind → FieldLists → lines.CodedLine → List Item
kept_items kind lists line = kept_from kind lists line.place line.end line.fields

-- fields that are other fields to whoever links: there where those are, as wide, of the same bits, and unfit in the same words
pub record AreBitsOf (kept fields : List Item) : Type 0 where
  pub some : HasFields fields → HasFields kept
  pub none : fields ≡ [] → kept ≡ []
  pub width : width_of kept ≡ width_of fields
  pub bits : (linking : Linking) → joined linking kept ≡ joined linking fields
  pub unfit : (layout : Layout) (based : Based) (from : ℕ) → unfit_words layout based from kept ≡ unfit_words layout based from fields

-- each of these fields has at most 60 bits, and room for what stands in it
abbrev pub AreShort : List Item → Type 0
AreShort [] = ⊤
AreShort (item ∷ items) = (item.width ≤ 60) × (HasRoom item.width item.content × AreShort items)

-- the fields of a line are short, and where they are listed they are there, words two or more; zeros may be long
abbrev pub AreKept : DeckKind → FieldLists → lines.CodedLine → kept.LineFields → Type 0
AreKept kind lists line fields.Absent = ⊤
AreKept kind lists line (fields.Known bits) = AreShort (kept_items kind lists line)
AreKept kind lists line (fields.Words first count) = (2 ≤ count) × ((first + count ≤ length lists.words.items) × AreShort (words_listed kind lists.words.items first count))
AreKept kind lists line (fields.Listed first count) = (first + count ≤ length lists.items.items) × AreShort (listed lists.items.items first count)
AreKept kind lists line fields.Zeros = ⊤
