-- How the fields of a statement fill its place, and how each of them has room for what stands in it.
use Rattle.std.specs.Prelude.{ℕ, ◌≡◌, ◌≤◌, ◌<◌, ◌-◌, ◌*◌, ◌%◌, ◌^◌, ⊤, List, [], ◌∷◌}
use Rattle.definitions.specs.{Kinds.{unit_bits, address_bits}, StatementItems.{Item, Content, Known, Linked}, Words.width_of, declared.deck_kind.DeckKind.DeckKind}

-- there is a field at least
abbrev pub HasFields : List Item → Type 0
HasFields [] = ⊥
HasFields (item ∷ items) = ⊤

-- the fields of a statement reach from its place to its end
abbrev pub DoFill : DeckKind → ℕ → ℕ → List Item → Type 0
DoFill kind place end [] = ⊤
DoFill kind place end (item ∷ items) = width_of (item ∷ items) ≡ (end - place) * unit_bits kind

-- known bits have room in the field; a form is left to the link in 18 to 60 bits
abbrev pub HasRoom : ℕ → Content → Type 0
HasRoom width (Known bits) = bits < 2 ^ width
HasRoom width (Linked form) = (address_bits ≤ width) × (width ≤ 60)

-- each of these fields has room for what stands in it
abbrev pub DoFit : List Item → Type 0
DoFit [] = ⊤
DoFit (item ∷ items) = HasRoom item.width item.content × DoFit items

-- known bits that fill whole words of so many bits
abbrev pub IsWholeWords : ℕ → ℕ → Content → Type 0
IsWholeWords word width (Known bits) = width % word ≡ 0
IsWholeWords word width (Linked form) = ⊥

-- each field of more than 60 bits is known, and fills whole words
abbrev pub AreLongWhole : ℕ → List Item → Type 0
AreLongWhole word [] = ⊤
AreLongWhole word (item ∷ items) = (60 < item.width → IsWholeWords word item.width item.content) × AreLongWhole word items
