-- The values of a link: what entries and externals are worth, and what the link gives a field (ours).
use Rattle.std.specs.{Prelude.{ℕ, List, [], ◌∷◌, Option, Some, None, Bool, true, false, flat_map, unwrap_or, ℤ, pos, ◌+ℤ◌, if◌then◌else◌, map}, Option.option_or}
use Rattle.definitions.specs.{Characters.same_text, Coding.coded_in, Forms.Form, Settled.Definition, StatementItems.{Item, Known, Linked, part_value}, Words.Linking, Layout.{Based, Common, Layout, block_base}}

-- the value of a form in a deck that stands at a base, from the values of externals
abbrev pub form_value : (List ℕ → ℤ) → List Common → Based → Form → ℤ
form_value external commons based form = form.number +ℤ part_value (λ name. pos (block_base commons based name)) external form.part

-- an entry's value; its form has no external
abbrev pub entry_value : List Common → Based → Definition → ℤ
entry_value commons based entry = form_value (λ name. pos 0) commons based entry.form

-- the names of definitions
abbrev pub names_of : List Definition → List (List ℕ)
names_of entries = map (λ (entry : Definition). entry.name) entries

-- the names that decks enter
abbrev pub entry_names : List Based → List (List ℕ)
entry_names all = flat_map (λ (based : Based). names_of based.object.entries) all

-- the value of a name among the entries of a deck, if it has it
abbrev pub entered_in : List ℕ → List Common → Based → List Definition → Option ℤ
entered_in name commons based [] = None
entered_in name commons based (entry ∷ entries) = if same_text name entry.name then Some (entry_value commons based entry) else entered_in name commons based entries

-- an external is the first entry of its name in deck order
abbrev pub entered : List ℕ → List Common → List Based → Option ℤ
entered name commons [] = None
entered name commons (based ∷ others) = option_or (entered_in name commons based based.object.entries) (entered name commons others)

-- a missing one is 0
abbrev pub external_value : Layout → List ℕ → ℤ
external_value layout name = unwrap_or (entered name layout.commons layout.decks) (pos 0)

-- the value of a form in its deck, with the externals that the decks enter
abbrev pub linked_value : Layout → Based → Form → ℤ
linked_value layout based form = form_value (external_value layout) layout.commons based form

-- a field that does not fit is 0
abbrev pub linking_of : Layout → Based → Linking
linking_of layout based width form = unwrap_or (coded_in width (linked_value layout based form)) 0

-- whether the value that the link gives a field does not fit there
abbrev pub is_unfit : Layout → Based → Item → Bool
is_unfit layout based item = elim item.content [ Known n ↦ false | Linked form ↦ elim (coded_in item.width (linked_value layout based form)) [ Some n ↦ false | None ↦ true ] ]
