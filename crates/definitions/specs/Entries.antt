-- Entries and externals: the names that a deck gives to others, and those that it takes (COMPASS 60492600, ENTRY, EXT; the order is ours).
use Rattle.std.specs.Prelude.{ℕ, List, [], ◌∷◌, ◌++◌, Option, Some, None, filter_map}
use Rattle.definitions.specs.{Forms.{Form, Added, Subtracted, Block, External}, Operations.Operation, Operands.{Operand, NamesOperand}, Settled.{Settled, Definition, defined, defined_in}, declared.deck_kind.DeckKind.DeckKind, declared.deck_kind.DeckKind.TheVariants.Periph, declared.letter.Letter.Letter}
use Rattle.definitions.specs.Operations as op
use Rattle.definitions.specs.declared.letter.Letter.TheVariants as letter

-- a name may be entered where it is defined, and is no external and no block that is subtracted
abbrev pub entry_fault : Option Form → List Letter
entry_fault None = letter.U ∷ []
entry_fault (Some form) = elim form.part [ None ↦ [] | Some part ↦ elim part [ Added base ↦ elim base [ Block name ↦ [] | External name ↦ letter.R ∷ [] ] | Subtracted base ↦ letter.R ∷ [] ] ]

-- the good names of an ENTRY with their forms, those before it among them, each once
abbrev pub with_entry : List ℕ → List Letter → Option Form → List Definition → List Definition
with_entry name [] (Some form) entries = elim (defined_in name entries) [ Some other ↦ entries | None ↦ entries ++ record { name = name; form = form } ∷ [] ]
with_entry name _ _ entries = entries

-- the entries so far with those of an ENTRY's names that are good
abbrev pub with_entries : List Settled → List (Option (List ℕ)) → List Definition → List Definition
with_entries settled [] entries = entries
with_entries settled (None ∷ names) entries = with_entries settled names entries
with_entries settled (Some name ∷ names) entries = with_entries settled names (with_entry name (entry_fault (defined name settled)) (defined name settled) entries)

-- the entries so far with those of a statement; only ENTRY makes any
abbrev pub entries_by : List Settled → Operation → Operand → List Definition → List Definition
entries_by settled op.Entry (NamesOperand names) entries = with_entries settled names entries
entries_by settled operation operand entries = entries

-- the entries of statements that are read newest first, each name once
abbrev pub entries_among : List Settled → List Settled → List Definition
entries_among settled [] = []
entries_among settled (latest ∷ earlier) = entries_by settled latest.read.operation latest.read.operand (entries_among settled earlier)

-- the entries of a deck; a peripheral deck has none
abbrev pub entries_of : DeckKind → List Settled → List Definition
entries_of Periph settled = []
entries_of kind settled = entries_among settled settled

-- the external that a definition names, if it names one
abbrev pub external_name : Definition → Option (List ℕ)
external_name definition = elim definition.form.part [ None ↦ None | Some part ↦ elim part [ Subtracted base ↦ None | Added base ↦ elim base [ Block name ↦ None | External name ↦ Some name ] ] ]

-- the externals that a statement defines; only EXT defines any
abbrev pub externals_by : Operation → List Definition → List (List ℕ)
externals_by op.Ext definitions = filter_map external_name definitions
externals_by operation definitions = []

-- the externals of a deck in order of definition
abbrev pub externals_of : List Settled → List (List ℕ)
externals_of [] = []
externals_of (latest ∷ earlier) = externals_of earlier ++ externals_by latest.read.operation latest.definitions
