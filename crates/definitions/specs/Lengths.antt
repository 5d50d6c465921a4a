-- Lengths and bases of blocks (COMPASS 60492600, blocks, labelled common; that the literals come last is ours).
use Rattle.std.specs.Prelude.{ℕ, ◌+◌, ◌-◌, ◌/◌, List, [], ◌∷◌, ◌++◌, max, map, ◌&&◌, not, nat_lt, length, if◌then◌else◌}
use Rattle.definitions.specs.{Characters.same_text, Kinds.units, Settled.Settled, Blocks.{blocks_used, changes, literals_block, is_common}, Literals.literal_words, declared.deck_kind.DeckKind.DeckKind}

-- one more than the last word that the statement's items or its reservation reach; an ORG reaches none
abbrev pub reached : DeckKind → Settled → ℕ
reached kind settled =
    if settled.is_placed && nat_lt settled.place settled.end && not settled.begins_run
    then (settled.end + units kind - 1) / units kind else 0

-- a block's length
abbrev pub length_of : DeckKind → List ℕ → List Settled → ℕ
length_of kind block [] = 0
length_of kind block (settled ∷ earlier) = max (if same_text settled.block block then reached kind settled else 0) (length_of kind block earlier)

-- how many words a block has
pub record BlockLength : Type 0 where
  pub name : List ℕ
  pub words : ℕ

-- the lengths of the blocks in order of first use
abbrev pub lengths_of : DeckKind → List Settled → List BlockLength
lengths_of kind settled = map (λ (name : List ℕ). record { name = name; words = length_of kind name settled }) (blocks_used (changes settled))

-- a block with its base and its length, in words
pub record BlockRow : Type 0 where
  pub name : List ℕ
  pub base : ℕ
  pub words : ℕ

-- the words that a block takes in its deck; a common block takes none there
abbrev pub local_words : BlockRow → ℕ
local_words row = if is_common row.name then 0 else row.words

-- a local block stands at the base, a common one at 0
abbrev pub placed_row : ℕ → BlockLength → BlockRow
placed_row base block = record { name = block.name; base = if is_common block.name then 0 else base; words = block.words }

-- rows from a base on: each local block stands at the end of those before it; common blocks have no part in the sums
abbrev pub rows_from : ℕ → List BlockLength → List BlockRow
rows_from base [] = []
rows_from base (block ∷ blocks) = let row = placed_row base block in row ∷ rows_from (base + local_words row) blocks

-- the words of all local blocks together
abbrev pub total_length : List BlockRow → ℕ
total_length [] = 0
total_length (row ∷ rows) = local_words row + total_length rows

-- the row of the literals, where there are any
abbrev pub literals_row : ℕ → List ℕ → List BlockRow
literals_row base [] = []
literals_row base (word ∷ words) = record { name = literals_block; base = base; words = length (word ∷ words) } ∷ []

-- the rows of blocks of these lengths, and of the literals behind them
abbrev pub rows_of : List BlockLength → List ℕ → List BlockRow
rows_of blocks literals = let rows = rows_from 0 blocks in rows ++ literals_row (total_length rows) literals

-- the blocks of a deck in order of first use, and its literals where there are any
abbrev pub block_rows : DeckKind → List Settled → List BlockRow
block_rows kind settled = rows_of (lengths_of kind settled) (literal_words settled)

-- a block's base among the rows
abbrev pub base_in : List ℕ → List BlockRow → ℕ
base_in name [] = 0
base_in name (row ∷ rows) = if same_text name row.name then row.base else base_in name rows
