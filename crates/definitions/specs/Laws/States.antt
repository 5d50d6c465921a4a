-- The state between statements: what those before a statement leave of blocks, number base and kind, and the words that they reach (ours).
-- `src/state_laws.rt` has what joins it to the list that it is made of.
use Rattle.std.specs.Prelude.{ℕ, List, [], ◌∷◌, ◌++◌, Option, Some, None, Bool, ◌&&◌, max, map, drop, unwrap_or, if◌then◌else◌}
use Rattle.definitions.specs.{Characters.same_text, Operations.is_neutral, DeckKinds.number_base_set, Settled.{Settled, Counting, LocationSetting, Unchanged, Counts, Ended, BlockChange, NoChange, Opens, Closes}, Blocks.{changes, open_names, block_in_use, blocks_used, is_named}, Places.{Position, position_in, no_position}, Counters.counting_in, Settling.{View, Seen, number_base_of, all_neutral}, Lengths.{BlockLength, reached}, declared.deck_kind.DeckKind.DeckKind, declared.number_base.NumberBase.NumberBase}

-- a block that is used: its position, and its LOC in force
pub record UsedBlock : Type 0 where
  pub name : List ℕ
  pub position : Position
  pub counting : Option Counting

-- the state behind statements
pub record BlockState : Type 0 where
  -- the open USE names, latest first
  pub open_names : List (List ℕ)
  -- the blocks in order of first use
  pub blocks : List UsedBlock
  pub number_base : NumberBase
  -- whether the deck's kind may still be set
  pub neutral : Bool

-- a block behind these statements
abbrev pub used_block : List Settled → List ℕ → UsedBlock
used_block earlier name = record { name = name; position = position_in name earlier; counting = counting_in name earlier }

-- the state behind these statements, newest first
abbrev pub state_after : List Settled → BlockState
state_after earlier =
    let done = changes earlier in
    record { open_names = open_names done; blocks = map (used_block earlier) (blocks_used done); number_base = number_base_of earlier; neutral = all_neutral earlier }

-- a block that nothing stands in yet
abbrev pub fresh_block : List ℕ → UsedBlock
fresh_block name = record { name = name; position = no_position; counting = None }

-- the block of this name, or a fresh one where it is not used
abbrev pub block_named : List ℕ → List UsedBlock → UsedBlock
block_named name [] = fresh_block name
block_named name (block ∷ blocks) = if same_text name block.name then block else block_named name blocks

-- the names of used blocks
abbrev pub names_of_blocks : List UsedBlock → List (List ℕ)
names_of_blocks blocks = map (λ (block : UsedBlock). block.name) blocks

-- what the next statement sees of a state and a view of symbols
abbrev pub seen_from : BlockState → View → Seen
seen_from state symbol =
    let name = block_in_use state.open_names in
    let block = block_named name state.blocks in
    record {
      block = name;
      blocks = names_of_blocks state.blocks;
      position = block.position;
      counting = block.counting;
      number_base = state.number_base;
      neutral = state.neutral;
      symbol = symbol;
    }

-- what a statement does to the state, and how many words of its block it reaches
pub record Effect : Type 0 where
  pub change : BlockChange
  -- the new position of the block in use, where the statement has a place
  pub position : Option Position
  pub setting : LocationSetting
  pub number_base : Option NumberBase
  pub neutral : Bool
  pub reached : ℕ

-- the effect of a settled statement
abbrev pub effect_of : DeckKind → Settled → Effect
effect_of kind settled = record {
  change = settled.change;
  position = if settled.is_placed then Some (record { end = settled.end; asks = settled.asks }) else None;
  setting = settled.setting;
  number_base = number_base_set settled.read.fields;
  neutral = is_neutral (Some settled.read.operation);
  reached = reached kind settled;
}

-- the LOC in force behind a setting
abbrev pub counting_behind : LocationSetting → Option Counting → Option Counting
counting_behind Unchanged before = before
counting_behind (Counts counting) before = Some counting
counting_behind Ended before = None

-- a block behind an effect on the block of this name
abbrev pub block_behind : List ℕ → Effect → UsedBlock → UsedBlock
block_behind name effect block =
    if same_text name block.name
    then record block { position = unwrap_or effect.position block.position; counting = counting_behind effect.setting block.counting }
    else block

-- the blocks, and the one that a USE opens where it is new
abbrev pub blocks_behind : BlockChange → List UsedBlock → List UsedBlock
blocks_behind (Opens name) blocks = if is_named name (names_of_blocks blocks) then blocks else blocks ++ fresh_block name ∷ []
blocks_behind _ blocks = blocks

-- the open names behind a change
abbrev pub names_behind : BlockChange → List (List ℕ) → List (List ℕ)
names_behind NoChange names = names
names_behind (Opens name) names = name ∷ names
names_behind Closes names = drop 1 names

-- one step: the state behind a statement of this effect
abbrev pub advanced : Effect → BlockState → BlockState
advanced effect state = record {
  open_names = names_behind effect.change state.open_names;
  blocks = blocks_behind effect.change (map (block_behind (block_in_use state.open_names) effect) state.blocks);
  number_base = unwrap_or effect.number_base state.number_base;
  neutral = effect.neutral && state.neutral;
}

-- the length of a block behind an effect on the block of this name
abbrev pub length_behind : List ℕ → Effect → BlockLength → BlockLength
length_behind name effect block = record block { words = max (if same_text name block.name then effect.reached else 0) block.words }

-- the lengths with that of the block that a USE opens where it is new
abbrev pub lengths_behind : BlockChange → List BlockLength → List BlockLength
lengths_behind (Opens name) blocks =
    if is_named name (map (λ (block : BlockLength). block.name) blocks) then blocks else blocks ++ record { name = name; words = 0 } ∷ []
lengths_behind _ blocks = blocks

-- one step of the lengths: the words that each block reaches behind a statement of this effect on the block of this name
abbrev pub lengths_advanced : List ℕ → Effect → List BlockLength → List BlockLength
lengths_advanced name effect blocks = lengths_behind effect.change (map (length_behind name effect) blocks)
