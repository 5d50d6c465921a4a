-- Changes of a state, in parts.
use Rattle.std.specs.Prelude.{ℕ, ◌≡◌, ⊤, Bool, true, false, List, map, unwrap_or, ◌&&◌}
use Rattle.definitions.specs.{Settled.{BlockChange, NoChange, Opens, Closes}, Blocks.{block_in_use, is_accepted}, Laws.States.{UsedBlock, BlockState, Effect, names_of_blocks, block_named, block_behind, blocks_behind, names_behind}}

-- the block in use
abbrev pub block_now : BlockState → UsedBlock
block_now state = block_named (block_in_use state.open_names) state.blocks

-- whether a change opens a block
abbrev pub opens : BlockChange → Bool
opens NoChange = false
opens (Opens name) = true
opens Closes = false

-- a block that a change opens is used, or one of at most 64
abbrev pub IsAccepted : BlockChange → BlockState → Type 0
IsAccepted NoChange state = ⊤
IsAccepted (Opens name) state = is_accepted name (names_of_blocks state.blocks) ≡ true
IsAccepted Closes state = ⊤

-- an effect on the block of this name, but for what becomes of the stack
abbrev pub written : List ℕ → Effect → BlockState → BlockState
written name effect state = record state {
  blocks = map (block_behind name effect) state.blocks;
  number_base = unwrap_or effect.number_base state.number_base;
  neutral = effect.neutral && state.neutral;
}

-- the stack and the blocks behind a change
abbrev pub changed : BlockChange → BlockState → BlockState
changed change state = record state { open_names = names_behind change state.open_names; blocks = blocks_behind change state.blocks }
