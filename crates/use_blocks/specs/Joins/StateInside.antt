-- How a state lies in memory: its blocks, and the indexes of the open ones, latest last.
use Rattle.std.specs.{Prelude.{ℕ, ◌≡◌, ◌-◌, ◌<◌, ◌≤◌, ⊤, List, [], ◌∷◌, ◌++◌, Bool, false, not, length, slice_index_or, Vec, vec_len, vec_capacity}, List.AllByRecursion}
use Rattle.definitions.specs.{Characters.same_text, Blocks.{nominal, is_named}, Laws.States.{UsedBlock, fresh_block, names_of_blocks}}

-- the block at an index
abbrev pub block_at : List UsedBlock → ℕ → UsedBlock
block_at blocks at = slice_index_or blocks at (fresh_block nominal)

-- the name at an index
abbrev pub name_at : List (List ℕ) → ℕ → List ℕ
name_at names at = slice_index_or names at nominal

-- the open names, latest first; on the stack the latest stands last
abbrev pub opened_names : List (List ℕ) → List ℕ → List (List ℕ)
opened_names names [] = []
opened_names names (at ∷ later) = opened_names names later ++ name_at names at ∷ []

-- the index of the block in use: the latest on the stack, or that of the nominal block
abbrev pub latest : List ℕ → ℕ
latest stack = slice_index_or stack (length stack - 1) 0

-- no name stands twice
abbrev pub AreDistinct : List (List ℕ) → Type 0
AreDistinct [] = ⊤
AreDistinct (name ∷ names) = (is_named name names ≡ false) × AreDistinct names

-- each index on the stack is below this one
abbrev pub AreBelow : ℕ → List ℕ → Type 0
AreBelow count stack = AllByRecursion (λ at. at < count) stack

-- blocks and a stack are those of a state: the nominal block first, no name twice, at most 64, and each index is one of theirs
pub record IsState (blocks : List UsedBlock) (stack : List ℕ) : Type 0 where
  pub nominal_first : name_at (names_of_blocks blocks) 0 ≡ nominal
  pub some : 0 < length blocks
  pub few : length blocks ≤ 64
  pub distinct : AreDistinct (names_of_blocks blocks)
  pub indexes : AreBelow (length blocks) stack

-- whether a block has another name
abbrev pub is_other : List ℕ → UsedBlock → Bool
is_other name block = not (same_text name block.name)

-- there is memory for an index more on the stack, and for a block more where the index is that of a new one
pub record HasRoom {A B : Type 0} (opened : ℕ) (blocks : Vec UsedBlock A) (stack : Vec ℕ B) : Type 0 where
  pub stack_room : vec_len stack < vec_capacity stack
  pub block_room : opened ≡ length blocks.items → vec_len blocks < vec_capacity blocks
