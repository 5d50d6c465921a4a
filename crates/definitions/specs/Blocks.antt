-- Blocks: the stack of USE, and the blocks in order of first use (COMPASS 60492600, USE; that the stack has no bound is ours).
use Rattle.std.specs.{Prelude.{ℕ, List, [], ◌∷◌, ◌++◌, Bool, false, ◌==◌, ◌||◌, nat_lt, codes, length, drop, if◌then◌else◌, map}, List.list_any}
use Rattle.definitions.specs.{Characters.{same_text, slash}, Operands.{Operand, UseName, UseBefore}, Settled.{Settled, BlockChange, NoChange, Opens, Closes}}

-- the name of the nominal block
abbrev pub nominal : List ℕ
nominal = codes "0"

-- the block of the literals
abbrev pub literals_block : List ℕ
literals_block = codes "="

-- how many blocks a deck may use, the nominal block among them and the literals block not
abbrev pub most_blocks : ℕ
most_blocks = 64

-- whether a block is a common one, which is named with its slashes
abbrev pub is_common : List ℕ → Bool
is_common [] = false
is_common (c ∷ cs) = c == slash

-- the open names, latest first: a USE opens its name, and `USE *` closes the latest open one, if there is one
abbrev pub open_names : List BlockChange → List (List ℕ)
open_names [] = []
open_names (NoChange ∷ earlier) = open_names earlier
open_names (Opens name ∷ earlier) = name ∷ open_names earlier
open_names (Closes ∷ earlier) = drop 1 (open_names earlier)

-- the block in use: that of the latest open name, else the nominal one
abbrev pub block_in_use : List (List ℕ) → List ℕ
block_in_use [] = nominal
block_in_use (name ∷ names) = name

-- what statements did to the stack of blocks, newest first
abbrev pub changes : List Settled → List BlockChange
changes settled = map (λ (one : Settled). one.change) settled

-- whether a name is among these names
abbrev pub is_named : List ℕ → List (List ℕ) → Bool
is_named name names = list_any (λ other. same_text name other) names

-- the blocks so far, and the one that a USE opens where it is new
abbrev pub with_opened : BlockChange → List (List ℕ) → List (List ℕ)
with_opened (Opens name) names = if is_named name names then names else names ++ name ∷ []
with_opened _ names = names

-- the blocks in order of first use, the nominal block first
abbrev pub blocks_used : List BlockChange → List (List ℕ)
blocks_used [] = nominal ∷ []
blocks_used (change ∷ earlier) = with_opened change (blocks_used earlier)

-- whether a USE of this name is accepted, where these blocks are used: the 65th block is not
abbrev pub is_accepted : List ℕ → List (List ℕ) → Bool
is_accepted name names = is_named name names || nat_lt (length names) most_blocks

-- what an operand does to the stack: an accepted USE opens its block, `USE *` closes one, all else changes nothing
abbrev pub change_of : Operand → List (List ℕ) → BlockChange
change_of (UseName name) names = if is_accepted name names then Opens name else NoChange
change_of UseBefore names = Closes
change_of _ names = NoChange
