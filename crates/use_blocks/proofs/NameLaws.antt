-- Blocks and lengths that have the same names, in the same order.
use Rattle.std.{proofs.Common.{◌≡◌, ◌∙◌, ℕ, zero, suc, ◌<◌, Bool, true, false, List, [], ◌∷◌, ◌++◌, Some, length, refl, sym, ap, arith}, specs.Prelude.{slice_get, map, if◌then◌else◌}, proofs.lemmas.List.{length-map, map-append}, proofs.lemmas.Option.slice_get-get_or}
use Rattle.definitions.specs.{Blocks.{nominal, block_in_use, is_named}, Lengths.BlockLength, Settled.{BlockChange, NoChange, Opens, Closes}, Laws.States.{UsedBlock, Effect, fresh_block, block_behind, blocks_behind, names_of_blocks, length_behind, lengths_behind, lengths_advanced}}
use Rattle.use_blocks.{specs.Joins.BlockLengths.block_names, specs.Joins.StateInside.{opened_names, latest, IsState}, proofs.BlockLaws.names-behind, proofs.StackLaws.{below-latest, in_use-latest}, proofs.ReachLaws.names-reaching}

-- the name in use stands at the latest index
pub in_use-at : (blocks : List UsedBlock) (stack : List ℕ) → IsState blocks stack →
    slice_get (names_of_blocks blocks) (latest stack) ≡ Some (block_in_use (opened_names (names_of_blocks blocks) stack))
in_use-at blocks stack is =
    let count : length (names_of_blocks blocks) ≡ length blocks = length-map blocks (λ (u : UsedBlock). u.name) in
    let below : latest stack < length blocks = below-latest (length blocks) stack is.some is.indexes in
    slice_get-get_or (names_of_blocks blocks) (latest stack) nominal (omega arith) ∙ ap Some (sym (in_use-latest (names_of_blocks blocks) stack is.nominal_first))

-- the length at an index where a name stands has it
pub length-at : (blocks : List BlockLength) (i : ℕ) (name : List ℕ) → slice_get (block_names blocks) i ≡ Some name →
    (b : BlockLength) × (slice_get blocks i ≡ Some b) × (b.name ≡ name)
length-at [] i name e = absurd (cc)
length-at (c ∷ cs) zero name e = (c, refl, cc)
length-at (c ∷ cs) (suc i) name e = length-at cs i name e

-- a change makes the same of the names of lengths and of blocks
names-changed : (change : BlockChange) (lengths : List BlockLength) (blocks : List UsedBlock) → block_names lengths ≡ names_of_blocks blocks →
    block_names (lengths_behind change lengths) ≡ names_of_blocks (blocks_behind change blocks)
names-changed NoChange lengths blocks e = e
names-changed Closes lengths blocks e = e
names-changed (Opens name) lengths blocks e =
    ap (λ (names : List (List ℕ)). block_names (if is_named name names then lengths else lengths ++ record { name = name; words = 0 } ∷ [])) e
    ∙ step (is_named name (names_of_blocks blocks))
  where
    step : (t : Bool) → block_names (if t then lengths else lengths ++ record { name = name; words = 0 } ∷ []) ≡ names_of_blocks (if t then blocks else blocks ++ fresh_block name ∷ [])
    step true = e
    step false =
        map-append (λ (block : BlockLength). block.name) lengths (record { name = name; words = 0 } ∷ [])
        ∙ ap (λ (names : List (List ℕ)). names ++ name ∷ []) e
        ∙ sym (map-append (λ (block : UsedBlock). block.name) blocks (fresh_block name ∷ []))

-- a step makes the same of the names of lengths and of blocks
pub names-advanced : (name : List ℕ) (effect : Effect) (lengths : List BlockLength) (blocks : List UsedBlock) → block_names lengths ≡ names_of_blocks blocks →
    block_names (lengths_advanced name effect lengths) ≡ names_of_blocks (blocks_behind effect.change (map (block_behind name effect) blocks))
names-advanced name effect lengths blocks e =
    names-changed effect.change (map (length_behind name effect) lengths) (map (block_behind name effect) blocks)
    (names-reaching name effect.reached lengths ∙ e ∙ sym (names-behind name effect blocks))
