-- Blocks known by their names and by their indexes.
use Rattle.std.{proofs.Common.{◌≡◌, ◌∙◌, ℕ, zero, suc, ◌+◌, ◌<◌, Bool, true, false, not, ◌||◌, List, [], ◌∷◌, ◌++◌, length, refl, ap, ap₂, arith, inl, inr, set}, specs.Prelude.{map, unwrap_or, if◌then◌else◌}, specs.List.prefix_len, proofs.lemmas.Bool.{or_parts, or_right, not-false}, proofs.Math.ListN.get_or-map, proofs.lemmas.List.length-map, proofs.lemmas.List.Folds.list_any-append, proofs.lemmas.List.Sums.prefix_len_stops}
use Rattle.definitions.{specs.Characters.same_text, specs.Blocks.{nominal, is_named}, specs.Laws.States.{UsedBlock, Effect, fresh_block, block_named, counting_behind, block_behind, names_of_blocks}, proofs.TextLaws.{same_text-refl, same_text-true, same_text_tells}}
use Rattle.use_blocks.specs.Joins.{NameKeys.same_text_equivalence, StateInside.{block_at, name_at, AreDistinct, is_other}}

-- the name at an index is that of the block there
pub name_at-block : (blocks : List UsedBlock) (at : ℕ) → name_at (names_of_blocks blocks) at ≡ (block_at blocks at).name
name_at-block blocks at = get_or-map (λ (block : UsedBlock). block.name) blocks at (fresh_block nominal)

-- a name that is at an index is among the names
pub is_named-at : (names : List (List ℕ)) (at : ℕ) → at < length names → is_named (name_at names at) names ≡ true
is_named-at [] at h = absurd (omega arith)
is_named-at (name ∷ names) zero h = ap (λ (b : Bool). b || is_named name names) (same_text-refl name)
is_named-at (name ∷ names) (suc at) h = or_right (same_text (name_at names at) name) (is_named (name_at names at) names) (is_named-at names at (omega arith))

-- a name that is among others is not one that is not
pub is_named-apart : (name new : List ℕ) (names : List (List ℕ)) → is_named name names ≡ true → is_named new names ≡ false → same_text name new ≡ false
is_named-apart name new names h e =
    elim (same_text_tells name new) [
      | inl same ↦ absurd (cc (h, e, same.1))
      | inr other ↦ other.0
    ]

-- a name that is not among others is none of them
is_named-other : (name : List ℕ) (names : List (List ℕ)) (at : ℕ) → at < length names → is_named name names ≡ false → same_text (name_at names at) name ≡ false
is_named-other name names at h e = is_named-apart (name_at names at) name names (is_named-at names at h) e

-- distinct names stand at one index each
pub name_at-once : (names : List (List ℕ)) (at other : ℕ) → AreDistinct names → at < length names → other < length names → name_at names at ≡ name_at names other → at ≡ other
name_at-once [] at other d h k e = absurd (omega arith)
name_at-once (name ∷ names) zero zero d h k e = refl
name_at-once (name ∷ names) zero (suc other) d h k e =
    let apart = is_named-other name names other (omega arith) d.0 in
    let same : same_text (name_at names other) name ≡ true = rw e (same_text-refl (name_at names other)) in cc
name_at-once (name ∷ names) (suc at) zero d h k e =
    let apart = is_named-other name names at (omega arith) d.0 in
    let same : same_text (name_at names at) name ≡ true = rw e (same_text-refl name) in cc
name_at-once (name ∷ names) (suc at) (suc other) d h k e = ap suc (name_at-once names at other d.1 (omega arith) (omega arith) e)

-- a block whose name is at an index
other_block : (block : UsedBlock) (blocks : List UsedBlock) (at : ℕ) → is_named block.name (names_of_blocks blocks) ≡ false → at < length blocks →
    same_text (block_at blocks at).name block.name ≡ false
other_block block blocks at d h =
    let far = is_named-other block.name (names_of_blocks blocks) at (let e = length-map blocks (λ (b : UsedBlock). b.name) in omega arith) d in
    rw name_at-block at far

-- the block of a name among distinct ones is that at its index
pub block_named-at : (blocks : List UsedBlock) (at : ℕ) → AreDistinct (names_of_blocks blocks) → at < length blocks → block_named (block_at blocks at).name blocks ≡ block_at blocks at
block_named-at [] at d h = absurd (omega arith)
block_named-at (block ∷ blocks) zero d h = rw (same_text-refl block.name) refl
block_named-at (block ∷ blocks) (suc at) d h =
    let there = block_named-at blocks at d.1 (omega arith) in
    rw (other_block block blocks at d.0 (omega arith)) there

-- blocks of other names stay as they are
behind-others : (name : List ℕ) (effect : Effect) (blocks : List UsedBlock) → is_named name (names_of_blocks blocks) ≡ false → map (block_behind name effect) blocks ≡ blocks
behind-others name effect [] e = refl
behind-others name effect (block ∷ blocks) e =
    let parts = or_parts (same_text name block.name) (is_named name (names_of_blocks blocks)) e in
    rw parts.0 (ap (λ (l : List UsedBlock). block ∷ l) (behind-others name effect blocks parts.1))

-- an effect on a block changes the block at its index alone
pub behind-at : (effect : Effect) (blocks : List UsedBlock) (at : ℕ) → AreDistinct (names_of_blocks blocks) → at < length blocks →
    map (block_behind (block_at blocks at).name effect) blocks ≡ set blocks at (block_behind (block_at blocks at).name effect (block_at blocks at))
behind-at effect [] at d h = absurd (omega arith)
behind-at effect (block ∷ blocks) zero d h = ap (λ (l : List UsedBlock). block_behind block.name effect block ∷ l) (behind-others block.name effect blocks d.0)
behind-at effect (block ∷ blocks) (suc at) d h =
    let there = behind-at effect blocks at d.1 (omega arith) in
    rw (other_block block blocks at d.0 (omega arith)) (ap (λ (l : List UsedBlock). block ∷ l) there)

-- a block keeps its name
pub block_behind-name : (name : List ℕ) (effect : Effect) (block : UsedBlock) → (block_behind name effect block).name ≡ block.name
block_behind-name name effect block =
    elim (same_text name block.name) as (λ b. (if b then record { name = block.name; position = unwrap_or effect.position block.position; counting = counting_behind effect.setting block.counting } else block).name ≡ block.name) [ true ↦ refl | false ↦ refl ]

-- blocks keep their names
pub names-behind : (name : List ℕ) (effect : Effect) (blocks : List UsedBlock) → names_of_blocks (map (block_behind name effect) blocks) ≡ names_of_blocks blocks
names-behind name effect [] = refl
names-behind name effect (block ∷ blocks) = ap₂ (λ (n : List ℕ) (l : List (List ℕ)). n ∷ l) (block_behind-name name effect block) (names-behind name effect blocks)

-- the blocks of other names up to one: that has the name
pub found-name : (name : List ℕ) (blocks : List UsedBlock) → prefix_len (is_other name) blocks < length blocks → name ≡ (block_at blocks (prefix_len (is_other name) blocks)).name
found-name name blocks h =
    let at = prefix_len (is_other name) blocks in
    same_text-true name (block_at blocks at).name (not-false (same_text name (block_at blocks at).name) (prefix_len_stops (is_other name) blocks (fresh_block nominal) h))

-- all blocks have other names: then none has it
pub found-none : (name : List ℕ) (blocks : List UsedBlock) → prefix_len (is_other name) blocks ≡ length blocks → is_named name (names_of_blocks blocks) ≡ false
found-none name [] e = refl
found-none name (block ∷ blocks) e = front (found-none name blocks) (same_text name block.name) e
  where
    front : (prefix_len (is_other name) blocks ≡ length blocks → is_named name (names_of_blocks blocks) ≡ false) →
        (b : Bool) → (if not b then 1 + prefix_len (is_other name) blocks else 0) ≡ suc (length blocks) → (b || is_named name (names_of_blocks blocks)) ≡ false
    front rest true k = absurd (omega arith)
    front rest false k = rest (omega arith)

-- a new name behind distinct ones
pub distinct-pushed : (names : List (List ℕ)) (name : List ℕ) → AreDistinct names → is_named name names ≡ false → AreDistinct (names ++ name ∷ [])
distinct-pushed [] name d e = (refl, tt)
distinct-pushed (first ∷ names) name d e =
    let parts = or_parts (same_text name first) (is_named name names) e in
    (list_any-append (λ (other : List ℕ). same_text first other) names (name ∷ []) ∙ ap₂ (λ (a b : Bool). a || (b || false)) d.0 (same_text_equivalence.symm first name ∙ parts.0), distinct-pushed names name d.1 parts.1)

-- a block of another name stays as it is
pub block_behind-apart : (name : List ℕ) (effect : Effect) (block : UsedBlock) → same_text name block.name ≡ false → block_behind name effect block ≡ block
block_behind-apart name effect block e = rw e refl
