-- The stack of open blocks, and what makes blocks and a stack those of a state.
use Rattle.std.{proofs.Common.{ne_eqb, ◌==◌, ◌≡◌, ◌∙◌, ℕ, zero, suc, ◌+◌, ◌-◌, ◌<◌, ◌≤◌, Bool, true, false, ◌&&◌, List, [], ◌∷◌, ◌++◌, length, refl, sym, ap, ap₂, subst, arith, inl, inr, get_or, set, take, drop, length-append}, specs.Prelude.{map, nat_lt, unwrap_or, if◌then◌else◌}, specs.Bool.Decides, specs.List.prefix_len, proofs.Math.Seq.get_or-append_seam, proofs.lemmas.List.{same_from_push, append-nil, get_or_append_left, length-map, map-append, take_more, take_all, get_or_default}, proofs.lemmas.List.Sums.prefix_len-le-length, proofs.lemmas.Bool.lt-ltb, proofs.lemmas.Bool.Decides.{leb_tells, Decides-eqb}}
use Rattle.definitions.specs.{Settled.{BlockChange, NoChange, Opens, Closes}, Blocks.{nominal, block_in_use, is_named, is_accepted}, Laws.States.{UsedBlock, BlockState, Effect, fresh_block, block_named, block_behind, blocks_behind, names_behind, names_of_blocks, advanced}, declared.number_base.NumberBase.NumberBase}
use Rattle.use_blocks.{specs.Joins.Changes.{changed, written}, specs.Joins.StateInside.{block_at, name_at, opened_names, latest, AreDistinct, AreBelow, is_other, IsState}, proofs.BlockLaws.{is_named-at, found-name, found-none, name_at-block, name_at-once, block_named-at, is_named-apart, block_behind-apart, names-behind, behind-at, distinct-pushed}}

-- a stack that is not empty is those below the latest, and the latest
pub stack-latest : (stack : List ℕ) → 0 < length stack → stack ≡ take (length stack - 1) stack ++ latest stack ∷ []
stack-latest stack h =
    let whole : take (length stack) stack ≡ stack = take_all (length stack) stack (omega arith) in
    let e : length stack - 1 + 1 ≡ length stack = omega arith in
    sym whole ∙ (ap (λ (n : ℕ). take n stack) (sym e) ∙ take_more stack (length stack - 1) 0 (omega arith))

-- the open names behind an index more
pub opened-pushed : (names : List (List ℕ)) (stack : List ℕ) (at : ℕ) → opened_names names (stack ++ at ∷ []) ≡ name_at names at ∷ opened_names names stack
opened-pushed names [] at = refl
opened-pushed names (first ∷ stack) at = ap (λ (l : List (List ℕ)). l ++ name_at names first ∷ []) (opened-pushed names stack at)

-- and behind the latest one less
pub opened-popped : (names : List (List ℕ)) (stack : List ℕ) → opened_names names (take (length stack - 1) stack) ≡ drop 1 (opened_names names stack)
opened-popped names [] = refl
opened-popped names (first ∷ stack) =
    let front = take (length (first ∷ stack) - 1) (first ∷ stack) in
    sym (ap (λ (l : List ℕ). drop 1 (opened_names names l)) (stack-latest (first ∷ stack) (omega arith)) ∙ ap (λ (l : List (List ℕ)). drop 1 l) (opened-pushed names front (latest (first ∷ stack))))

-- indexes that are below a count
pub below-more : (count more : ℕ) (stack : List ℕ) → count ≤ more → AreBelow count stack → AreBelow more stack
below-more count more [] h b = tt
below-more count more (at ∷ stack) h b = (let k = b.0 in omega arith, below-more count more stack h b.1)

pub below-pushed : (count at : ℕ) (stack : List ℕ) → at < count → AreBelow count stack → AreBelow count (stack ++ at ∷ [])
below-pushed count at [] h b = (h, tt)
below-pushed count at (first ∷ stack) h b = (b.0, below-pushed count at stack h b.1)

below-at : (count k : ℕ) (stack : List ℕ) → k < length stack → AreBelow count stack → get_or stack k 0 < count
below-at count k [] h b = absurd (omega arith)
below-at count zero (at ∷ stack) h b = b.0
below-at count (suc k) (at ∷ stack) h b = below-at count k stack (omega arith) b.1

pub below-latest : (count : ℕ) (stack : List ℕ) → 0 < count → AreBelow count stack → latest stack < count
below-latest count [] h b = h
below-latest count (first ∷ stack) h b = below-at count (length (first ∷ stack) - 1) (first ∷ stack) (omega arith) b

-- names that stand behind others leave the open ones as they are
pub opened-more : (names : List (List ℕ)) (name : List ℕ) (stack : List ℕ) → AreBelow (length names) stack → opened_names (names ++ name ∷ []) stack ≡ opened_names names stack
opened-more names name [] b = refl
opened-more names name (at ∷ stack) b =
    ap₂ (λ (l : List (List ℕ)) (n : List ℕ). l ++ n ∷ []) (opened-more names name stack b.1) (get_or_append_left names (name ∷ []) nominal at b.0)

-- the name in use is that at the latest index
pub in_use-latest : (names : List (List ℕ)) (stack : List ℕ) → name_at names 0 ≡ nominal → block_in_use (opened_names names stack) ≡ name_at names (latest stack)
in_use-latest names [] e = sym e
in_use-latest names (first ∷ stack) e =
    let front = take (length (first ∷ stack) - 1) (first ∷ stack) in
    ap (λ (l : List ℕ). block_in_use (opened_names names l)) (stack-latest (first ∷ stack) (omega arith)) ∙ ap block_in_use (opened-pushed names front (latest (first ∷ stack)))

-- a list with one more behind is not empty
last-some : (names : List (List ℕ)) (name : List ℕ) → names ++ name ∷ [] ≡ [] → ⊥
last-some [] name e = cc
last-some (a ∷ names) name e = cc

-- two stacks with the same open names are the same
pub opened-once : (names : List (List ℕ)) (stack other : List ℕ) → AreDistinct names → AreBelow (length names) stack → AreBelow (length names) other → opened_names names stack ≡ opened_names names other → stack ≡ other
opened-once names [] [] d b k e = refl
opened-once names [] (at ∷ other) d b k e = absurd (last-some (opened_names names other) (name_at names at) (sym e))
opened-once names (at ∷ stack) [] d b k e = absurd (last-some (opened_names names stack) (name_at names at) e)
opened-once names (at ∷ stack) (last ∷ other) d b k e =
    let both = same_from_push (opened_names names stack) (opened_names names other) (name_at names at) (name_at names last) e in
    let here : at ≡ last = name_at-once names at last d b.0 k.0 both.1 in
    let rest : stack ≡ other = opened-once names stack other d b.1 k.1 both.0 in
    cc

-- blocks of the same names
pub state-renamed : (blocks other : List UsedBlock) (stack : List ℕ) → names_of_blocks other ≡ names_of_blocks blocks → IsState blocks stack → IsState other stack
state-renamed blocks other stack e is =
    let count : length other ≡ length blocks = sym (length-map other (λ (b : UsedBlock). b.name)) ∙ (ap length e ∙ length-map blocks (λ (b : UsedBlock). b.name)) in
    record {
      nominal_first = ap (λ (names : List (List ℕ)). name_at names 0) e ∙ is.nominal_first;
      some = let s = is.some in omega arith;
      few = let f = is.few in omega arith;
      distinct = subst AreDistinct (sym e) is.distinct;
      indexes = subst (λ (n : ℕ). AreBelow n stack) (sym count) is.indexes;
    }

-- a block that is used is opened
state-pushed : (blocks : List UsedBlock) (stack : List ℕ) (at : ℕ) → IsState blocks stack → at < length blocks → IsState blocks (stack ++ at ∷ [])
state-pushed blocks stack at is h = record {
  nominal_first = is.nominal_first;
  some = is.some;
  few = is.few;
  distinct = is.distinct;
  indexes = below-pushed (length blocks) at stack h is.indexes;
}

-- a block that is new comes behind the others
pub state-more : (blocks : List UsedBlock) (stack : List ℕ) (name : List ℕ) → IsState blocks stack → length blocks < 64 → is_named name (names_of_blocks blocks) ≡ false → IsState (blocks ++ fresh_block name ∷ []) stack
state-more blocks stack name is h e =
    let some = is.some in
    let more : length (blocks ++ fresh_block name ∷ []) ≡ length blocks + 1 = length-append blocks (fresh_block name ∷ []) in
    let names : names_of_blocks (blocks ++ fresh_block name ∷ []) ≡ names_of_blocks blocks ++ name ∷ [] = map-append (λ (b : UsedBlock). b.name) blocks (fresh_block name ∷ []) in
    let count = length-map blocks (λ (b : UsedBlock). b.name) in
    record {
      nominal_first = ap (λ (l : List (List ℕ)). name_at l 0) names ∙ (get_or_append_left (names_of_blocks blocks) (name ∷ []) nominal 0 (omega arith) ∙ is.nominal_first);
      some = omega arith;
      few = omega arith;
      distinct = subst AreDistinct (sym names) (distinct-pushed (names_of_blocks blocks) name is.distinct e);
      indexes = below-more (length blocks) (length (blocks ++ fresh_block name ∷ [])) stack (omega arith) is.indexes;
    }

-- the block in use is that at the latest index
pub block_now-latest : (blocks : List UsedBlock) (stack : List ℕ) → IsState blocks stack → block_named (block_in_use (opened_names (names_of_blocks blocks) stack)) blocks ≡ block_at blocks (latest stack)
block_now-latest blocks stack is =
    ap (λ (name : List ℕ). block_named name blocks) (in_use-latest (names_of_blocks blocks) stack is.nominal_first ∙ name_at-block blocks (latest stack))
    ∙ block_named-at blocks (latest stack) is.distinct (below-latest (length blocks) stack is.some is.indexes)

-- what is read at that index
pub block_now-read : (blocks : List UsedBlock) (stack : List ℕ) (at : ℕ) (block : UsedBlock) → IsState blocks stack → at ≡ latest stack → block ≡ get_or blocks at block →
    block ≡ block_at blocks (latest stack)
block_now-read blocks stack at block is e read =
    let h = below-latest (length blocks) stack is.some is.indexes in
    read ∙ (ap (λ (n : ℕ). get_or blocks n block) e ∙ get_or_default blocks (latest stack) block (fresh_block nominal) h)

-- the state of blocks and a stack
abbrev pub state_of : List UsedBlock → List ℕ → NumberBase → Bool → BlockState
state_of blocks stack base neutral = record { open_names = opened_names (names_of_blocks blocks) stack; blocks = blocks; number_base = base; neutral = neutral }

-- a test of two stacks shows whether the states are the same
pub same-states : (result : Bool) (blocks first : List UsedBlock) (stack other : List ℕ) (base last : NumberBase) (neutral least : Bool) →
    IsState blocks stack → IsState first other → blocks ≡ first → base ≡ last → neutral ≡ least → Decides result (stack ≡ other) →
    Decides result (state_of blocks stack base neutral ≡ state_of first other last least)
same-states result blocks first stack other base last neutral least is are b n t told = (
  λ yes. rw (b, n, t, told.0 yes) refl,
  λ e.
      let count = length-map blocks (λ (u : UsedBlock). u.name) in
      let here : IsState blocks other = subst (λ (l : List UsedBlock). IsState l other) (sym b) are in
      let names = ap (λ (state : BlockState). state.open_names) e ∙ ap (λ (l : List UsedBlock). opened_names (names_of_blocks l) other) (sym b) in
      told.1
      (opened-once (names_of_blocks blocks) stack other is.distinct
      (subst (λ (k : ℕ). AreBelow k stack) (sym count) is.indexes) (subst (λ (k : ℕ). AreBelow k other) (sym count) here.indexes) names),
)

-- the name that is found at an index
name-found : (name : List ℕ) (blocks : List UsedBlock) (at : ℕ) → at ≡ prefix_len (is_other name) blocks → at < length blocks → name ≡ name_at (names_of_blocks blocks) at
name-found name blocks at e below =
    found-name name blocks (omega arith) ∙ (sym (name_at-block blocks (prefix_len (is_other name) blocks)) ∙ ap (λ (n : ℕ). name_at (names_of_blocks blocks) n) (sym e))

-- a name is accepted where its index is one of 64
pub accepted-index : (name : List ℕ) (blocks : List UsedBlock) → length blocks ≤ 64 → is_accepted name (names_of_blocks blocks) ≡ nat_lt (prefix_len (is_other name) blocks) 64
accepted-index name blocks few =
    let at = prefix_len (is_other name) blocks in
    let most : at ≤ length blocks = prefix_len-le-length (is_other name) blocks in
    let count : length (names_of_blocks blocks) ≡ length blocks = length-map blocks (λ (u : UsedBlock). u.name) in
    elim (leb_tells (length blocks) at) [
      | inl h ↦
          let all : at ≡ length blocks = omega (arith, h.1) in
          rw (found-none name blocks all) (ap (λ (n : ℕ). nat_lt n 64) (count ∙ sym all))
      | inr h ↦
          let below : at < length blocks = omega (arith, h.1) in
          let here = name-found name blocks at refl below in
          let there : is_named name (names_of_blocks blocks) ≡ true = rw here (is_named-at (names_of_blocks blocks) at (omega arith)) in
          rw there (sym (lt-ltb at 64 (omega arith)))
    ]

-- what is behind a block that is opened
abbrev pub blocks_opened : List ℕ → List UsedBlock → ℕ → List UsedBlock
blocks_opened name blocks at = if at == length blocks then blocks ++ fresh_block name ∷ [] else blocks

-- a block opened: it is used, or it is new
pub state-opened : (name : List ℕ) (blocks : List UsedBlock) (stack : List ℕ) (at : ℕ) → IsState blocks stack → at ≡ prefix_len (is_other name) blocks → at < 64 →
    IsState (blocks_opened name blocks at) (stack ++ at ∷ [])
state-opened name blocks stack at is e few =
    let most : at ≤ length blocks = subst (λ (n : ℕ). n ≤ length blocks) (sym e) (prefix_len-le-length (is_other name) blocks) in
    elim (leb_tells (length blocks) at) [
      | inl h ↦
          let all : at ≡ length blocks = omega (arith, h.1) in
          let more : length (blocks ++ fresh_block name ∷ []) ≡ length blocks + 1 = length-append blocks (fresh_block name ∷ []) in
          rw ((Decides-eqb at (length blocks)).1 all)
          (state-pushed (blocks ++ fresh_block name ∷ []) stack at (state-more blocks stack name is (omega arith) (found-none name blocks (sym e ∙ all))) (omega arith))
      | inr h ↦
          let below : at < length blocks = omega (arith, h.1) in
          rw (ne_eqb at (length blocks) (λ same. absurd (omega arith))) (state-pushed blocks stack at is below)
    ]

-- the definitions' state with the block opened
pub opened-as : (name : List ℕ) (blocks : List UsedBlock) (stack : List ℕ) (at : ℕ) (base : NumberBase) (neutral : Bool) → IsState blocks stack →
    at ≡ prefix_len (is_other name) blocks → state_of (blocks_opened name blocks at) (stack ++ at ∷ []) base neutral ≡ changed (Opens name) (state_of blocks stack base neutral)
opened-as name blocks stack at base neutral is e =
    let most : at ≤ length blocks = subst (λ (n : ℕ). n ≤ length blocks) (sym e) (prefix_len-le-length (is_other name) blocks) in
    let names = names_of_blocks blocks in
    let count : length names ≡ length blocks = length-map blocks (λ (u : UsedBlock). u.name) in
    elim (leb_tells (length blocks) at) [
      | inl h ↦
          let all : at ≡ length blocks = omega (arith, h.1) in
          let new : names_of_blocks (blocks ++ fresh_block name ∷ []) ≡ names ++ name ∷ [] = map-append (λ (u : UsedBlock). u.name) blocks (fresh_block name ∷ []) in
          let here : name_at (names ++ name ∷ []) at ≡ name = ap (λ (n : ℕ). name_at (names ++ name ∷ []) n) (all ∙ sym count) ∙ get_or-append_seam names name [] nominal in
          let others : opened_names (names ++ name ∷ []) stack ≡ opened_names names stack = opened-more names name stack (subst (λ (n : ℕ). AreBelow n stack) (sym count) is.indexes) in
          let names_open : opened_names (names_of_blocks (blocks ++ fresh_block name ∷ [])) (stack ++ at ∷ []) ≡ name ∷ opened_names names stack =
          ap (λ (l : List (List ℕ)). opened_names l (stack ++ at ∷ [])) new ∙ (opened-pushed (names ++ name ∷ []) stack at ∙ ap₂ (λ (n : List ℕ) (l : List (List ℕ)). n ∷ l) here others) in
          rw ((Decides-eqb at (length blocks)).1 all, found-none name blocks (sym e ∙ all)) (ap (state_with (blocks ++ fresh_block name ∷ []) base neutral) names_open)
      | inr h ↦
          let below : at < length blocks = omega (arith, h.1) in
          let here = name-found name blocks at e below in
          let there : is_named name names ≡ true = ap (λ (n : List ℕ). is_named n names) here ∙ is_named-at names at (omega arith) in
          rw (ne_eqb at (length blocks) (λ same. absurd (omega arith)), there) (ap (state_with blocks base neutral) (opened-pushed names stack at ∙ ap (λ (n : List ℕ). n ∷ opened_names names stack) (sym here)))
    ]
  where
    state_with : List UsedBlock → NumberBase → Bool → List (List ℕ) → BlockState
    state_with blocks base neutral names = record { open_names = names; blocks = blocks; number_base = base; neutral = neutral }

-- the state with its latest open block closed, if there is one
pub closed-as : (blocks : List UsedBlock) (stack : List ℕ) (base : NumberBase) (neutral : Bool) →
    state_of blocks (take (length stack - 1) stack) base neutral ≡ changed Closes (state_of blocks stack base neutral)
closed-as blocks stack base neutral = ap (λ (names : List (List ℕ)). let s : BlockState = record { open_names = names; blocks = blocks; number_base = base; neutral = neutral } in s) (opened-popped (names_of_blocks blocks) stack)

-- a change adds blocks behind the others, or none
blocks_more : (change : BlockChange) (blocks : List UsedBlock) → (more : List UsedBlock) × (blocks_behind change blocks ≡ blocks ++ more)
blocks_more (Opens name) blocks = by (is_named name (names_of_blocks blocks))
  where
    by : (b : Bool) → (more : List UsedBlock) × ((if b then blocks else blocks ++ fresh_block name ∷ []) ≡ blocks ++ more)
    by true = ([], sym (append-nil blocks))
    by false = (fresh_block name ∷ [], refl)
blocks_more change blocks = ([], sym (append-nil blocks))

-- so a block stays at its index
pub block_at-kept : (change : BlockChange) (blocks : List UsedBlock) (at : ℕ) → at < length blocks → block_at (blocks_behind change blocks) at ≡ block_at blocks at
block_at-kept change blocks at h =
    let more = blocks_more change blocks in
    ap (λ (l : List UsedBlock). block_at l at) more.1 ∙ get_or_append_left blocks more.0 (fresh_block nominal) at h

-- an effect on a block that is used, before a change of the stack or behind it
pub behind-changed : (change : BlockChange) (name : List ℕ) (effect : Effect) (blocks : List UsedBlock) → is_named name (names_of_blocks blocks) ≡ true →
    map (block_behind name effect) (blocks_behind change blocks) ≡ blocks_behind change (map (block_behind name effect) blocks)
behind-changed NoChange name effect blocks h = refl
behind-changed Closes name effect blocks h = refl
behind-changed (Opens new) name effect blocks h =
    rw (names-behind name effect blocks) (pushed (is_named new (names_of_blocks blocks)) refl)
  where
    pushed : (b : Bool) → is_named new (names_of_blocks blocks) ≡ b →
        map (block_behind name effect) (if b then blocks else blocks ++ fresh_block new ∷ []) ≡ (if b then map (block_behind name effect) blocks else map (block_behind name effect) blocks ++ fresh_block new ∷ [])
    pushed true e = refl
    pushed false e =
        map-append (block_behind name effect) blocks (fresh_block new ∷ [])
        ∙ ap (λ (block : UsedBlock). map (block_behind name effect) blocks ++ block ∷ []) (block_behind-apart name effect (fresh_block new) (is_named-apart name new (names_of_blocks blocks) h e))

-- the step in two parts: the change of the stack, and what the statement does to its block
pub advanced-parts : (effect : Effect) (blocks : List UsedBlock) (stack : List ℕ) (base : NumberBase) (neutral : Bool) (at : ℕ) → IsState blocks stack → at ≡ latest stack →
    let state = state_of blocks stack base neutral in
    written (block_at (changed effect.change state).blocks at).name effect (changed effect.change state) ≡ advanced effect state
advanced-parts effect blocks stack base neutral at is e =
    let state = state_of blocks stack base neutral in
    let below : at < length blocks = subst (λ (n : ℕ). n < length blocks) (sym e) (below-latest (length blocks) stack is.some is.indexes) in
    let names = names_of_blocks blocks in
    let count : length names ≡ length blocks = length-map blocks (λ (u : UsedBlock). u.name) in
    let here : (block_at blocks at).name ≡ block_in_use (opened_names names stack) = ap (λ (n : ℕ). (block_at blocks n).name) e ∙ sym (in_use-latest names stack is.nominal_first ∙ name_at-block blocks (latest stack)) in
    let there : is_named (block_in_use (opened_names names stack)) names ≡ true =
    ap (λ (n : List ℕ). is_named n names) (sym here ∙ sym (name_at-block blocks at)) ∙ is_named-at names at (omega arith) in
    ap (λ (n : List ℕ). written n effect (changed effect.change state)) (ap (λ (block : UsedBlock). block.name) (block_at-kept effect.change blocks at below) ∙ here)
    ∙ ap (with_blocks effect state) (behind-changed effect.change (block_in_use (opened_names names stack)) effect blocks there)
  where
    with_blocks : Effect → BlockState → List UsedBlock → BlockState
    with_blocks effect state blocks = record {
      open_names = names_behind effect.change state.open_names;
      blocks = blocks;
      number_base = unwrap_or effect.number_base state.number_base;
      neutral = effect.neutral && state.neutral;
    }

-- a block written at its index is the effect on its name
pub written-as : (effect : Effect) (blocks new : List UsedBlock) (stack : List ℕ) (base next : NumberBase) (neutral least : Bool) (at : ℕ) → IsState blocks stack → at < length blocks →
    new ≡ set blocks at (block_behind (block_at blocks at).name effect (block_at blocks at)) → next ≡ unwrap_or effect.number_base base → least ≡ (effect.neutral && neutral) →
    state_of new stack next least ≡ written (block_at blocks at).name effect (state_of blocks stack base neutral)
written-as effect blocks new stack base next neutral least at is below e b n =
    let name = (block_at blocks at).name in
    let same : new ≡ map (block_behind name effect) blocks = e ∙ sym (behind-at effect blocks at is.distinct below) in
    let open_same : opened_names (names_of_blocks new) stack ≡ opened_names (names_of_blocks blocks) stack =
    ap (λ (l : List (List ℕ)). opened_names l stack) (ap names_of_blocks same ∙ names-behind name effect blocks) in
    rw (open_same, same, b, n) refl
