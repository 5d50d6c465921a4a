-- The state behind one statement more is the step of its effect, and a statement sees the state.
use Rattle.std.{proofs.Common.{◌≡◌, ℕ, Bool, true, false, ◌&&◌, ◌||◌, List, [], ◌∷◌, ◌++◌, Option, Some, None, refl, sym, ap, ap₂, ◌∙◌, subst, inl, inr}, specs.Prelude.{if◌then◌else◌, map, drop, unwrap_or}, specs.List.AllByRecursion}
use Rattle.definitions.{specs.Characters.same_text, specs.Statements.Statement, specs.Settled.{Settled, Counting, LocationSetting, Unchanged, Counts, Ended, BlockChange, NoChange, Opens, Closes, defined}, specs.Blocks.{changes, open_names, block_in_use, blocks_used, with_opened, is_named, nominal}, specs.Places.{Position, position_in}, specs.Counters.counting_in, specs.Settling.{Seen, seen_of, number_base_of, all_neutral, settled_all}, specs.Lengths.{BlockLength, length_of, lengths_of}, specs.Laws.States.{UsedBlock, BlockState, used_block, state_after, fresh_block, block_named, names_of_blocks, seen_from, Effect, effect_of, counting_behind, block_behind, blocks_behind, names_behind, advanced, length_behind, lengths_behind, lengths_advanced}, specs.declared.deck_kind.DeckKind.DeckKind, specs.declared.deck_kind.DeckKind.TheVariants.Rel, specs.declared.number_base.NumberBase.NumberBase, proofs.WordLaws.picked_cond, proofs.TextLaws.{same_text-refl, same_text-true, same_text_tells}}

-- a test that is true stays so when it is one of two
either_true : (b c : Bool) → c ≡ true → (b || c) ≡ true
either_true true c e = refl
either_true false c e = e

-- a test that is true stays so when the other of two is put in place of a true one
either_kept : (b c d : Bool) → (c ≡ true → d ≡ true) → (b || c) ≡ true → (b || d) ≡ true
either_kept true c d k e = refl
either_kept false c d k e = k e

-- a name that is among others is among more
is_named-pushed : (name other : List ℕ) (names : List (List ℕ)) → is_named name names ≡ true → is_named name (names ++ other ∷ []) ≡ true
is_named-pushed name other [] h = cc
is_named-pushed name other (first ∷ names) h =
    either_kept (same_text name first) (is_named name names) (is_named name (names ++ other ∷ [])) (is_named-pushed name other names) h

-- a name that is pushed is among them
is_named-last : (name : List ℕ) (names : List (List ℕ)) → is_named name (names ++ name ∷ []) ≡ true
is_named-last name [] = rw (same_text-refl name) refl
is_named-last name (first ∷ names) = either_true (same_text name first) (is_named name (names ++ name ∷ [])) (is_named-last name names)

-- the blocks used stay used
is_named-opened : (name : List ℕ) (change : BlockChange) (names : List (List ℕ)) → is_named name names ≡ true → is_named name (with_opened change names) ≡ true
is_named-opened name NoChange names h = h
is_named-opened name Closes names h = h
is_named-opened name (Opens other) names h =
    picked_cond (λ all. is_named name all ≡ true) (is_named other names) names (names ++ other ∷ []) h (is_named-pushed name other names h)

-- the block that is opened is used
is_named-here : (name : List ℕ) (names : List (List ℕ)) → is_named name (with_opened (Opens name) names) ≡ true
is_named-here name names = opened (is_named name names) refl
  where
    opened : (b : Bool) → is_named name names ≡ b → is_named name (if b then names else names ++ name ∷ []) ≡ true
    opened true e = e
    opened false e = is_named-last name names

-- each of these is among the used ones
abbrev AreNamed : List (List ℕ) → List (List ℕ) → Type 0
AreNamed opened names = AllByRecursion (λ name. is_named name names ≡ true) opened

named-opened : (latest : BlockChange) (opened names : List (List ℕ)) → AreNamed opened names → AreNamed opened (with_opened latest names)
named-opened latest [] names h = tt
named-opened latest (name ∷ opened) names h = (is_named-opened name latest names h.0, named-opened latest opened names h.1)

named-dropped : (opened names : List (List ℕ)) → AreNamed opened names → AreNamed (drop 1 opened) names
named-dropped [] names h = tt
named-dropped (name ∷ opened) names h = h.1

-- the open names are used
open_names-used : (done : List BlockChange) → AreNamed (open_names done) (blocks_used done)
open_names-used [] = tt
open_names-used (NoChange ∷ done) = open_names-used done
open_names-used (Opens name ∷ done) = (is_named-here name (blocks_used done), named-opened (Opens name) (open_names done) (blocks_used done) (open_names-used done))
open_names-used (Closes ∷ done) = named-dropped (open_names done) (blocks_used done) (open_names-used done)

nominal-used : (done : List BlockChange) → is_named nominal (blocks_used done) ≡ true
nominal-used [] = refl
nominal-used (change ∷ done) = is_named-opened nominal change (blocks_used done) (nominal-used done)

in_use-named : (opened names : List (List ℕ)) → AreNamed opened names → is_named nominal names ≡ true → is_named (block_in_use opened) names ≡ true
in_use-named [] names h n = n
in_use-named (name ∷ opened) names h n = h.0

-- the block in use is among those used
block_in_use-used : (done : List BlockChange) → is_named (block_in_use (open_names done)) (blocks_used done) ≡ true
block_in_use-used done = in_use-named (open_names done) (blocks_used done) (open_names-used done) (nominal-used done)

-- used blocks are known by their names
names_of_blocks-used : (earlier : List Settled) (names : List (List ℕ)) → names_of_blocks (map (used_block earlier) names) ≡ names
names_of_blocks-used earlier [] = refl
names_of_blocks-used earlier (name ∷ names) = ap (λ others. name ∷ others) (names_of_blocks-used earlier names)

-- a name that is used finds its block
block_named-used : (earlier : List Settled) (name : List ℕ) (names : List (List ℕ)) → is_named name names ≡ true → block_named name (map (used_block earlier) names) ≡ used_block earlier name
block_named-used earlier name [] h = cc
block_named-used earlier name (first ∷ names) h = front (block_named-used earlier name names) (same_text name first) refl h
  where
    front : (is_named name names ≡ true → block_named name (map (used_block earlier) names) ≡ used_block earlier name) →
        (b : Bool) → same_text name first ≡ b → (b || is_named name names) ≡ true →
        block_named name (map (used_block earlier) (first ∷ names)) ≡ used_block earlier name
    front behind true e k = rw e (ap (used_block earlier) (sym (same_text-true name first e)))
    front behind false e k = rw e (behind k)

-- what a statement sees of the list is what it sees of the state behind it
pub seen_of-state : (earlier : List Settled) → seen_of earlier ≡ seen_from (state_after earlier) (λ name. defined name earlier)
seen_of-state earlier =
    let done = changes earlier in
    let name = block_in_use (open_names done) in
    let names = blocks_used done in
    let same = names_of_blocks-used earlier names in
    let here = block_named-used earlier name names (block_in_use-used done) in
    ap₂ (seen_as earlier) (sym same) (sym here)
  where
    seen_as : List Settled → List (List ℕ) → UsedBlock → Seen
    seen_as earlier names block = record {
      block = block_in_use (open_names (changes earlier));
      blocks = names;
      position = block.position;
      counting = block.counting;
      number_base = number_base_of earlier;
      neutral = all_neutral earlier;
      symbol = λ name. defined name earlier;
    }

-- the same either way
same_either : {A : Type 0} (b : Bool) (x : A) → x ≡ (if b then x else x)
same_either true x = refl
same_either false x = refl

-- the LOC in force in a block, behind one statement more
counting-step : (settled : Settled) (earlier : List Settled) (name : List ℕ) (setting : LocationSetting) → settled.setting ≡ setting →
    counting_in name (settled ∷ earlier) ≡ (if same_text settled.block name then counting_behind setting (counting_in name earlier) else counting_in name earlier)
counting-step settled earlier name Unchanged e = rw e (same_either (same_text settled.block name) (counting_in name earlier))
counting-step settled earlier name (Counts counting) e = rw e refl
counting-step settled earlier name Ended e = rw e refl

-- the position of a block, where a statement may have moved it
position-step : (position : Position) (new : Position) (placed here : Bool) →
    (if placed && here then new else position) ≡ (if here then unwrap_or (if placed then Some new else None) position else position)
position-step position new true true = refl
position-step position new true false = refl
position-step position new false true = refl
position-step position new false false = refl

-- a block with its position and its LOC
abbrev as_used : List ℕ → Position → Option Counting → UsedBlock
as_used name position counting = record { name = name; position = position; counting = counting }

either_used : (b : Bool) (name : List ℕ) (p q : Position) (c d : Option Counting) →
    as_used name (if b then p else q) (if b then c else d) ≡ (if b then as_used name p c else as_used name q d)
either_used true name p q c d = refl
either_used false name p q c d = refl

-- a block that is used, behind one statement more in the block in use
used_block-step : (kind : DeckKind) (settled : Settled) (earlier : List Settled) (name : List ℕ) →
    used_block (settled ∷ earlier) name ≡ block_behind settled.block (effect_of kind settled) (used_block earlier name)
used_block-step kind settled earlier name =
    ap₂ (as_used name)
    (position-step (position_in name earlier) (record { end = settled.end; asks = settled.asks }) settled.is_placed (same_text settled.block name))
    (counting-step settled earlier name settled.setting refl)
    ∙ either_used (same_text settled.block name) name _ _ _ _

used_blocks-step : (kind : DeckKind) (settled : Settled) (earlier : List Settled) (names : List (List ℕ)) →
    map (used_block (settled ∷ earlier)) names ≡ map (block_behind settled.block (effect_of kind settled)) (map (used_block earlier) names)
used_blocks-step kind settled earlier [] = refl
used_blocks-step kind settled earlier (name ∷ names) = ap₂ (λ block blocks. block ∷ blocks) (used_block-step kind settled earlier name) (used_blocks-step kind settled earlier names)

-- each statement is in the block that is in use behind those before it
abbrev pub AreInUse : List Settled → Type 0
AreInUse [] = Unit {0}
AreInUse (settled ∷ earlier) = (settled.block ≡ block_in_use (open_names (changes earlier))) × AreInUse earlier

-- the statements of a deck stand in the blocks in use
pub settled_all-in_use : (kind : DeckKind) (statements : List Statement) → AreInUse (settled_all kind statements)
settled_all-in_use kind [] = tt
settled_all-in_use kind (statement ∷ statements) = (refl, settled_all-in_use kind statements)

-- a name that stays unused was unused before
unused-before : (name : List ℕ) (latest : BlockChange) (names : List (List ℕ)) → is_named name (with_opened latest names) ≡ false → (b : Bool) → is_named name names ≡ b → b ≡ false
unused-before name latest names h true e = sym (is_named-opened name latest names e) ∙ h
unused-before name latest names h false e = refl

-- a block in use has another name than one that is unused
unused-other : (block name : List ℕ) (names : List (List ℕ)) → is_named block names ≡ true → is_named name names ≡ false → same_text block name ≡ false
unused-other block name names used unused = elim (same_text_tells block name) [
  | inl h ↦ let same : is_named name names ≡ true = subst (λ n. is_named n names ≡ true) h.1 used in cc
  | inr h ↦ h.0
]

-- nothing stands in a block that is not used, and no LOC is in force there
unused-fresh : (earlier : List Settled) (name : List ℕ) → AreInUse earlier → is_named name (blocks_used (changes earlier)) ≡ false → used_block earlier name ≡ fresh_block name
unused-fresh [] name h unused = refl
unused-fresh (settled ∷ earlier) name h unused =
    let done = changes earlier in
    let before : is_named name (blocks_used done) ≡ false = unused-before name settled.change (blocks_used done) unused (is_named name (blocks_used done)) refl in
    let used : is_named settled.block (blocks_used done) ≡ true = subst (λ n. is_named n (blocks_used done) ≡ true) (sym h.0) (block_in_use-used done) in
    let other : same_text settled.block name ≡ false = unused-other settled.block name (blocks_used done) used before in
    used_block-step Rel settled earlier name ∙ passed other ∙ unused-fresh earlier name h.1 before
  where
    passed : same_text settled.block name ≡ false → block_behind settled.block (effect_of Rel settled) (used_block earlier name) ≡ used_block earlier name
    passed e = rw e refl

-- the open names behind one change more
open_names-step : (change : BlockChange) (done : List BlockChange) → open_names (change ∷ done) ≡ names_behind change (open_names done)
open_names-step NoChange done = refl
open_names-step (Opens name) done = refl
open_names-step Closes done = refl

map-push : {A B : Type 0} (f : A → B) (xs : List A) (x : A) → map f (xs ++ x ∷ []) ≡ map f xs ++ f x ∷ []
map-push f [] x = refl
map-push f (y ∷ xs) x = ap (λ ys. f y ∷ ys) (map-push f xs x)

-- the blocks in use, behind a statement in the block in use
abbrev blocks_moved : DeckKind → Settled → List Settled → List UsedBlock
blocks_moved kind settled earlier = map (block_behind settled.block (effect_of kind settled)) (map (used_block earlier) (blocks_used (changes earlier)))

moved-names : (kind : DeckKind) (settled : Settled) (earlier : List Settled) → names_of_blocks (blocks_moved kind settled earlier) ≡ blocks_used (changes earlier)
moved-names kind settled earlier =
    ap names_of_blocks (sym (used_blocks-step kind settled earlier (blocks_used (changes earlier)))) ∙ names_of_blocks-used (settled ∷ earlier) (blocks_used (changes earlier))

-- a block that an effect on another block leaves
block_behind-other : (name : List ℕ) (effect : Effect) (block : UsedBlock) → same_text name block.name ≡ false → block_behind name effect block ≡ block
block_behind-other name effect block e = rw e refl

-- a block that a USE opens is fresh behind it
opened-fresh : (kind : DeckKind) (settled : Settled) (earlier : List Settled) (name : List ℕ) → AreInUse (settled ∷ earlier) →
    is_named name (blocks_used (changes earlier)) ≡ false → used_block (settled ∷ earlier) name ≡ fresh_block name
opened-fresh kind settled earlier name h unused =
    let names = blocks_used (changes earlier) in
    let used : is_named settled.block names ≡ true = subst (λ n. is_named n names ≡ true) (sym h.0) (block_in_use-used (changes earlier)) in
    used_block-step kind settled earlier name
    ∙ ap (block_behind settled.block (effect_of kind settled)) (unused-fresh earlier name h.1 unused)
    ∙ block_behind-other settled.block (effect_of kind settled) (fresh_block name) (unused-other settled.block name names used unused)

blocks-opened : (kind : DeckKind) (settled : Settled) (earlier : List Settled) (name : List ℕ) → AreInUse (settled ∷ earlier) →
    (b : Bool) → is_named name (blocks_used (changes earlier)) ≡ b →
    map (used_block (settled ∷ earlier)) (if b then blocks_used (changes earlier) else blocks_used (changes earlier) ++ name ∷ [])
    ≡ (if b then blocks_moved kind settled earlier else blocks_moved kind settled earlier ++ fresh_block name ∷ [])
blocks-opened kind settled earlier name h true e = used_blocks-step kind settled earlier (blocks_used (changes earlier))
blocks-opened kind settled earlier name h false e =
    map-push (used_block (settled ∷ earlier)) (blocks_used (changes earlier)) name
    ∙ ap₂ (λ (blocks : List UsedBlock) block. blocks ++ block ∷ []) (used_blocks-step kind settled earlier (blocks_used (changes earlier))) (opened-fresh kind settled earlier name h e)

-- the blocks behind one statement more, where a USE may open a new one
blocks-step : (kind : DeckKind) (settled : Settled) (earlier : List Settled) → AreInUse (settled ∷ earlier) → (change : BlockChange) →
    map (used_block (settled ∷ earlier)) (with_opened change (blocks_used (changes earlier))) ≡ blocks_behind change (blocks_moved kind settled earlier)
blocks-step kind settled earlier h NoChange = used_blocks-step kind settled earlier (blocks_used (changes earlier))
blocks-step kind settled earlier h Closes = used_blocks-step kind settled earlier (blocks_used (changes earlier))
blocks-step kind settled earlier h (Opens name) =
    blocks-opened kind settled earlier name h (is_named name (blocks_used (changes earlier))) refl
    ∙ ap (λ names. if is_named name names then blocks_moved kind settled earlier else blocks_moved kind settled earlier ++ fresh_block name ∷ []) (sym (moved-names kind settled earlier))

-- a state of its parts
abbrev state_as : List (List ℕ) → List UsedBlock → NumberBase → Bool → BlockState
state_as names blocks base neutral = record { open_names = names; blocks = blocks; number_base = base; neutral = neutral }

-- the state behind one statement more is the step of its effect
pub state_after-step : (kind : DeckKind) (settled : Settled) (earlier : List Settled) → AreInUse (settled ∷ earlier) →
    state_after (settled ∷ earlier) ≡ advanced (effect_of kind settled) (state_after earlier)
state_after-step kind settled earlier h =
    ap₂ (λ names blocks. state_as names blocks (number_base_of (settled ∷ earlier)) (all_neutral (settled ∷ earlier)))
    (open_names-step settled.change (changes earlier))
    (blocks-step kind settled earlier h settled.change ∙ ap (λ name. blocks_behind settled.change (map (block_behind name (effect_of kind settled)) (map (used_block earlier) (blocks_used (changes earlier))))) h.0)

-- a statement stands in another block than one that is unused
in_other_block : (settled : Settled) (earlier : List Settled) (name : List ℕ) → AreInUse (settled ∷ earlier) →
    is_named name (blocks_used (changes earlier)) ≡ false → same_text settled.block name ≡ false
in_other_block settled earlier name h unused =
    let names = blocks_used (changes earlier) in
    unused-other settled.block name names (subst (λ n. is_named n names ≡ true) (sym h.0) (block_in_use-used (changes earlier))) unused

-- a statement in another block adds no words
no_words : (kind : DeckKind) (settled : Settled) (earlier : List Settled) (name : List ℕ) → same_text settled.block name ≡ false →
    length_of kind name earlier ≡ 0 → length_of kind name (settled ∷ earlier) ≡ 0
no_words kind settled earlier name other none = rw (other, none) refl

-- the words of a block behind one statement more
abbrev length_now : DeckKind → List Settled → List ℕ → BlockLength
length_now kind settled name = record { name = name; words = length_of kind name settled }

lengths-moved : (kind : DeckKind) (settled : Settled) (earlier : List Settled) (names : List (List ℕ)) →
    map (length_now kind (settled ∷ earlier)) names ≡ map (length_behind settled.block (effect_of kind settled)) (map (length_now kind earlier) names)
lengths-moved kind settled earlier [] = refl
lengths-moved kind settled earlier (name ∷ names) = ap (λ (blocks : List BlockLength). length_now kind (settled ∷ earlier) name ∷ blocks) (lengths-moved kind settled earlier names)

-- a block that is not used has no words
unused-length : (kind : DeckKind) (earlier : List Settled) (name : List ℕ) → AreInUse earlier → is_named name (blocks_used (changes earlier)) ≡ false → length_of kind name earlier ≡ 0
unused-length kind [] name h unused = refl
unused-length kind (settled ∷ earlier) name h unused =
    let done = changes earlier in
    let before : is_named name (blocks_used done) ≡ false = unused-before name settled.change (blocks_used done) unused (is_named name (blocks_used done)) refl in
    no_words kind settled earlier name (in_other_block settled earlier name h before) (unused-length kind earlier name h.1 before)

-- the lengths' names are the blocks'
lengths-names : (kind : DeckKind) (settled : List Settled) (names : List (List ℕ)) → map (λ (block : BlockLength). block.name) (map (length_now kind settled) names) ≡ names
lengths-names kind settled [] = refl
lengths-names kind settled (name ∷ names) = ap (λ others. name ∷ others) (lengths-names kind settled names)

abbrev lengths_moved : DeckKind → Settled → List Settled → List BlockLength
lengths_moved kind settled earlier = map (length_behind settled.block (effect_of kind settled)) (lengths_of kind earlier)

lengths-opened : (kind : DeckKind) (settled : Settled) (earlier : List Settled) (name : List ℕ) → AreInUse (settled ∷ earlier) →
    (b : Bool) → is_named name (blocks_used (changes earlier)) ≡ b →
    map (length_now kind (settled ∷ earlier)) (if b then blocks_used (changes earlier) else blocks_used (changes earlier) ++ name ∷ [])
    ≡ (if b then lengths_moved kind settled earlier else lengths_moved kind settled earlier ++ record { name = name; words = 0 } ∷ [])
lengths-opened kind settled earlier name h true e = lengths-moved kind settled earlier (blocks_used (changes earlier))
lengths-opened kind settled earlier name h false e =
    map-push (length_now kind (settled ∷ earlier)) (blocks_used (changes earlier)) name
    ∙ ap₂ (λ (blocks : List BlockLength) words. blocks ++ record { name = name; words = words } ∷ []) (lengths-moved kind settled earlier (blocks_used (changes earlier)))
    (no_words kind settled earlier name (in_other_block settled earlier name h e) (unused-length kind earlier name h.1 e))

lengths-step : (kind : DeckKind) (settled : Settled) (earlier : List Settled) → AreInUse (settled ∷ earlier) → (change : BlockChange) →
    map (length_now kind (settled ∷ earlier)) (with_opened change (blocks_used (changes earlier))) ≡ lengths_behind change (lengths_moved kind settled earlier)
lengths-step kind settled earlier h NoChange = lengths-moved kind settled earlier (blocks_used (changes earlier))
lengths-step kind settled earlier h Closes = lengths-moved kind settled earlier (blocks_used (changes earlier))
lengths-step kind settled earlier h (Opens name) =
    lengths-opened kind settled earlier name h (is_named name (blocks_used (changes earlier))) refl
    ∙ ap (λ names. if is_named name names then lengths_moved kind settled earlier else lengths_moved kind settled earlier ++ record { name = name; words = 0 } ∷ [])
    (sym (ap (λ (blocks : List BlockLength). map (λ (block : BlockLength). block.name) blocks) (sym (lengths-moved kind settled earlier (blocks_used (changes earlier)))) ∙ lengths-names kind (settled ∷ earlier) (blocks_used (changes earlier))))

-- the lengths behind one statement more are the step of its effect
pub lengths_of-step : (kind : DeckKind) (settled : Settled) (earlier : List Settled) → AreInUse (settled ∷ earlier) →
    lengths_of kind (settled ∷ earlier) ≡ lengths_advanced settled.block (effect_of kind settled) (lengths_of kind earlier)
lengths_of-step kind settled earlier h = lengths-step kind settled earlier h settled.change
