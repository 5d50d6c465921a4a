-- The lengths of blocks of different names: one block is changed, or one more comes behind them.
use Rattle.std.{proofs.Common.{ℕ, ◌≡◌, ◌<◌, ◌≤◌, Bool, true, false, ◌||◌, List, [], ◌∷◌, ◌++◌, length, zero, suc, max, Some, None, refl, sym, ◌∙◌, ap, ap₂, subst, arith}, proofs.lemmas.List.{length-map, map-append}, specs.Prelude.{slice_get, map, nat_lt, is_some, if◌then◌else◌}, specs.List.{AllByRecursion, IsDistinct, list_any}, specs.Map.{keys_of, lookup}, proofs.lemmas.Bool.{leb-true, or_parts}, proofs.lemmas.Map.Keys.{IsDistinct-head, IsDistinct-tail}, proofs.lemmas.Map.Made.is_some-lookup}
use Rattle.indexmap.specs.IndexMap.{insert_entry, set_value_at}
use Rattle.definitions.{specs.Characters.same_text, specs.Blocks.{is_named, is_accepted}, specs.Settled.{BlockChange, NoChange, Opens, Closes}, specs.Lengths.BlockLength, specs.Laws.States.{Effect, lengths_behind, lengths_advanced}, proofs.TextLaws.same_text-refl}
use Rattle.use_blocks.specs.Joins.{BlockLengths.{block_names, has_name, lengths_shown, opened_by, reaching}, NameKeys.same_text_equivalence}

-- a block of this name, and so many words
abbrev block_of : List ℕ → ℕ → BlockLength
block_of name words = record { name = name; words = words }

-- a block among blocks that have not this name has another
other_name : (name : List ℕ) (blocks : List BlockLength) (i : ℕ) (b : BlockLength) → is_named name (block_names blocks) ≡ false → slice_get blocks i ≡ Some b → same_text name b.name ≡ false
other_name name [] i b h e = cc
other_name name (c ∷ cs) zero b h e =
    let is : c ≡ b = cc in subst (λ (d : BlockLength). same_text name d.name ≡ false) is (or_parts (same_text name c.name) (is_named name (block_names cs)) h).0
other_name name (c ∷ cs) (suc i) b h e = other_name name cs i b (or_parts (same_text name c.name) (is_named name (block_names cs)) h).1 e

-- a block of another name reaches nothing
reaching-other : (name : List ℕ) (words : ℕ) (c : BlockLength) → same_text name c.name ≡ false → c ≡ reaching name words c
reaching-other name words c e = rw e (ap (block_of c.name) (let h : c.words ≡ max 0 c.words = omega arith in h))

reaching-none : (name : List ℕ) (words : ℕ) (es : List (List ℕ × ℕ)) → AllByRecursion (λ (other : List ℕ). same_text name other ≡ false) (keys_of es) →
    lengths_shown es ≡ map (reaching name words) (lengths_shown es)
reaching-none name words [] h = refl
reaching-none name words (e ∷ es) h = ap₂ (λ (x : BlockLength) (xs : List BlockLength). x ∷ xs) (reaching-other name words (block_of e.0 e.1) h.0) (reaching-none name words es h.1)

-- a block among others whose keys are not this name has another
other_key : (name : List ℕ) (es : List (List ℕ × ℕ)) (i : ℕ) (b : BlockLength) → AllByRecursion (λ (other : List ℕ). same_text name other ≡ false) (keys_of es) → slice_get (lengths_shown es) i ≡ Some b →
    same_text name b.name ≡ false
other_key name [] i b h e = cc
other_key name (c ∷ es) zero b h e = let is : block_of c.0 c.1 ≡ b = cc in subst (λ (d : BlockLength). same_text name d.name ≡ false) is h.0
other_key name (c ∷ es) (suc i) b h e = other_key name es i b h.1 e

-- the words of a block are those of its entry
pub words-at : (es : List (List ℕ × ℕ)) (i : ℕ) (entry : List ℕ × ℕ) (b : BlockLength) → slice_get es i ≡ Some entry → slice_get (lengths_shown es) i ≡ Some b → entry.1 ≡ b.words
words-at [] i entry b h k = cc
words-at (c ∷ es) zero entry b h k =
    let here : c ≡ entry = cc in
    let there : block_of c.0 c.1 ≡ b = cc in
    ap (λ (p : List ℕ × ℕ). p.1) (sym here) ∙ ap (λ (d : BlockLength). d.words) there
words-at (c ∷ es) (suc i) entry b h k = words-at es i entry b h k

-- one block that reaches words is the one of its name
pub reached-at : (es : List (List ℕ × ℕ)) (i : ℕ) (b : BlockLength) (words : ℕ) → IsDistinct same_text (keys_of es) → slice_get (lengths_shown es) i ≡ Some b →
    lengths_shown (set_value_at es i (max words b.words)) ≡ map (reaching b.name words) (lengths_shown es)
reached-at [] i b words h e = refl
reached-at (c ∷ es) zero b words h e =
    let is : block_of c.0 c.1 ≡ b = cc in
    subst (λ (d : BlockLength). block_of c.0 (max words d.words) ∷ lengths_shown es ≡ map (reaching d.name words) (lengths_shown (c ∷ es))) is
    (ap₂ (λ (x : BlockLength) (xs : List BlockLength). x ∷ xs) (here (block_of c.0 c.1)) (reaching-none c.0 words es (IsDistinct-head same_text c.0 (keys_of es) h)))
  where
    here : (d : BlockLength) → block_of d.name (max words d.words) ≡ reaching d.name words d
    here d = rw (same_text-refl d.name) refl
reached-at (c ∷ es) (suc i) b words h e =
    let other : same_text b.name c.0 ≡ false = same_text_equivalence.symm b.name c.0 ∙ other_key c.0 es i b (IsDistinct-head same_text c.0 (keys_of es) h) e in
    ap₂ (λ (x : BlockLength) (xs : List BlockLength). x ∷ xs) (reaching-other b.name words (block_of c.0 c.1) other) (reached-at es i b words (IsDistinct-tail same_text c.0 (keys_of es) h) e)

-- a map has a name where a block has it
pub has_name-shown : (name : List ℕ) (es : List (List ℕ × ℕ)) → is_some (lookup (same_text name) es) ≡ has_name name (lengths_shown es)
has_name-shown name es = is_some-lookup (same_text name) es ∙ named es
  where
    named : (es : List (List ℕ × ℕ)) → list_any (same_text name) (keys_of es) ≡ has_name name (lengths_shown es)
    named [] = refl
    named (e ∷ es) = ap (λ t. same_text name e.0 || t) (named es)

-- a block of a new name comes behind the others
pub shown-new : (name : List ℕ) (es : List (List ℕ × ℕ)) → has_name name (lengths_shown es) ≡ false → lengths_shown (insert_entry same_text es name 0) ≡ lengths_shown es ++ block_of name 0 ∷ []
shown-new name [] h = refl
shown-new name (e ∷ es) h =
    let parts = or_parts (same_text name e.0) (has_name name (lengths_shown es)) h in
    rw parts.0 (ap (λ (bs : List BlockLength). block_of e.0 e.1 ∷ bs) (shown-new name es parts.1))

-- the names that blocks have, asked block by block
pub is_named_blocks : (name : List ℕ) (blocks : List BlockLength) → has_name name blocks ≡ is_named name (block_names blocks)
is_named_blocks name [] = refl
is_named_blocks name (c ∷ cs) = ap (λ t. same_text name c.name || t) (is_named_blocks name cs)

-- an accepted block of a new name is at most the 64th
pub accepted-few : (name : List ℕ) (blocks : List BlockLength) → is_accepted name (block_names blocks) ≡ true → is_named name (block_names blocks) ≡ false → length blocks < 64
accepted-few name blocks a u =
    let few = length (block_names blocks) in
    let h = rw u at a in
    let below : suc few ≤ 64 = leb-true (suc few) 64 h in
    let same : few ≡ length blocks = length-map blocks (λ (block : BlockLength). block.name) in
    omega arith

-- blocks that reach words keep their names
pub names-reaching : (name : List ℕ) (words : ℕ) (blocks : List BlockLength) → block_names (map (reaching name words) blocks) ≡ block_names blocks
names-reaching name words [] = refl
names-reaching name words (c ∷ cs) = ap (λ names. c.name ∷ names) (names-reaching name words cs)

-- where a block is opened before another reaches words
pub opened-reached : (blocks : List BlockLength) (i : ℕ) (b : BlockLength) (name : List ℕ) (words : ℕ) → slice_get blocks i ≡ Some b →
    map (reaching b.name words) (lengths_behind (Opens name) blocks) ≡ lengths_behind (Opens name) (map (reaching b.name words) blocks)
opened-reached blocks i b name words e =
    step (is_named name (block_names blocks)) refl
    ∙ ap (λ names. if is_named name names then map (reaching b.name words) blocks else map (reaching b.name words) blocks ++ block_of name 0 ∷ []) (sym (names-reaching b.name words blocks))
  where
    step : (t : Bool) → is_named name (block_names blocks) ≡ t →
        map (reaching b.name words) (if t then blocks else blocks ++ block_of name 0 ∷ [])
        ≡ (if t then map (reaching b.name words) blocks else map (reaching b.name words) blocks ++ block_of name 0 ∷ [])
    step true is = refl
    step false is =
        map-append (reaching b.name words) blocks (block_of name 0 ∷ [])
        ∙ ap (λ (block : BlockLength). map (reaching b.name words) blocks ++ block ∷ [])
        (sym (reaching-other b.name words (block_of name 0) (same_text_equivalence.symm b.name name ∙ other_name name blocks i b is e)))

-- a block stands where it stood when one more is opened
pub opened-at : (blocks : List BlockLength) (i : ℕ) (b : BlockLength) (name : List ℕ) → slice_get blocks i ≡ Some b → slice_get (lengths_behind (Opens name) blocks) i ≡ Some b
opened-at blocks i b name e = step (is_named name (block_names blocks))
  where
    pushed : (bs : List BlockLength) (i : ℕ) (x : BlockLength) → slice_get bs i ≡ Some b → slice_get (bs ++ x ∷ []) i ≡ Some b
    pushed [] i x e = cc
    pushed (c ∷ cs) zero x e = e
    pushed (c ∷ cs) (suc i) x e = pushed cs i x e

    step : (t : Bool) → slice_get (if t then blocks else blocks ++ block_of name 0 ∷ []) i ≡ Some b
    step true = e
    step false = pushed blocks i (block_of name 0) e

-- a statement that opens a block
pub advanced-opened : (blocks : List BlockLength) (i : ℕ) (b : BlockLength) (name : List ℕ) (words : ℕ) (effect : Effect) → slice_get blocks i ≡ Some b →
    effect.reached ≡ words → opened_by effect.change ≡ Some name →
    map (reaching b.name words) (lengths_behind (Opens name) blocks) ≡ lengths_advanced b.name effect blocks
advanced-opened blocks i b name words effect e r o = step effect.change refl o
  where
    step : (change : BlockChange) → effect.change ≡ change → opened_by change ≡ Some name →
        map (reaching b.name words) (lengths_behind (Opens name) blocks) ≡ lengths_advanced b.name effect blocks
    step NoChange is o = cc
    step Closes is o = cc
    step (Opens other) is o =
        let same : other ≡ name = cc in
        opened-reached blocks i b name words e
        ∙ ap₂ (λ (n : List ℕ) w. lengths_behind (Opens n) (map (reaching b.name w) blocks)) (sym same) (sym r)
        ∙ ap (λ change. lengths_behind change (map (reaching b.name effect.reached) blocks)) (sym is)

-- a statement that opens none
pub advanced-unopened : (blocks : List BlockLength) (name : List ℕ) (words : ℕ) (effect : Effect) → effect.reached ≡ words → opened_by effect.change ≡ None →
    map (reaching name words) blocks ≡ lengths_advanced name effect blocks
advanced-unopened blocks name words effect r o = step effect.change refl o
  where
    step : (change : BlockChange) → effect.change ≡ change → opened_by change ≡ None → map (reaching name words) blocks ≡ lengths_advanced name effect blocks
    step (Opens other) is o = cc
    step change is o = ap (λ w. map (reaching name w) blocks) (sym r) ∙ ap (λ change. lengths_behind change (map (reaching name effect.reached) blocks)) (sym is)

-- the blocks with one of a name that none of them has
pub opened-new : (name : List ℕ) (blocks shown : List BlockLength) → blocks ≡ shown → has_name name blocks ≡ false → blocks ++ block_of name 0 ∷ [] ≡ lengths_behind (Opens name) shown
opened-new name blocks shown e h =
    let unused : is_named name (block_names shown) ≡ false = sym (is_named_blocks name shown) ∙ (ap (has_name name) (sym e) ∙ h) in
    rw unused (ap (λ (bs : List BlockLength). bs ++ block_of name 0 ∷ []) e)

-- the blocks where one of them has the name
pub opened-old : (name : List ℕ) (blocks shown : List BlockLength) → blocks ≡ shown → has_name name blocks ≡ true → shown ≡ lengths_behind (Opens name) shown
opened-old name blocks shown e h =
    let used : is_named name (block_names shown) ≡ true = sym (is_named_blocks name shown) ∙ (ap (has_name name) (sym e) ∙ h) in
    rw used refl

-- a name that a block has is accepted
pub accepted-old : (name : List ℕ) (blocks : List BlockLength) → has_name name blocks ≡ true → true ≡ is_accepted name (block_names blocks)
accepted-old name blocks h = let used : is_named name (block_names blocks) ≡ true = sym (is_named_blocks name blocks) ∙ h in rw used refl

-- a new name is accepted where there are not yet 64 blocks
pub accepted-new : (name : List ℕ) (blocks : List BlockLength) (count : ℕ) → count ≡ length blocks → has_name name blocks ≡ false → nat_lt count 64 ≡ is_accepted name (block_names blocks)
accepted-new name blocks count is h =
    let unused : is_named name (block_names blocks) ≡ false = sym (is_named_blocks name blocks) ∙ h in
    let same : count ≡ length (block_names blocks) = is ∙ sym (length-map blocks (λ (block : BlockLength). block.name)) in
    rw unused (ap (λ n. nat_lt n 64) same)

-- a map shows as many blocks as it has entries
pub shown-length : (es : List (List ℕ × ℕ)) → length (lengths_shown es) ≡ length es
shown-length es = length-map es (λ (e : List ℕ × ℕ). block_of e.0 e.1)
