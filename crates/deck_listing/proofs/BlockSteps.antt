-- The words of all blocks: a statement of one block changes the words at its place alone.
use Rattle.std.{proofs.Common.{◌≡◌, ℕ, zero, suc, ◌+◌, ◌<◌, false, List, [], ◌∷◌, ◌++◌, Option, Some, None, length, get_or, length-set, map, refl, sym, ap, ap₂, subst, ◌∙◌, inl, inr, arith}, specs.Prelude.{Vec, slice_get, slice_set}, specs.List.{AllByRecursion, AllZip}, proofs.lemmas.List.length-append, proofs.lemmas.Map.Keys.{IsDistinct-head, IsDistinct-tail}, proofs.lemmas.Option.{slice_get-get_or, slice_get_read, slice_get_within}}
use Rattle.definitions.{specs.Characters.same_text, specs.Lengths.BlockRow, specs.Objects.Object, specs.Words.{Coded, Linking, Parcel, runs_of, stored, words_in}, specs.declared.deck_kind.DeckKind.DeckKind, proofs.TextLaws.{same_text-refl, same_text_tells}}
use Rattle.deck_objects.specs.declared.lines.FieldLists.{FieldLists}
use Rattle.parcel_packer.specs.{Joins.Packing.{Packed, empty_run}, declared.word_spans.WordSpan.WordSpan}
use Rattle.deck_listing.{specs.Joins.BlockWords.{AreWhole, AreWordsOf, IsFilledWith}, specs.Joins.Walking.{AreEmpty, DoNamesDiffer, DoesFollow, DoesFollowAll, HasRuns, HaveRuns}, proofs.RunSteps.other-runs}
use Rattle.deck_objects.specs.Joins.CodedLines.{IsNamed}
use Rattle.deck_objects.specs.declared.lines.CodedLine as lines

-- what is put at a place stands there
set_here : {X : Type 0} (xs : List X) (i : ℕ) (x y : X) → slice_get (slice_set xs i x) i ≡ Some y → x ≡ y
set_here [] i x y e = cc
set_here (z ∷ xs) zero x y e = cc
set_here (z ∷ xs) (suc i) x y e = set_here xs i x y e

-- and all else stays
set_other : {X : Type 0} (xs : List X) (i j : ℕ) (x y : X) → (i ≡ j → ⊥) → slice_get (slice_set xs i x) j ≡ Some y → slice_get xs j ≡ Some y
set_other [] i j x y apart e = cc
set_other (z ∷ xs) zero zero x y apart e = absurd (apart refl)
set_other (z ∷ xs) zero (suc j) x y apart e = e
set_other (z ∷ xs) (suc i) zero x y apart e = e
set_other (z ∷ xs) (suc i) (suc j) x y apart e = set_other xs i j x y (λ k. apart (ap suc k)) e

-- a block behind one of another name
pub behind_other : (name : List ℕ) (rows : List BlockRow) (j : ℕ) (row : BlockRow) → AllByRecursion (λ other. same_text name other ≡ false) (map (λ (r : BlockRow). r.name) rows) →
    slice_get rows j ≡ Some row → same_text name row.name ≡ false
behind_other name [] j row all e = cc
behind_other name (first ∷ rows) zero row all e = let here : first ≡ row = cc in subst (λ (r : BlockRow). same_text name r.name ≡ false) here all.0
behind_other name (first ∷ rows) (suc j) row all e = behind_other name rows j row all.1 e

never : (name : List ℕ) → same_text name name ≡ false → ⊥
never name e = let same = same_text-refl name in cc

-- blocks of different names stand at one place each
pub once : (rows : List BlockRow) (i j : ℕ) (a b : BlockRow) → DoNamesDiffer rows → slice_get rows i ≡ Some a → slice_get rows j ≡ Some b → a.name ≡ b.name → i ≡ j
once [] i j a b differ e f same = cc
once (row ∷ rows) zero zero a b differ e f same = refl
once (row ∷ rows) zero (suc j) a b differ e f same =
    let here : row ≡ a = cc in
    let other = behind_other row.name rows j b (IsDistinct-head same_text row.name (map (λ (r : BlockRow). r.name) rows) differ) f in
    absurd (never b.name (subst (λ name. same_text name b.name ≡ false) (ap (λ (r : BlockRow). r.name) here ∙ same) other))
once (row ∷ rows) (suc i) zero a b differ e f same =
    let here : row ≡ b = cc in
    let other = behind_other row.name rows i a (IsDistinct-head same_text row.name (map (λ (r : BlockRow). r.name) rows) differ) e in
    absurd (never a.name (subst (λ name. same_text name a.name ≡ false) (ap (λ (r : BlockRow). r.name) here ∙ sym same) other))
once (row ∷ rows) (suc i) (suc j) a b differ e f same = ap suc (once rows i j a b (IsDistinct-tail same_text row.name (map (λ (r : BlockRow). r.name) rows) differ) e f same)

-- the block that a statement is in
record IsRowOf (rows : List BlockRow) (i : ℕ) (name : List ℕ) : Type 0 where
  row : BlockRow
  there : slice_get rows i ≡ Some row
  named : row.name ≡ name

row_of : (rows : List BlockRow) (i : ℕ) (name : List ℕ) → IsNamed (slice_get rows i) name → IsRowOf rows i name
row_of rows i name h = by_found (slice_get rows i) refl h
  where
    by_found : (o : Option BlockRow) → slice_get rows i ≡ o → IsNamed o name → IsRowOf rows i name
    by_found None e n = absurd n
    by_found (Some row) e n = record { row = row; there = e; named = n }

-- the place of a statement's block is one of the words of all blocks
pub place-within : (kind : DeckKind) (rows : List BlockRow) (lists : FieldLists) (linking : Linking) (line : lines.CodedLine) (packed : List Packed) (coded : Coded) (earlier : List Coded) →
    DoesFollowAll kind rows lists linking line packed coded earlier → line.block < length packed
place-within kind rows lists linking line packed coded earlier follows =
    let found = row_of rows line.block coded.settled.block follows.is_coded.block in
    let within = slice_get_within rows line.block found.row found.there in
    let same = follows.runs.same in
    omega (arith, within, same)

-- a statement follows those of its block
pub one-follows : (kind : DeckKind) (rows : List BlockRow) (lists : FieldLists) (linking : Linking) (line : lines.CodedLine) (packed : List Packed) (words : Packed) (coded : Coded) (earlier : List Coded) →
    words ≡ get_or packed line.block words → DoesFollowAll kind rows lists linking line packed coded earlier → DoesFollow kind rows lists linking coded.settled.block line words coded earlier
one-follows kind rows lists linking line packed words coded earlier e follows =
    let found = row_of rows line.block coded.settled.block follows.is_coded.block in
    let there = slice_get_read packed (length packed) line.block words refl (place-within kind rows lists linking line packed coded earlier follows) e in
    record {
      is_coded = follows.is_coded;
      laid = follows.laid;
      reach = follows.reach;
      runs = subst (λ block. HasRuns kind linking block earlier words) found.named (follows.runs.each line.block found.row words found.there there);
    }

-- the words of all blocks with a statement more, which changes those of its own
pub all-runs : (kind : DeckKind) (rows : List BlockRow) (lists : FieldLists) (linking : Linking) (line : lines.CodedLine) (packed : List Packed) (new : Packed) (coded : Coded) (earlier : List Coded) →
    DoNamesDiffer rows → DoesFollowAll kind rows lists linking line packed coded earlier → HasRuns kind linking coded.settled.block (coded ∷ earlier) new →
    HaveRuns kind linking rows (coded ∷ earlier) (slice_set packed line.block new)
all-runs kind rows lists linking line packed new coded earlier differ follows put = record {
  same = length-set packed line.block new ∙ follows.runs.same;
  each = by_row;
}
  where
    by_row : (i : ℕ) (row : BlockRow) (words : Packed) → slice_get rows i ≡ Some row → slice_get (slice_set packed line.block new) i ≡ Some words → HasRuns kind linking row.name (coded ∷ earlier) words
    by_row i row words e f =
        let found = row_of rows line.block coded.settled.block follows.is_coded.block in
        elim (same_text_tells coded.settled.block row.name) [
          | inl same ↦
              let at : line.block ≡ i = once rows line.block i found.row row differ found.there e (found.named ∙ same.1) in
              let is : new ≡ words = set_here packed i new words (subst (λ place. slice_get (slice_set packed place new) i ≡ Some words) at f) in
              subst (HasRuns kind linking row.name (coded ∷ earlier)) is (subst (λ block. HasRuns kind linking block (coded ∷ earlier) new) same.1 put)
          | inr other ↦
              let apart = λ (k : line.block ≡ i). elsewhere found.row row found.named (subst (λ place. slice_get rows place ≡ Some found.row) k found.there) e other.0 in
              other-runs kind linking row.name words coded earlier (follows.runs.each i row words e (set_other packed line.block i new words apart f)) other.0
        ]
      where
        elsewhere : (a b : BlockRow) → a.name ≡ coded.settled.block → slice_get rows i ≡ Some a → slice_get rows i ≡ Some b → same_text coded.settled.block b.name ≡ false → ⊥
        elsewhere a b named g h other =
            let same : a ≡ b = cc in
            never b.name (subst (λ name. same_text name b.name ≡ false) (sym named ∙ ap (λ (r : BlockRow). r.name) same) other)

-- blocks in which nothing lies, before the first statement
pub empty-runs : (kind : DeckKind) (linking : Linking) (rows : List BlockRow) (packed : List Packed) → AreEmpty kind (length rows) packed → HaveRuns kind linking rows [] packed
empty-runs kind linking rows packed empty = record {
  same = empty.same;
  each = λ i row words e f. subst (HasRuns kind linking row.name []) (sym (empty.each i words f)) (record { kind_is = refl; runs = refl; whole = refl; empty = refl; place = omega arith });
}

-- one block more in which nothing lies
pub empty-more : (kind : DeckKind) (count : ℕ) (old new : List Packed) (words : Packed) → AreEmpty kind count old → words ≡ record { kind = kind; run = empty_run; earlier = [] } → new ≡ old ++ words ∷ [] →
    AreEmpty kind (count + 1) new
empty-more kind count old new words empty e n = record {
  same = ap length n ∙ length-append old (words ∷ []) ∙ (let same = empty.same in omega (arith, same));
  each = λ i found f. pushed old i found empty.each (subst (λ all. slice_get all i ≡ Some found) n f);
}
  where
    pushed : (all : List Packed) (i : ℕ) (found : Packed) → ((i : ℕ) (w : Packed) → slice_get all i ≡ Some w → w ≡ record { kind = kind; run = empty_run; earlier = [] }) →
        slice_get (all ++ words ∷ []) i ≡ Some found → found ≡ record { kind = kind; run = empty_run; earlier = [] }
    pushed [] zero found each f = let is : words ≡ found = cc in sym is ∙ e
    pushed [] (suc i) found each f = cc
    pushed (first ∷ all) zero found each f = each zero found f
    pushed (first ∷ all) (suc i) found each f = pushed all i found (λ j. each (suc j)) f

-- what holds of two lists place by place holds at a place
pub zip-at : {A B : Type 0} (R : A → B → Type 0) (xs : List A) (ys : List B) (i : ℕ) (x : A) (y : B) → AllZip R xs ys → slice_get xs i ≡ Some x → slice_get ys i ≡ Some y → R x y
zip-at R [] ys i x y all e f = cc
zip-at R (a ∷ xs) [] i x y all e f = absurd all
zip-at R (a ∷ xs) (b ∷ ys) zero x y all e f = let first : a ≡ x = cc in let second : b ≡ y = cc in subst (λ z. R z y) first (subst (R a) second all.0)
zip-at R (a ∷ xs) (b ∷ ys) (suc i) x y all e f = zip-at R xs ys i x y all.1 e f

-- and of two lists with one more each
pub zip-more : {A B : Type 0} (R : A → B → Type 0) (xs : List A) (ys : List B) (x : A) (y : B) → AllZip R xs ys → R x y → AllZip R (xs ++ x ∷ []) (ys ++ y ∷ [])
zip-more R [] [] x y all h = (h, tt)
zip-more R [] (b ∷ ys) x y all h = absurd all
zip-more R (a ∷ xs) [] x y all h = absurd all
zip-more R (a ∷ xs) (b ∷ ys) x y all h = (all.0, zip-more R xs ys x y all.1 h)

-- in none of the blocks a parcel is open
pub runs-whole : (kind : DeckKind) (linking : Linking) (rows : List BlockRow) (coded : List Coded) (packed : List Packed) → HaveRuns kind linking rows coded packed → AreWhole packed
runs-whole kind linking rows coded packed runs i words e =
    let within = slice_get_within packed i words e in
    let same = runs.same in
    let row : BlockRow = get_or rows i (record { name = []; base = 0; words = 0 }) in
    (runs.each i row words (slice_get-get_or rows i (record { name = []; base = 0; words = 0 }) (omega arith)) e).whole

-- the words of the blocks are those of the object
pub filled-words : {Z : Type 0} (kind : DeckKind) (linking : Linking) (object : Object) (rows : List BlockRow) (packed : List Packed) (blocks : List (Vec WordSpan Z)) → kind ≡ object.kind →
    HaveRuns kind linking rows object.coded packed → AllZip IsFilledWith packed blocks → AllZip (AreWordsOf linking object) rows blocks
filled-words kind linking object [] [] [] k runs filled = tt
filled-words kind linking object [] [] (spans ∷ blocks) k runs filled = absurd filled
filled-words kind linking object [] (words ∷ packed) blocks k runs filled = let same = runs.same in absurd (omega arith)
filled-words kind linking object (row ∷ rows) [] blocks k runs filled = let same = runs.same in absurd (omega arith)
filled-words kind linking object (row ∷ rows) (words ∷ packed) [] k runs filled = absurd filled
filled-words kind linking object (row ∷ rows) (words ∷ packed) (spans ∷ blocks) k runs filled =
    let has = runs.each 0 row words refl refl in (
      record {
        words = filled.0.words ∙ ap₂ (λ (n : DeckKind) (rs : List (List Parcel)). stored n rs (words_in n rs)) (has.kind_is ∙ k) (has.runs ∙ ap (λ n. runs_of n linking row.name object.coded) k);
        rise = filled.0.rise;
      },
      filled-words kind linking object rows packed blocks k (record { same = (let same = runs.same in omega arith); each = λ i. runs.each (suc i) }) filled.1,
    )
