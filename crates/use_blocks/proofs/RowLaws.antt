-- The rows of a deck in a map, and where they are found there.
use Rattle.std.{proofs.Common.{◌≡◌, ◌+◌, ℕ, Bool, true, false, cond, List, [], ◌∷◌, ◌++◌, Option, Some, None, length, refl, sym, ap, subst, append_assoc, arith, ◌∙◌}, specs.Prelude.{map, if◌then◌else◌}, specs.Cmp.IsEquivalence, specs.Cmp.Lexicographic.options_equiv, specs.List.{AllByRecursion, IsDistinct}, specs.Map.{keys_of, lookup, values_of}, specs.Option.{option_eq, option_map_or}, proofs.lemmas.List.append-nil, proofs.lemmas.Map.Keys.{IsDistinct-cons, IsDistinct-head, IsDistinct-tail}}
use Rattle.indexmap.specs.IndexMap.{insert_entry}
use Rattle.definitions.specs.{Blocks.literals_block, Characters.same_text, Lengths.{BlockLength, BlockRow, base_in, local_words, placed_row, rows_from, rows_of, total_length}}
use Rattle.use_blocks.specs.Joins.{BlockLengths.lengths_shown, KeyedRows.{KeyedRow, IsKeyed, AreKeyed, keyed_rows, literals_base}, NameKeys.same_text_equivalence}

-- whether two rows stand under one key
abbrev is_same_key : Option (List ℕ) → Option (List ℕ) → Bool
is_same_key = option_eq same_text

same_key_equivalence : IsEquivalence is_same_key
same_key_equivalence = options_equiv same_text_equivalence

-- a key behind others, none of which is the same, comes behind them
key-joins : (before : List KeyedRow) (key : Option (List ℕ)) (row : BlockRow) (behind : List KeyedRow) → IsDistinct is_same_key (keys_of (before ++ (key, row) ∷ behind)) →
    insert_entry is_same_key before key row ≡ before ++ (key, row) ∷ []
key-joins [] key row behind differ = refl
key-joins (e ∷ before) key row behind differ =
    let keys = keys_of (before ++ (key, row) ∷ behind) in
    let other : is_same_key key e.0 ≡ false = same_key_equivalence.symm key e.0 ∙ at_it before (IsDistinct-head is_same_key e.0 keys differ) in
    ap (λ (t : Bool). if t then (e.0, row) ∷ before else e ∷ insert_entry is_same_key before key row) other
    ∙ ap (λ (es : List KeyedRow). e ∷ es) (key-joins before key row behind (IsDistinct-tail is_same_key e.0 keys differ))
  where
    at_it : (others : List KeyedRow) → AllByRecursion (λ (k : Option (List ℕ)). is_same_key e.0 k ≡ false) (keys_of (others ++ (key, row) ∷ behind)) → is_same_key e.0 key ≡ false
    at_it [] all = all.0
    at_it (other ∷ others) all = at_it others all.1

-- the rows of blocks stand under the names of these
keys-rows : (base : ℕ) (entries : List (List ℕ × ℕ)) → keys_of (keyed_rows (rows_from base (lengths_shown entries))) ≡ map Some (keys_of entries)
keys-rows base [] = refl
keys-rows base (e ∷ es) =
    let block : BlockLength = record { name = e.0; words = e.1 } in
    ap (λ (keys : List (Option (List ℕ))). Some e.0 ∷ keys) (keys-rows (base + local_words (placed_row base block)) es)

-- and these differ
others-differ : (name : List ℕ) (names : List (List ℕ)) → AllByRecursion (λ (other : List ℕ). same_text name other ≡ false) names →
    AllByRecursion (λ (k : Option (List ℕ)). is_same_key (Some name) k ≡ false) (map Some names)
others-differ name [] all = tt
others-differ name (other ∷ names) all = (all.0, others-differ name names all.1)

keys-differ : (names : List (List ℕ)) → IsDistinct same_text names → IsDistinct is_same_key (map Some names)
unfolding IsDistinct
keys-differ [] differ = tt
keys-differ (name ∷ names) differ =
    IsDistinct-cons is_same_key (Some name) (map Some names) (others-differ name names (IsDistinct-head same_text name names differ)) (keys-differ names (IsDistinct-tail same_text name names differ))

-- the row of a block more in its place
pub placed-more : (before after : List KeyedRow) (base : ℕ) (block : BlockLength) (left entries : List (List ℕ × ℕ)) →
    before ++ keyed_rows (rows_from base (block ∷ lengths_shown left)) ≡ keyed_rows (rows_from 0 (lengths_shown entries)) → IsDistinct same_text (keys_of entries) →
    after ≡ insert_entry is_same_key before (Some block.name) (placed_row base block) →
    after ++ keyed_rows (rows_from (base + local_words (placed_row base block)) (lengths_shown left)) ≡ keyed_rows (rows_from 0 (lengths_shown entries))
placed-more before after base block left entries all differ added =
    let row = placed_row base block in
    let behind = keyed_rows (rows_from (base + local_words row) (lengths_shown left)) in
    let keys : keys_of (before ++ (Some block.name, row) ∷ behind) ≡ map Some (keys_of entries) = ap keys_of all ∙ keys-rows 0 entries in
    let apart = subst (λ (l : List (Option (List ℕ))). IsDistinct is_same_key l) (sym keys) (keys-differ (keys_of entries) differ) in
    ap (λ (l : List KeyedRow). l ++ behind) (added ∙ key-joins before (Some block.name) row behind apart)
    ∙ append_assoc before ((Some block.name, row) ∷ []) behind
    ∙ all

-- the literals join the blocks, whatever names these have
pub literals-join : (rows : List BlockRow) (row : BlockRow) → insert_entry is_same_key (keyed_rows rows) None row ≡ keyed_rows rows ++ (None, row) ∷ []
literals-join [] row = refl
literals-join (first ∷ rows) row = ap (λ (es : List KeyedRow). (Some first.name, first) ∷ es) (literals-join rows row)

-- the rows with no literals behind them, and with some
pub rows-alone : (blocks : List BlockLength) (literals : List ℕ) → length literals ≡ 0 → rows_from 0 blocks ≡ rows_of blocks literals
rows-alone blocks [] e = sym (append-nil (rows_from 0 blocks))
rows-alone blocks (word ∷ words) e = absurd (omega (arith, e))

abbrev pub literals_behind : List BlockRow → List ℕ → BlockRow
literals_behind rows literals = record { name = literals_block; base = total_length rows; words = length literals }

pub rows-before : (blocks : List BlockLength) (literals : List ℕ) → (length literals ≡ 0 → ⊥) →
    rows_from 0 blocks ++ literals_behind (rows_from 0 blocks) literals ∷ [] ≡ rows_of blocks literals
rows-before blocks [] some = absurd (some refl)
rows-before blocks (word ∷ words) some = refl

-- what stands in the map are the rows
pub rows-shown : (rows : List BlockRow) → values_of (keyed_rows rows) ≡ rows
rows-shown [] = refl
rows-shown (row ∷ rows) = ap (λ (l : List BlockRow). row ∷ l) (rows-shown rows)

pub literals-shown : (rows : List BlockRow) (row : BlockRow) → values_of (keyed_rows rows ++ (None, row) ∷ []) ≡ rows ++ row ∷ []
literals-shown [] row = refl
literals-shown (first ∷ rows) row = ap (λ (l : List BlockRow). first ∷ l) (literals-shown rows row)

-- each under its key
pub rows-keyed : (rows : List BlockRow) → AreKeyed (keyed_rows rows)
rows-keyed [] = tt
rows-keyed (row ∷ rows) = (refl, rows-keyed rows)

pub literals-keyed : (rows : List BlockRow) (row : BlockRow) → row.name ≡ literals_block → AreKeyed (keyed_rows rows ++ (None, row) ∷ [])
literals-keyed [] row is = ((is, refl), tt)
literals-keyed (first ∷ rows) row is = (refl, literals-keyed rows row is)

-- the base of a row under a name, or that of the literals
abbrev pub base_under : List ℕ → List KeyedRow → ℕ
base_under name entries = option_map_or (λ (row : BlockRow). row.base) (lookup (is_same_key (Some name)) entries) (literals_base name entries)

-- is the base among the rows
pub base-found : (name : List ℕ) (entries : List KeyedRow) → AreKeyed entries → base_under name entries ≡ base_in name (values_of entries)
base-found name [] keyed = let zero_base : ℕ = 0 in elim (same_text name literals_block) as (λ t. (if t then zero_base else zero_base) ≡ zero_base) [ true ↦ refl | false ↦ refl ]
base-found name (e ∷ es) keyed = step e.0 e.1 es keyed.0 (base-found name es keyed.1)
  where
    step : (key : Option (List ℕ)) (row : BlockRow) (behind : List KeyedRow) → IsKeyed key row behind → base_under name behind ≡ base_in name (values_of behind) →
        base_under name ((key, row) ∷ behind) ≡ base_in name (row ∷ values_of behind)
    step None row [] is rest = ap (λ (n : List ℕ). if same_text name n then row.base else 0) (sym is.0)
    step None row (other ∷ behind) is rest = cc
    step (Some n) row behind is rest = by_test (same_text name n) ∙ ap (λ (m : List ℕ). if same_text name m then row.base else base_in name (values_of behind)) (sym is)
      where
        by_test : (t : Bool) → option_map_or (λ (r : BlockRow). r.base) (cond t (Some row) (lookup (is_same_key (Some name)) behind)) (literals_base name behind)
            ≡ (if t then row.base else base_in name (values_of behind))
        by_test true = refl
        by_test false = rest
