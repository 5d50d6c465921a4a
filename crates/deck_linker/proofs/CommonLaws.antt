-- Common blocks in a map of their lengths, and in a set.
use Rattle.std.{proofs.Common.{ℕ, ◌≡◌, ◌+◌, Bool, true, false, cond, ◌||◌, List, [], ◌∷◌, ◌++◌, Option, Some, refl, sym, ◌∙◌, ap, ap₂, subst, max, append_assoc}, specs.Prelude.if◌then◌else◌, specs.List.{AllByRecursion, IsDistinct, find, list_any, position_from}, specs.Map.{keys_of, lookup}, specs.Option.option_map_or, proofs.lemmas.Map.Keys.{IsDistinct-head, IsDistinct-tail}}
use Rattle.indexmap.specs.{IndexMap.insert_entry, IndexSet.insert_key}
use Rattle.definitions.specs.{Characters.same_text, Lengths.{BlockLength, BlockRow}, Layout.{Common, common_base, commons_from, end_after_common, placed_common, with_common}}
use Rattle.deck_linker.{specs.Joins.CommonLengths.{lengths_shown, widened}, specs.Joins.CommonSets.are_named_alike, specs.Joins.Placing.{names_of_commons, names_of_lengths}, proofs.PlaceLaws.names-commons}
use Rattle.use_blocks.specs.Joins.NameKeys.{same_text_equivalence}

-- a common block is widened in its place, or joins the others
pub with_common-shown : (row : BlockRow) (entries : List (List ℕ × ℕ)) →
    lengths_shown (insert_entry same_text entries row.name (widened (lookup (same_text row.name) entries) row.words)) ≡ with_common row (lengths_shown entries)
with_common-shown row [] = refl
with_common-shown row (e ∷ es) = by_test (same_text row.name e.0) (with_common-shown row es)
  where
    found : Option ℕ
    found = lookup (same_text row.name) es

    by_test : (t : Bool) → lengths_shown (insert_entry same_text es row.name (widened found row.words)) ≡ with_common row (lengths_shown es) →
        lengths_shown (if t then (e.0, widened (cond t (Some e.1) found) row.words) ∷ es else e ∷ insert_entry same_text es row.name (widened (cond t (Some e.1) found) row.words))
        ≡ (if t then record { name = e.0; words = max e.1 row.words } ∷ lengths_shown es else record { name = e.0; words = e.1 } ∷ with_common row (lengths_shown es))
    by_test true rest = refl
    by_test false rest = ap (λ (l : List BlockLength). record { name = e.0; words = e.1 } ∷ l) rest

-- the names of common blocks are the keys of the map
names-shown : (entries : List (List ℕ × ℕ)) → names_of_lengths (lengths_shown entries) ≡ keys_of entries
names-shown [] = refl
names-shown (e ∷ es) = ap (λ (names : List (List ℕ)). e.0 ∷ names) (names-shown es)

-- a common block behind others of which none has its name
new-behind : (before : List Common) (common : Common) (behind : List Common) → IsDistinct same_text (names_of_commons (before ++ common ∷ behind)) →
    list_any (are_named_alike common) before ≡ false
new-behind [] common behind differ = refl
new-behind (first ∷ before) common behind differ =
    let names = names_of_commons (before ++ common ∷ behind) in
    ap₂ (λ (a b : Bool). a || b)
    (same_text_equivalence.symm common.name first.name ∙ at_it before (IsDistinct-head same_text first.name names differ))
    (new-behind before common behind (IsDistinct-tail same_text first.name names differ))
  where
    at_it : (others : List Common) → AllByRecursion (λ (name : List ℕ). same_text first.name name ≡ false) (names_of_commons (others ++ common ∷ behind)) → same_text first.name common.name ≡ false
    at_it [] all = all.0
    at_it (other ∷ others) all = at_it others all.1

-- so it joins them
common-joins : (before : List Common) (common : Common) (behind : List Common) (base : ℕ) (entries : List (List ℕ × ℕ)) →
    before ++ common ∷ behind ≡ commons_from base (lengths_shown entries) → IsDistinct same_text (keys_of entries) → insert_key are_named_alike before common ≡ before ++ common ∷ []
common-joins before common behind base entries all differ =
    let names : names_of_commons (before ++ common ∷ behind) ≡ keys_of entries =
    ap names_of_commons all ∙ names-commons base (lengths_shown entries) ∙ names-shown entries in
    ap (λ (t : Bool). if t then before else before ++ common ∷ [])
    (new-behind before common behind (subst (λ (l : List (List ℕ)). IsDistinct same_text l) (sym names) differ))

-- a common block more in its place
pub placed-more : (before after : List Common) (base end : ℕ) (block : BlockLength) (left entries : List (List ℕ × ℕ)) →
    before ++ commons_from end (block ∷ lengths_shown left) ≡ commons_from base (lengths_shown entries) → IsDistinct same_text (keys_of entries) →
    after ≡ insert_key are_named_alike before (placed_common end block) →
    after ++ commons_from (end_after_common end block) (lengths_shown left) ≡ commons_from base (lengths_shown entries)
placed-more before after base end block left entries all differ added =
    let behind = commons_from (end_after_common end block) (lengths_shown left) in
    ap (λ (l : List Common). l ++ behind) (added ∙ common-joins before (placed_common end block) behind base entries all differ)
    ∙ append_assoc before (placed_common end block ∷ []) behind
    ∙ all

-- the place of a common block is that of its name
pub place-named : (name : List ℕ) (from : ℕ) (commons : List Common) →
    position_from (λ (common : Common). same_text name common.name) from commons ≡ position_from (same_text name) from (names_of_commons commons)
place-named name from [] = refl
place-named name from (common ∷ commons) = ap (λ (place : Option ℕ). cond (same_text name common.name) (Some from) place) (place-named name (from + 1) commons)

-- the base of a common block is that of the one that is found
pub base-found : (name : List ℕ) (commons : List Common) →
    option_map_or (λ (common : Common). common.base) (find (λ (common : Common). same_text name common.name) commons) 0 ≡ common_base name commons
base-found name [] = refl
base-found name (common ∷ commons) = by_test (same_text name common.name) (base-found name commons)
  where
    found : Option Common
    found = find (λ (other : Common). same_text name other.name) commons

    by_test : (t : Bool) → option_map_or (λ (other : Common). other.base) found 0 ≡ common_base name commons →
        option_map_or (λ (other : Common). other.base) (cond t (Some common) found) 0 ≡ (if t then common.base else common_base name commons)
    by_test true rest = refl
    by_test false rest = rest
