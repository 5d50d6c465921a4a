-- A table of entries, each under the number of its name.
use Rattle.std.{proofs.Common.{◌≡◌, ◌<◌, ◌==◌, ℕ, ◌∙◌, Bool, true, false, true≢false, cond, List, [], ◌∷◌, ◌++◌, Option, Some, None, refl, ap, sym, subst, if◌then◌else◌}, specs.Prelude.{is_some, nat_eq, slice_index_or, Result, Ok, Err, OnOk, OnErr}, specs.Map.{lookup, values_of}, specs.Option.{option_map, option_or}, proofs.lemmas.List.map-append}
use Rattle.indexmap.{specs.IndexMap.{IndexMap, insert_entry}, proofs.CallerLemmas.insert_entry-new}
use Rattle.definitions.specs.{Entries.with_entry, Forms.Form, Settled.Definition}
use Rattle.deck_assembler.{specs.Joins.FirstSymbols.{is_known_name, number_of_name, symbol_in}, specs.Joins.SharedNames.{IsEntryTable, forms_in, with_row}, specs.Joins.SymbolKeys.{is_name, key_of}, specs.declared.symbol_key.SymbolKey.SymbolKey, proofs.EntryLaws.{enter-new, enter-old, enter-seen}, proofs.SymbolLaws.{both_first, symbol_in-kept, symbol_in-some}}

-- the value of a name is that of its entry
lookup-forms : (code : ℕ) (table : List (ℕ × Definition)) → lookup (nat_eq code) (forms_in table) ≡ option_map (λ (entry : Definition). entry.form) (lookup (nat_eq code) table)
lookup-forms code [] = refl
lookup-forms code (row ∷ table) = by (nat_eq code row.0) (lookup-forms code table)
  where
    by : (b : Bool) → lookup (nat_eq code) (forms_in table) ≡ option_map (λ (entry : Definition). entry.form) (lookup (nat_eq code) table) →
        cond b (Some row.1.form) (lookup (nat_eq code) (forms_in table)) ≡ option_map (λ (entry : Definition). entry.form) (cond b (Some row.1) (lookup (nat_eq code) table))
    by true e = refl
    by false e = e

is_some-map : (o : Option Definition) → is_some (option_map (λ (entry : Definition). entry.form) o) ≡ is_some o
is_some-map None = refl
is_some-map (Some entry) = refl

-- what stands behind others counts where they have none
lookup-behind : (other code : ℕ) (form : Form) (forms : List (ℕ × Form)) → lookup (nat_eq other) (forms ++ (code, form) ∷ []) ≡ option_or (lookup (nat_eq other) forms) (if other == code then Some form else None)
lookup-behind other code form [] = refl
lookup-behind other code form (row ∷ forms) = by (nat_eq other row.0) (lookup-behind other code form forms)
  where
    by : (b : Bool) → lookup (nat_eq other) (forms ++ (code, form) ∷ []) ≡ option_or (lookup (nat_eq other) forms) (if other == code then Some form else None) →
        cond b (Some row.1) (lookup (nat_eq other) (forms ++ (code, form) ∷ [])) ≡ option_or (cond b (Some row.1) (lookup (nat_eq other) forms)) (if other == code then Some form else None)
    by true e = refl
    by false e = e

-- a known name has a number
pub known-key : (name : List ℕ) → is_known_name name ≡ true → key_of name ≡ None → ⊥
known-key name known none = by (is_name name) (record { code = number_of_name name }) (both_first (is_name name) _ known) none
  where
    by : (b : Bool) (key : SymbolKey) → b ≡ true → (if b then Some key else None) ≡ None → ⊥
    by true key e h = true≢false (ap (λ (o : Option SymbolKey). is_some o) h)
    by false key e h = true≢false (sym e)

-- an entry whose name is there is not put
pub row-there : (table : List (ℕ × Definition)) (code : ℕ) (entry : Definition) → is_some (lookup (nat_eq code) table) ≡ true → table ≡ with_row code entry table
row-there table code entry h = ap (λ (b : Bool). if b then table else table ++ (code, entry) ∷ []) (sym h)

-- any other is put last
pub row-new : {S : Type 0} (m : IndexMap ℕ Definition S) (code : ℕ) (entry : Definition) → is_some (lookup (nat_eq code) m.entries) ≡ false → insert_entry nat_eq m.entries code entry ≡ with_row code entry m.entries
row-new m code entry h =
    insert_entry-new nat_eq m code entry (not_there (lookup (nat_eq code) m.entries) h)
    ∙ ap (λ (b : Bool). if b then m.entries else m.entries ++ (code, entry) ∷ []) (sym h)
  where
    not_there : (o : Option Definition) → is_some o ≡ false → o ≡ None
    not_there None e = refl
    not_there (Some other) e = absurd (true≢false e)

module _ (table : List (ℕ × Definition)) (name : List ℕ) (form : Form) (key : SymbolKey) (bytes : (i : ℕ) → slice_index_or name i 0 < 256) (is : key_of name ≡ Some key)
    (known : is_known_name name ≡ true) (holds : IsEntryTable table) where
  abbrev pub entry : Definition
  entry = record { name = name; form = form }

  there : is_some (lookup (nat_eq key.code) table) ≡ is_some (symbol_in (forms_in table) name)
  there =
      sym (is_some-map (lookup (nat_eq key.code) table))
      ∙ ap (λ (o : Option Form). is_some o) (sym (lookup-forms key.code table) ∙ symbol_in-some (forms_in table) name key bytes is)

  longer-values : values_of (table ++ (key.code, entry) ∷ []) ≡ values_of table ++ entry ∷ []
  longer-values = map-append (λ (row : ℕ × Definition). row.1) table ((key.code, entry) ∷ [])

  longer-forms : forms_in (table ++ (key.code, entry) ∷ []) ≡ forms_in table ++ (key.code, form) ∷ []
  longer-forms = map-append (λ (row : ℕ × Definition). (row.0, row.1.form)) table ((key.code, entry) ∷ [])

  kept : (other : ℕ) → lookup (nat_eq other) (forms_in (table ++ (key.code, entry) ∷ [])) ≡ option_or (lookup (nat_eq other) (forms_in table)) (if other == key.code then Some form else None)
  kept other = ap (lookup (nat_eq other)) longer-forms ∙ lookup-behind other key.code form (forms_in table)

  -- the entries of a table with an entry more are those with the name more
  pub row-values : values_of (with_row key.code entry table) ≡ with_entry name [] (Some form) (values_of table)
  row-values = by (is_some (lookup (nat_eq key.code) table)) refl
    where
      by : (b : Bool) → is_some (lookup (nat_eq key.code) table) ≡ b → values_of (if b then table else table ++ (key.code, entry) ∷ []) ≡ with_entry name [] (Some form) (values_of table)
      by true e = enter-old (forms_in table) (values_of table) name form (sym there ∙ e) holds
      by false e = enter-new (forms_in table) (values_of table) (values_of (table ++ (key.code, entry) ∷ [])) name form (sym there ∙ e) longer-values holds

  -- and each stands under the number of its name
  pub row-holds : IsEntryTable (with_row key.code entry table)
  row-holds = by (is_some (lookup (nat_eq key.code) table))
    where
      by : (b : Bool) → IsEntryTable (if b then table else table ++ (key.code, entry) ∷ [])
      by true = holds
      by false =
          enter-seen (forms_in table) (forms_in (table ++ (key.code, entry) ∷ [])) (values_of table) (values_of (table ++ (key.code, entry) ∷ [])) name form known
          (symbol_in-kept (forms_in table) (forms_in (table ++ (key.code, entry) ∷ [])) name key form bytes is kept) longer-values holds

  -- the same behind a call that puts the entry, or finds no memory
  pub row-entered : (after : List (ℕ × Definition)) (put : Definition) → put ≡ entry → after ≡ with_row key.code put table → values_of after ≡ with_entry name [] (Some form) (values_of table)
  row-entered after put same is_after = ap values_of is_after ∙ ap (λ (e : Definition). values_of (with_row key.code e table)) same ∙ row-values

  pub row-after : {T E : Type 0} (r : Result T E) (after : List (ℕ × Definition)) (put : Definition) → put ≡ entry → OnOk r (after ≡ with_row key.code put table) → OnErr r (after ≡ table) → IsEntryTable after
  row-after (Ok value) after put same is_after still = subst IsEntryTable (sym (is_after ∙ ap (λ (e : Definition). with_row key.code e table) same)) row-holds
  row-after (Err fault) after put same is_after still = subst IsEntryTable (sym still) holds
