-- A table by number gives each name its own value.
use Rattle.std.{proofs.Common.{◌≡◌, ℕ, ◌<◌, ◌==◌, ◌&&◌, not, Bool, true, false, true≢false, suc, zero, List, [], ◌∷◌, Option, Some, None, nat_lt, cond, inl, inr, refl, sym, ap, ◌∙◌, subst, arith, if◌then◌else◌}, specs.Prelude.{nat_eq, slice_index_or}, specs.List.list_all, specs.Map.lookup, specs.Option.{is_some, option_or}, proofs.lemmas.Bool.Decides.eqb_tells, proofs.lemmas.Bool.{lt-ltb, eq-eqb, eqb-true, ltb-true}}
use Rattle.definitions.{specs.Characters.same_text, specs.Forms.Form, proofs.TextLaws.{same_text-true, same_text-refl}, proofs.TestLaws.option_or-none}
use Rattle.deck_assembler.{specs.Joins.SymbolKeys.{is_name, key_of}, specs.declared.symbol_key.SymbolKey.SymbolKey, proofs.SymbolKeyLaws.same-name, specs.Joins.FirstSymbols.{is_known_name, number_of_name, symbol_in, with_symbol}}

pub both_first : (x y : Bool) → (x && y) ≡ true → x ≡ true
both_first true y h = refl
both_first false y h = h

pub both_second : (x y : Bool) → (x && y) ≡ true → y ≡ true
both_second true y h = h
both_second false y h = absurd (true≢false (sym h))

-- bytes are below 256
all-bytes : (text : List ℕ) → ((i : ℕ) → slice_index_or text i 0 < 256) → list_all (λ c. nat_lt c 256) text ≡ true
all-bytes [] h = refl
all-bytes (c ∷ text) h = ap (λ b. b && list_all (λ d. nat_lt d 256) text) (lt-ltb c 256 (h 0)) ∙ all-bytes text (λ i. h (suc i))

bytes-all : (text : List ℕ) → list_all (λ c. nat_lt c 256) text ≡ true → (i : ℕ) → slice_index_or text i 0 < 256
bytes-all [] h i = omega arith
bytes-all (c ∷ text) h zero = ltb-true c 256 (both_first (nat_lt c 256) _ h)
bytes-all (c ∷ text) h (suc i) = bytes-all text (both_second (nat_lt c 256) _ h) i

-- a text of bytes is known where it is a name
known-bytes : (name : List ℕ) → ((i : ℕ) → slice_index_or name i 0 < 256) → is_known_name name ≡ is_name name
known-bytes name bytes = by (is_name name)
  where
    by : (b : Bool) → (b && list_all (λ c. nat_lt c 256) name) ≡ b
    by true = all-bytes name bytes
    by false = refl

-- a number as a name, where it is one
abbrev name_if : Bool → ℕ → Option SymbolKey
name_if b code = if b then Some (record { code = code }) else None

-- what a name of this number is worth
abbrev worth_if : Bool → List (ℕ × Form) → ℕ → Option Form
worth_if b forms code = if b then lookup (nat_eq code) forms else None

-- what a name is worth
pub symbol_in-some : (forms : List (ℕ × Form)) (name : List ℕ) (found : SymbolKey) → ((i : ℕ) → slice_index_or name i 0 < 256) → key_of name ≡ Some found →
    lookup (nat_eq found.code) forms ≡ symbol_in forms name
symbol_in-some forms name found bytes h = by (is_name name) h ∙ sym (ap (λ b. worth_if b forms (number_of_name name)) (known-bytes name bytes))
  where
    by : (b : Bool) → name_if b (number_of_name name) ≡ Some found → lookup (nat_eq found.code) forms ≡ worth_if b forms (number_of_name name)
    by true e = cc
    by false e = cc

-- what a new definition makes of the forms by number
abbrev kept_form : ℕ → ℕ → Form → Option Form → Option Form
kept_form other code form before = option_or before (if other == code then Some form else None)

-- two known names are one where their numbers are
same-number : (name other : List ℕ) → is_known_name name ≡ true → is_known_name other ≡ true → (number_of_name other == number_of_name name) ≡ same_text other name
same-number name other known known' = by (number_of_name other == number_of_name name) (same_text other name) refl refl
  where
    same : number_of_name other ≡ number_of_name name → other ≡ name
    same e = same-name other name
        (bytes-all other (both_second (is_name other) (list_all (λ c. nat_lt c 256) other) known'))
        (bytes-all name (both_second (is_name name) (list_all (λ c. nat_lt c 256) name) known))
        (both_first (is_name other) (list_all (λ c. nat_lt c 256) other) known')
        (both_first (is_name name) (list_all (λ c. nat_lt c 256) name) known)
        e

    by : (b c : Bool) → (number_of_name other == number_of_name name) ≡ b → same_text other name ≡ c → b ≡ c
    by true true e f = refl
    by false false e f = refl
    by true false e f = absurd (true≢false (sym (same_text-refl other) ∙ ap (same_text other) (same (eqb-true (number_of_name other) (number_of_name name) e)) ∙ f))
    by false true e f = absurd (true≢false (sym (eq-eqb (number_of_name other) (number_of_name name) (ap number_of_name (same_text-true other name f))) ∙ e))

-- a name that is defined, where it is one
define-known : (old new : List (ℕ × Form)) (name : List ℕ) (form : Form) → is_known_name name ≡ true →
    ((other : ℕ) → lookup (nat_eq other) new ≡ kept_form other (number_of_name name) form (lookup (nat_eq other) old)) →
    (other : List ℕ) → symbol_in new other ≡ with_symbol name form (symbol_in old) other
define-known old new name form known kept other = by (is_known_name other) refl
  where
    by : (b : Bool) → is_known_name other ≡ b →
        worth_if b new (number_of_name other) ≡ option_or (worth_if b old (number_of_name other)) (if is_known_name name && same_text other name then Some form else None)
    by true e =
        kept (number_of_name other)
        ∙ ap (λ c. option_or (lookup (nat_eq (number_of_name other)) old) (if c then Some form else None)) (same-number name other known e ∙ ap (λ c. c && same_text other name) (sym known))
    by false e = none (same_text other name) refl ∙ ap (λ c. if c && same_text other name then Some form else None) (sym known)
      where
        none : (c : Bool) → same_text other name ≡ c → None ≡ (if c then Some form else None)
        none true f = absurd (true≢false (sym known ∙ ap is_known_name (sym (same_text-true other name f)) ∙ e))
        none false f = refl

-- whether a name has no value
pub is-first : (forms : List (ℕ × Form)) (code : ℕ) → lookup (nat_eq code) forms ≡ None → true ≡ not (is_some (lookup (nat_eq code) forms))
is-first forms code h = ap (λ (o : Option Form). not (is_some o)) (sym h)

pub is-later : (forms : List (ℕ × Form)) (code : ℕ) → is_some (lookup (nat_eq code) forms) ≡ true → false ≡ not (is_some (lookup (nat_eq code) forms))
is-later forms code h = ap not (sym h)

-- a name that has no value gets this one
keep-new : (old new : List (ℕ × Form)) (code : ℕ) (form : Form) → is_some (lookup (nat_eq code) old) ≡ false →
    ((other : ℕ) → lookup (nat_eq other) new ≡ cond (nat_eq code other) (Some form) (lookup (nat_eq other) old)) →
    (other : ℕ) → lookup (nat_eq other) new ≡ kept_form other code form (lookup (nat_eq other) old)
keep-new old new code form absent updates other =
    updates other
    ∙ elim (eqb_tells other code) [
      | inl e ↦ rw (e.0, eq-eqb code other (sym e.1)) (sym (put (lookup (nat_eq other) old) (ap (λ n. is_some (lookup (nat_eq n) old)) e.1 ∙ absent)))
      | inr e ↦ rw (e.0, apart e.1) (sym (option_or-none (lookup (nat_eq other) old) None refl))
    ]
  where
    put : (o : Option Form) → is_some o ≡ false → option_or o (Some form) ≡ Some form
    put None h = refl
    put (Some f) h = cc

    apart : (other ≡ code → ⊥) → nat_eq code other ≡ false
    apart h = elim (eqb_tells code other) [ inl k ↦ absurd (h (sym k.1)) | inr k ↦ k.0 ]

-- the same where a vacant entry is written
pub keep-entered : (old new : List (ℕ × Form)) {written : List (ℕ × Form)} (code : ℕ) (form : Form) → written ≡ new → lookup (nat_eq code) old ≡ None →
    ((other : ℕ) → lookup (nat_eq other) written ≡ cond (nat_eq code other) (Some form) (lookup (nat_eq other) old)) →
    (other : ℕ) → lookup (nat_eq other) new ≡ kept_form other code form (lookup (nat_eq other) old)
keep-entered old new code form same absent updates =
    keep-new old new code form (ap is_some absent) (λ other. sym (ap (lookup (nat_eq other)) same) ∙ updates other)

-- a symbol more
pub symbol_in-kept : (old new : List (ℕ × Form)) (name : List ℕ) (found : SymbolKey) (form : Form) → ((i : ℕ) → slice_index_or name i 0 < 256) → key_of name ≡ Some found →
    ((other : ℕ) → lookup (nat_eq other) new ≡ kept_form other found.code form (lookup (nat_eq other) old)) →
    symbol_in new ≡ with_symbol name form (symbol_in old)
symbol_in-kept old new name found form bytes h kept = λ i other. by (is_name name) refl h other i
  where
    by : (b : Bool) → is_name name ≡ b → name_if b (number_of_name name) ≡ Some found → (other : List ℕ) → symbol_in new other ≡ with_symbol name form (symbol_in old) other
    by true e f = define-known old new name form (known-bytes name bytes ∙ e)
        (subst (λ (n : SymbolKey). (other : ℕ) → lookup (nat_eq other) new ≡ kept_form other n.code form (lookup (nat_eq other) old)) (cc) kept)
    by false e f = cc
