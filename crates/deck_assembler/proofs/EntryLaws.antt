-- Entries, and the table of the names that are seen.
use Rattle.std.{proofs.Common.{◌≡◌, ◌∙◌, ℕ, ◌&&◌, Bool, true, false, true≢false, List, [], ◌∷◌, ◌++◌, Option, Some, None, refl, ap, sym, if◌then◌else◌}, specs.Prelude.is_some, specs.Option.option_or}
use Rattle.definitions.specs.{Characters.same_text, Entries.{entry_fault, with_entry}, Forms.Form, Settled.{Settled, Definition, defined_in, defined}}
use Rattle.definitions.specs.declared.letter.Letter.TheVariants as letter
use Rattle.deck_assembler.{proofs.DefinitionLaws.defined_in-push, specs.Joins.FirstSymbols.{is_known_name, symbol_in, with_symbol}, specs.Joins.SharedNames.AreSeen}

-- a name that is not seen is entered
pub enter-new : (seen : List (ℕ × Form)) (entries after : List Definition) (name : List ℕ) (form : Form) → is_some (symbol_in seen name) ≡ false → after ≡ entries ++ record { name = name; form = form } ∷ [] → AreSeen seen entries →
    after ≡ with_entry name [] (Some form) entries
enter-new seen entries after name form none pushed are = step (defined_in name entries) refl
  where
    missing : is_some (defined_in name entries) ≡ false
    missing = sym (ap (λ (f : List ℕ → Option Form). is_some (f name)) are) ∙ none

    last : Definition
    last = record { name = name; form = form }

    step : (o : Option Form) → defined_in name entries ≡ o → after ≡ (elim o [ Some other ↦ entries | None ↦ entries ++ last ∷ [] ])
    step None e = pushed
    step (Some other) e = absurd (true≢false (ap is_some (sym e) ∙ missing))

pub enter-old : (seen : List (ℕ × Form)) (entries : List Definition) (name : List ℕ) (form : Form) → is_some (symbol_in seen name) ≡ true → AreSeen seen entries → entries ≡ with_entry name [] (Some form) entries
enter-old seen entries name form some are = step (defined_in name entries) refl
  where
    there : is_some (defined_in name entries) ≡ true
    there = sym (ap (λ (f : List ℕ → Option Form). is_some (f name)) are) ∙ some

    last : Definition
    last = record { name = name; form = form }

    step : (o : Option Form) → defined_in name entries ≡ o → entries ≡ (elim o [ Some other ↦ entries | None ↦ entries ++ last ∷ [] ])
    step None e = absurd (true≢false (sym (ap is_some (sym e) ∙ there)))
    step (Some other) e = refl

-- and is seen from then on
pub enter-seen : (old new : List (ℕ × Form)) (entries after : List Definition) (name : List ℕ) (form : Form) → is_known_name name ≡ true → symbol_in new ≡ with_symbol name form (symbol_in old) →
    after ≡ entries ++ record { name = name; form = form } ∷ [] → AreSeen old entries → AreSeen new after
enter-seen old new entries after name form known e pushed are = λ i other. at other i
  where
    last : Definition
    last = record { name = name; form = form }

    at : (other : List ℕ) → symbol_in new other ≡ defined_in other after
    at other =
        ap (λ (f : List ℕ → Option Form). f other) e
        ∙ ap (λ (f : List ℕ → Option Form). option_or (f other) (if is_known_name name && same_text other name then Some form else None)) are
        ∙ ap (λ t. option_or (defined_in other entries) (if t && same_text other name then Some form else None)) known
        ∙ sym (defined_in-push other entries (record { name = name; form = form }))
        ∙ ap (defined_in other) (sym pushed)

-- a name by its value among all definitions
pub entry-none : (seen : List (ℕ × Form)) (settled : List Settled) (name : List ℕ) (entries : List Definition) → symbol_in seen ≡ (λ name. defined name settled) → symbol_in seen name ≡ None →
    entries ≡ with_entry name (entry_fault (defined name settled)) (defined name settled) entries
entry-none seen settled name entries all none =
    let missing : defined name settled ≡ None = sym (ap (λ (f : List ℕ → Option Form). f name) all) ∙ none in
    rw missing refl

pub entry-some : (seen : List (ℕ × Form)) (settled : List Settled) (name : List ℕ) (form : Form) (entries after : List Definition) (may : Bool) → symbol_in seen ≡ (λ name. defined name settled) → symbol_in seen name ≡ Some form →
    entry_fault (Some form) ≡ (if may then [] else letter.R ∷ []) → (may ≡ true → after ≡ with_entry name [] (Some form) entries) → (may ≡ false → after ≡ entries) →
    after ≡ with_entry name (entry_fault (defined name settled)) (defined name settled) entries
entry-some seen settled name form entries after may all some fault entered same = step may fault entered same
  where
    there : defined name settled ≡ Some form
    there = sym (ap (λ (f : List ℕ → Option Form). f name) all) ∙ some

    step : (t : Bool) → entry_fault (Some form) ≡ (if t then [] else letter.R ∷ []) → (t ≡ true → after ≡ with_entry name [] (Some form) entries) → (t ≡ false → after ≡ entries) →
        after ≡ with_entry name (entry_fault (defined name settled)) (defined name settled) entries
    step true fault entered same = entered refl ∙ ap (λ letters. with_entry name letters (Some form) entries) (sym fault) ∙ ap (λ (value : Option Form). with_entry name (entry_fault value) value entries) (sym there)
    step false fault entered same = same refl ∙ ap (λ letters. with_entry name letters (Some form) entries) (sym fault) ∙ ap (λ (value : Option Form). with_entry name (entry_fault value) value entries) (sym there)
