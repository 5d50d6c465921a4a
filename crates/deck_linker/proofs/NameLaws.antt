-- Names, each once, and the names that they stand for.
use Rattle.std.{proofs.Common.{◌≡◌, ℕ, List, [], ◌∷◌, ◌++◌, Bool, true, false, ◌||◌, refl, sym, ap, ap₂, ◌∙◌, append-nil, append_assoc}, specs.Prelude.{codes, if◌then◌else◌}, proofs.lemmas.List.Folds.list_any-append}
use Rattle.definitions.{specs.Characters.same_text, specs.Blocks.is_named, specs.Settled.Definition, specs.Layout.{Based, Common}, specs.LinkValues.names_of, specs.LinkLines.{doubled_lines, link_line}, specs.Map.{entry_line, entry_lines}, proofs.TextLaws.same_text-true}
use Rattle.deck_linker.specs.Joins.Names.{with_name, with_entries, HaveNames}

-- a name that is there already changes nothing
or_there : (b c : Bool) → (b ≡ true → c ≡ true) → c ≡ (c || b)
or_there b true h = refl
or_there true false h = h refl
or_there false false h = refl

last_alone : (b : Bool) → (b || false) ≡ b
last_alone true = refl
last_alone false = refl

-- a name more among names
named_pushed : (other name : List ℕ) (names : List (List ℕ)) → is_named other (names ++ name ∷ []) ≡ (is_named other names || same_text other name)
named_pushed other name names =
    list_any-append (same_text other) names (name ∷ []) ∙ ap (λ (b : Bool). is_named other names || b) (last_alone (same_text other name))

-- a name more, where it is not among them
pub added : (name other : List ℕ) (names : List (List ℕ)) → is_named other (with_name name names) ≡ (is_named other names || same_text other name)
added name other names = by_test (is_named name names) refl
  where
    by_test : (t : Bool) → is_named name names ≡ t → is_named other (if t then names else names ++ name ∷ []) ≡ (is_named other names || same_text other name)
    by_test true there = or_there (same_text other name) (is_named other names) (λ same. ap (λ (n : List ℕ). is_named n names) (same_text-true other name same) ∙ there)
    by_test false there = named_pushed other name names

-- a name is added once
pub have-name : (set names : List (List ℕ)) (name : List ℕ) → HaveNames set names → HaveNames (with_name name set) (names ++ name ∷ [])
have-name set names name h other =
    added name other set
    ∙ ap (λ (b : Bool). b || same_text other name) (h other)
    ∙ sym (named_pushed other name names)

-- the names of entries are added once each
pub have-entries : (entries : List Definition) (set names : List (List ℕ)) → HaveNames set names → HaveNames (with_entries entries set) (names ++ names_of entries)
have-entries [] set names h other = h other ∙ ap (is_named other) (sym (append-nil names))
have-entries (entry ∷ entries) set names h other =
    have-entries entries (with_name entry.name set) (names ++ entry.name ∷ []) (have-name set names entry.name h) other
    ∙ ap (is_named other) (append_assoc names (entry.name ∷ []) (names_of entries))

-- lines depend on what the names have
pub doubled-same : (set names : List (List ℕ)) (deck : List ℕ) (entries : List Definition) → HaveNames set names → doubled_lines set deck entries ≡ doubled_lines names deck entries
doubled-same set names deck [] h = refl
doubled-same set names deck (entry ∷ entries) h =
    ap₂ (λ (b : Bool) (l : List (List ℕ)). (if b then link_line (codes "D") deck (codes " " ++ entry.name) ∷ [] else []) ++ l) (h entry.name) (doubled-same set names deck entries h)

pub entry_lines-same : (commons : List Common) (set names : List (List ℕ)) (based : Based) (entries : List Definition) → HaveNames set names →
    entry_lines commons set based entries ≡ entry_lines commons names based entries
entry_lines-same commons set names based [] h = refl
entry_lines-same commons set names based (entry ∷ entries) h =
    ap₂ (λ (b : Bool) (l : List ℕ). (if b then [] else entry_line commons based entry) ++ l) (h entry.name) (entry_lines-same commons set names based entries h)
