-- Names in order of first use, each once.
use Rattle.std.specs.Prelude.{ℕ, ◌≡◌, List, [], ◌∷◌}
use Rattle.indexmap.specs.IndexSet.{insert_key}
use Rattle.definitions.specs.{Blocks.is_named, Characters.same_text, Settled.Definition}

-- names with one more, where it is not among them
abbrev pub with_name : List ℕ → List (List ℕ) → List (List ℕ)
with_name name names = insert_key same_text names name

-- names with those of entries, each where it is not among them
abbrev pub with_entries : List Definition → List (List ℕ) → List (List ℕ)
with_entries [] names = names
with_entries (entry ∷ entries) names = with_entries entries (with_name entry.name names)

-- these are the names that are among others
abbrev pub HaveNames : List (List ℕ) → List (List ℕ) → Type 0
HaveNames set names = (name : List ℕ) → is_named name set ≡ is_named name names
