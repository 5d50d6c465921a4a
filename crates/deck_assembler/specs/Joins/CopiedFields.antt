-- The fields of a line, as another object has them.
use Rattle.std.specs.Prelude.{ℕ, ◌≡◌, ◌≤◌, ◌+◌, List, take, drop, length}
use Rattle.deck_objects.specs.declared.lines.FieldLists.{FieldLists}
use Rattle.deck_objects.specs.declared.lines.LineFields as kept
use Rattle.deck_objects.specs.declared.lines.LineFields.TheVariants as fields

-- a line has so many of a list, which are those from one on of another
abbrev pub AreListedAlike : {A : Type 0} → (ℕ → ℕ → kept.LineFields) → List A → ℕ → ℕ → kept.LineFields → List A → Type 0
AreListedAlike listed others first count copied list =
    first + count ≤ length others → (from : ℕ) × (copied ≡ listed from count) × (from + count ≤ length list) × (take count (drop from list) ≡ take count (drop first others))

-- a line keeps the same here as there
abbrev pub AreCopied : kept.LineFields → FieldLists → kept.LineFields → FieldLists → Type 0
AreCopied fields.Absent others copied lists = copied ≡ fields.Absent
AreCopied (fields.Known bits) others copied lists = copied ≡ fields.Known bits
AreCopied (fields.Words first count) others copied lists = AreListedAlike fields.Words others.words.items first count copied lists.words.items
AreCopied (fields.Listed first count) others copied lists = AreListedAlike fields.Listed others.items.items first count copied lists.items.items
AreCopied fields.Zeros others copied lists = copied ≡ fields.Zeros
