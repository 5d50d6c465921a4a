-- Texts of records (ours): which of them lie in the value itself.
use Rattle.std.specs.Prelude.{ℕ, ◌<◌, ⊤, List, length}
use Rattle.journal.specs.{declared.record_texts.Held.Held, declared.record_texts.Held.TheVariants.{Short, Long}}

-- a text of a record is so long, from behind its version, that memory is asked for
abbrev pub IsLong : List ℕ → Type 0
IsLong text = 200 < length text

-- a text has no room in the value itself
abbrev pub IsLarge : List ℕ → Type 0
IsLarge text = 256 < length text

abbrev pub held_text : Held (List ℕ) → List ℕ
held_text (Short text) = text
held_text (Long text) = text

-- elsewhere lies only what has no room in the value itself
abbrev pub IsHeld : Held (List ℕ) → Type 0
IsHeld (Short text) = ⊤
IsHeld (Long text) = IsLarge text
