-- The changes of a deck that are kept (ours).
use Rattle.std.specs.Prelude.{ℕ, ◌-◌, nat_le, nat_lt, List, [], ◌∷◌, ◌++◌, length, take, drop, get_or, if◌then◌else◌}
use Rattle.desk_core.specs.Joins.{Language.Card, Edits.{Edit, Insert, Replace, Remove, edited}}
pub use Rattle.desk_core.specs.declared.past.KeptEdit.{KeptEdit}

-- a deck's past: the version behind which all its changes are kept, and their edits, oldest first; edits of that version or an older one in front of them are no more than a rest
pub record Past : Type 0 where
  pub since : ℕ
  pub edits : List KeptEdit

-- the past of a deck that comes at this version
abbrev pub begun_at : ℕ → Past
begun_at version = record { since = version; edits = [] }

-- a past with more edits
abbrev pub with_edits : List KeptEdit → Past → Past
with_edits more past = record past { edits = past.edits ++ more }

-- the edit that takes back an edit of these cards
abbrev pub undo_of : Edit → List Card → Edit
undo_of (Insert place card) cards = Remove place
undo_of (Replace place card) cards = Replace place (get_or cards (place - 1) [])
undo_of (Remove place) cards = Insert place (get_or cards (place - 1) [])

-- edits of these cards as they are kept, each of what the ones before it leave
abbrev pub kept_edits : ℕ → List ℕ → List Edit → List Card → List KeptEdit
kept_edits version by [] cards = []
kept_edits version by (edit ∷ edits) cards = record { version = version; edit = edit; back = undo_of edit cards; by = by } ∷ kept_edits version by edits (edited cards edit)

-- how many edits are kept at most, and how many are left of more: a thousand, and as many as a batch has
abbrev pub most_kept : ℕ
most_kept = 1900

abbrev pub left_of_more : ℕ
left_of_more = 1100

-- the version of the last of edits, or this one where there are none
abbrev pub last_version : ℕ → List KeptEdit → ℕ
last_version version [] = version
last_version version (one ∷ later) = last_version one.version later

-- a past without its oldest edits, so many
abbrev pub without_oldest : ℕ → Past → Past
without_oldest count past = record { since = last_version past.since (take count past.edits); edits = drop count past.edits }

-- a past of no more edits than are kept
abbrev pub trimmed : Past → Past
trimmed past = if nat_le (length past.edits) most_kept then past else without_oldest (length past.edits - left_of_more) past

-- the past of a deck with these cards after edits of them, as the change of this version
abbrev pub past_after : ℕ → List ℕ → List Edit → List Card → Past → Past
past_after version by edits cards past = trimmed (with_edits (kept_edits version by edits cards) past)

-- the edits behind a version: from the first of a later one on
abbrev pub behind : ℕ → List KeptEdit → List KeptEdit
behind version [] = []
behind version (one ∷ later) = if nat_lt version one.version then one ∷ later else behind version later

-- the edits of the change that made a version: of those behind the version before it, the ones that are not behind it too
abbrev pub change_at : ℕ → List KeptEdit → List KeptEdit
change_at version kept = take (length (behind (version - 1) kept) - length (behind version kept)) (behind (version - 1) kept)

-- the edits that take edits back, the last of them first
abbrev pub backs_of : List KeptEdit → List Edit
backs_of [] = []
backs_of (one ∷ later) = backs_of later ++ one.back ∷ []
