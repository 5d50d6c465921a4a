-- Records that are not written yet (ours): one place for each session, and the version of the record that is to be written next.
use Rattle.std.specs.{Prelude.{ℕ, ◌≡◌, ⊤, ◌+◌, ◌==◌, List, [], ◌∷◌, ◌++◌, length, Bool, false, ◌&&◌, Contains, Option, Some, None, if◌then◌else◌, position, set}, Option.option_or}
use Rattle.definitions.specs.Characters.{same_text}
use Rattle.journal.specs.{declared.queue.Unwritten.Unwritten, Records.text_with_version}

-- a record of which it was shown that it is kept: its version, and its text from behind that
pub record Shown : Type 0 where
  pub version : ℕ
  pub draft : List ℕ

-- the version of the first record that is kept, the one that is to be written next, the one below which all that is not kept was given up, one above all versions that were put here, the places of the sessions, and for each the latest record of which it was shown that it is kept
pub record Queue : Type 0 where
  pub first : ℕ
  pub next : ℕ
  pub told : ℕ
  pub behind : ℕ
  pub places : List (Option Unwritten)
  pub shown : List (Option Shown)

-- what goes out: a text, the version of its first record, and the one behind its last, and the records themselves
pub record Batch : Type 0 where
  pub text : List ℕ
  pub first : ℕ
  pub next : ℕ
  pub drafts : List (List ℕ)

-- a record that is not written yet
abbrev pub unwritten : ℕ → List ℕ → Unwritten
unwritten version draft = record { version = version; draft = draft }

-- the record of a place, if it is the one of a version
abbrev pub draft_of : ℕ → Option Unwritten → Option (List ℕ)
draft_of version None = None
draft_of version (Some waits) = if waits.version == version then Some waits.draft else None

-- the record of a version among those of all places
abbrev pub draft_queued : ℕ → List (Option Unwritten) → Option (List ℕ)
draft_queued version [] = None
draft_queued version (place ∷ places) = option_or (draft_of version place) (draft_queued version places)

-- what goes out from a version on: nothing; or, behind what went out, the record of the version that comes then
pub data GoOut (places : List (Option Unwritten)) (first : ℕ) : List (List ℕ) → List ℕ → ℕ → Type 0 where
  start : GoOut places first [] [] first
  more : (drafts : List (List ℕ)) (text : List ℕ) (version : ℕ) (draft : List ℕ) → GoOut places first drafts text version → draft_queued version places ≡ Some draft →
      GoOut places first (drafts ++ draft ∷ []) (text ++ text_with_version version draft) (version + 1)

-- a record of a version waits at the place of some session
abbrev pub Waits : List (Option Unwritten) → ℕ → List ℕ → Type 0
Waits places version draft = Contains places (Some (unwritten version draft))

-- each of these waits, one version after the other
abbrev pub AllWait : List (Option Unwritten) → ℕ → List (List ℕ) → Type 0
AllWait places version [] = ⊤
AllWait places version (draft ∷ drafts) = Waits places version draft × AllWait places (version + 1) drafts

-- the texts of records, one version after the other
abbrev pub texts_from : ℕ → List (List ℕ) → List ℕ
texts_from version [] = []
texts_from version (draft ∷ drafts) = text_with_version version draft ++ texts_from (version + 1) drafts

-- these records go out in the order of their versions, without a gap, at whichever places they wait; and none waits for the version behind the last of them
pub record InOrder (places : List (Option Unwritten)) (first : ℕ) (drafts : List (List ℕ)) (text : List ℕ) (next : ℕ) : Type 0 where
  pub text_is : text ≡ texts_from first drafts
  pub all_wait : AllWait places first drafts
  pub next_is : next ≡ first + length drafts
  pub none_waits : (draft : List ℕ) → Waits places next draft → ⊥

-- whether the record of a place is the one of a version
abbrev pub is_at : ℕ → Option Unwritten → Bool
is_at version None = false
is_at version (Some waits) = waits.version == version

-- whether a record is of this version, and has this text
abbrev pub is_record_of : ℕ → List ℕ → Shown → Bool
is_record_of version draft shown = (shown.version == version) && same_text shown.draft draft

-- whether such a record is shown at a place
abbrev pub is_shown : ℕ → List ℕ → Option (Option Shown) → Bool
is_shown version draft (Some (Some shown)) = is_record_of version draft shown
is_shown version draft _ = false

-- a record is shown at a place, if there is one
abbrev pub shown_at : Option ℕ → Shown → List (Option Shown) → List (Option Shown)
shown_at None one shown = shown
shown_at (Some place) one shown = set shown place (Some one)

-- records are shown, one version before the other, each at the first place that has the record of its version
abbrev pub all_shown : List (Option Unwritten) → ℕ → List (List ℕ) → List (Option Shown) → List (Option Shown)
all_shown places version [] shown = shown
all_shown places version (draft ∷ drafts) shown = shown_at (position (is_at version) places) (record { version = version; draft = draft }) (all_shown places (version + 1) drafts shown)
