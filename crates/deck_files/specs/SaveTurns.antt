-- What a save may do, by what is known of the files of a folder (ours).
use Rattle.std.specs.Prelude.{ℕ, ◌≡◌, ⊤, List, Option, Some, None}
use Rattle.deck_files.specs.{declared.file_sums.FileSum.FileSum, declared.known_rows.Known.Known, declared.save_turns.Turn.Turn, declared.save_turns.Turn.TheVariants.{Newer, Older}, Files.Named, KnownFiles.{IsNewer, file_known, newer_saved, sum_at, version_known}, SavedVersions.SavedVersion}

-- by the newer version that was saved, if one was, and by what is known of the file
abbrev pub turn_behind : Option SavedVersion → Option FileSum → Turn
turn_behind None known = Older known
turn_behind (Some newer) known = Newer newer

-- what a save of this version may do: nothing, where a newer one was saved
abbrev pub turn_of : List ℕ → ℕ → Named (Option Known) → Turn
turn_of name version files = turn_behind (newer_saved name version (version_known name files)) (sum_at (file_known name files))

-- where a save may do nothing, it is by a newer version of its deck
abbrev pub IsTurnFor : List ℕ → ℕ → Turn → Type 0
IsTurnFor name version (Newer newer) = IsNewer name version newer
IsTurnFor name version (Older known) = ⊤

-- behind a lock: it was held, and some files were known then
abbrev pub IsTurnOfSome : List ℕ → ℕ → Turn → Type 0
IsTurnOfSome name version turn = (files : Named (Option Known)) × (turn ≡ turn_of name version files)
