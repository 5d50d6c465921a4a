-- The files of a folder that a service knows, since it saved them, or its desk took what it loaded (ours).
use Rattle.std.specs.{Prelude.{ℕ, ◌≡◌, ◌<◌, ◌==◌, Bool, List, Option, Some, None, false, true, nat_le, nat_lt, is_some, if◌then◌else◌, option_map, option_and_then}, Option.option_flatten}
use Rattle.deck_files.specs.{declared.file_sums.FileSum.FileSum, declared.known_rows.Known.Known, FileSums.sum_of, Files.{Named, named, with_named}, SavedVersions.{SavedVersion, saved_version}}

-- the names of the decks that have a place, each with what its file has and the newest version that was saved, or that the desk gave to what was loaded, and none where its file is not known; and how many more surely find memory
pub record KnownRows : Type 0 where
  pub files : Named (Option Known)
  pub room : ℕ

-- whether the deck has a place
abbrev pub has_place : List ℕ → Named (Option Known) → Bool
has_place name files = is_some (named name files)

-- what is known of a file, for a desk that goes on behind another: a version that is greater is not known
abbrev pub known_up_to : ℕ → Known → Known
known_up_to last known = record known { version = option_and_then (λ version. if nat_le version last then Some version else None) known.version }

-- what is known of the deck's file
abbrev pub file_known : List ℕ → Named (Option Known) → Option Known
file_known name files = option_flatten (named name files)

-- what is known of a file that has this text, the cards of this version
abbrev pub known_as : List ℕ → ℕ → Known
known_as text version = record { sum = sum_of text; version = Some version }

-- the version of the deck, where it is known
abbrev pub version_at : Option Known → Option ℕ
version_at known = option_and_then (λ (one : Known). one.version) known

-- what the file has, where it is known
abbrev pub sum_at : Option Known → Option FileSum
sum_at known = option_map (λ (one : Known). one.sum) known

-- the newest version whose cards the deck's file has, none where it is not known
abbrev pub version_known : List ℕ → Named (Option Known) → Option ℕ
version_known name files = version_at (file_known name files)

-- this version of the deck is the newest whose cards its file has, as far as is known
abbrev pub IsSaved : List ℕ → ℕ → Type 0
IsSaved name version = (files : Named (Option Known)) × (version_known name files ≡ Some version)

-- the version that was saved, if one was and it is newer than this one
abbrev pub newer_saved : List ℕ → ℕ → Option ℕ → Option SavedVersion
newer_saved name version saved = option_and_then (λ last. if nat_lt version last then Some (saved_version name last) else None) saved

-- it is of this deck, and newer than this version
abbrev pub IsNewer : List ℕ → ℕ → SavedVersion → Type 0
IsNewer name version newer = (newer.name ≡ name) × (version < newer.version)

-- the files once one was loaded, and the desk was not asked yet, or a save began: it has a place, and nothing more is known than before
abbrev pub after_place : List ℕ → Named (Option Known) → Named (Option Known)
after_place name files = if has_place name files then files else with_named name None files

-- the files once one was saved that has a place: this is known of it
abbrev pub after_save : List ℕ → Known → Named (Option Known) → Named (Option Known)
after_save name known files = if has_place name files then with_named name (Some known) files else files

-- whether this is the version that is known
abbrev pub is_at : ℕ → Option ℕ → Bool
is_at version None = false
is_at version (Some known) = known == version

-- the version that was saved, if it is this one
abbrev pub saved_at : List ℕ → ℕ → Option ℕ → Option SavedVersion
saved_at name version known = if is_at version known then Some (saved_version name version) else None

-- this version of the deck, where its file has the cards of it
abbrev pub saved_of : List ℕ → ℕ → Named (Option Known) → Option SavedVersion
saved_of name version files = saved_at name version (version_known name files)

-- whether no version is there
abbrev pub is_lacking : Option ℕ → Bool
is_lacking None = true
is_lacking (Some version) = false

-- whether the version that is known is the one that was seen
abbrev pub is_same : Option ℕ → Option ℕ → Bool
is_same seen None = is_lacking seen
is_same seen (Some version) = is_at version seen

-- whether there is a place, and the version that is known there is the one that was seen
abbrev pub is_still : Option ℕ → Option (Option Known) → Bool
is_still seen None = false
is_still seen (Some known) = is_same seen (version_at known)

-- the files once the desk gave a version to what was loaded: where another version is known than was seen before the file was read, somebody saved meanwhile, and that stays
abbrev pub after_note : List ℕ → Option ℕ → Known → Named (Option Known) → Named (Option Known)
after_note name seen known files = if is_still seen (named name files) then with_named name (Some known) files else files

-- ---- behind a lock: it was held, and some files were known then

abbrev pub IsNewestOfSome : List ℕ → Option ℕ → Type 0
IsNewestOfSome name seen = (files : Named (Option Known)) × (seen ≡ version_known name files)

abbrev pub IsSavedAmongSome : List ℕ → ℕ → Option SavedVersion → Type 0
IsSavedAmongSome name version saved = (files : Named (Option Known)) × (saved ≡ saved_of name version files)
