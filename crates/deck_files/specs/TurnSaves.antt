-- SAVE of a deck among saves of others (ours): where a newer version was saved, nothing is written; else the file is made anew, by what is known of the one that is there, and what it has is noted once it has its place.
use Rattle.std.specs.Prelude.{ℕ, ◌≡◌, ◌⊎◌, List, Option}
use Rattle.deck_files.specs.{declared.deck_shelf.ShelfSaveFault.ShelfSaveFault, declared.deck_shelf.ShelfSaveFault.TheVariants.OutOfMemory, declared.file_sums.FileSum.FileSum, declared.known_rows.Known.Known, declared.save_turns.Turn.Turn, declared.save_turns.Turn.TheVariants.{Newer, Older}, DeckFiles.file_of, FolderSaves.{IsUnkept, LeavesInPlace, SavesSo}, Folders.Place, KnownFiles.{IsNewer, known_as}, SavedVersions.SavedVersion, Savings.Saving, Steps.{Step, Done}}

module _ {K : Type 0} (turns : K → List ℕ → ℕ → Turn → K → Type 0) (lacks : K → K → Type 0) (notes : K → List ℕ → Known → K → Type 0) {F : Type 0} (has_done : F → List Step → Type 0) where
  -- it was noted what the deck's file has now
  abbrev pub NotesSaving : Saving → K → K → Type 0
  NotesSaving saved before after = notes before saved.name (known_as (file_of saved.cards) saved.version) after

  -- a newer version of the deck is shown to be saved, and no step was asked; or the file was made anew, and that was noted
  abbrev pub SavesInTurn : Place → Saving → K → K → F → F → Type 0
  SavesInTurn at saved before after old new = ((newer : SavedVersion) × IsNewer saved.name saved.version newer × turns before saved.name saved.version (Newer newer) after × (new ≡ old))
      ⊎ ((known : Option FileSum) × (middle : K) × turns before saved.name saved.version (Older known) middle × NotesSaving saved middle after
      × SavesSo has_done Done at saved.over known (file_of saved.cards) old new)

  -- no memory was left for the turn; or the deck's file is as it was, and nothing was noted; or it is the new one, which was noted
  abbrev pub FailsInTurn : Place → Saving → ShelfSaveFault → K → K → F → F → Type 0
  FailsInTurn at saved fault before after old new = ((fault ≡ OutOfMemory) × lacks before after × (new ≡ old))
      ⊎ ((known : Option FileSum) × (middle : K) × turns before saved.name saved.version (Older known) middle
      × (((after ≡ middle) × LeavesInPlace has_done at saved.over known (file_of saved.cards) fault old new)
      ⊎ (NotesSaving saved middle after × IsUnkept has_done at saved.over known (file_of saved.cards) fault old new)))
