-- What contracts see of a shelf over a folder, and what one load or save makes of it (ours).
use Rattle.std.specs.Prelude.{ℕ, ◌≡◌, ◌⊎◌, Bool, List, Option, Some, None, Result, Ok, Err, IfSome, IsUtf8, is_some}
use Rattle.definitions.specs.Cards.{Card}
use Rattle.deck_files.specs.{declared.deck_shelf.ShelfLoadFault.ShelfLoadFault, declared.deck_shelf.ShelfSaveFault.ShelfSaveFault, declared.deck_shelf.ShelfSaveFault.TheVariants.CannotOpen, declared.file_sums.FileSum.FileSum, declared.known_rows.Known.Known, declared.save_turns.Turn.Turn, Folders.{Place, place, deck_path}, FolderLoads.{LoadsFile, LoadFails}, TurnSaves.{FailsInTurn, SavesInTurn}, FolderLists.{ListsFiles, ListFails}, declared.file_rows.FileRow.FileRow, SavedVersions.{SavedVersion, saved_version}, Savings.Saving, Steps.Step}

-- the folder, its text, the number of the shelf, and who knows the files; the version that was known of the deck loaded last before its file was read, and what that file had, none where the last load failed
pub record FolderShelf (F K : Type 0) : Type 0 where
  pub files : F
  pub folder : List ℕ
  pub number : ℕ
  pub turns : K
  pub seen : Option ℕ
  pub loaded : Option FileSum

-- where the shelf keeps the deck of this name
abbrev pub place_on : {F K : Type 0} → FolderShelf F K → List ℕ → Place
place_on shelf name = place shelf.folder name shelf.number

-- it is over the same folder, whatever that did
abbrev pub IsSameShelf : {F K : Type 0} → FolderShelf F K → FolderShelf F K → Type 0
IsSameShelf old new = (new.folder ≡ old.folder) × (new.number ≡ old.number)

-- the last load is the same
abbrev pub IsSameLoad : {F K : Type 0} → FolderShelf F K → FolderShelf F K → Type 0
IsSameLoad old new = (new.seen ≡ old.seen) × (new.loaded ≡ old.loaded)

module _ {F K : Type 0} (has_done : F → List Step → Type 0) (tells_newest : K → List ℕ → Option ℕ → K → Type 0) (places : K → List ℕ → K → Type 0) where
  -- the cards are those of the deck's file, which is not known by that: before it was read the newest version that is known was asked, and behind that the deck got a place
  abbrev pub LoadsDeck : FolderShelf F K → List ℕ → List Card → FolderShelf F K → Type 0
  LoadsDeck old name cards new = IsSameShelf old new
      × ((sum : FileSum) × (new.loaded ≡ Some sum) × LoadsFile has_done (deck_path (place_on old name)) cards sum old.files new.files)
      × ((middle : K) × tells_newest old.turns name new.seen middle × places middle name new.turns)

module _ {F K : Type 0} (has_done : F → List Step → Type 0) (tells_newest : K → List ℕ → Option ℕ → K → Type 0) (lacks : K → K → Type 0) where
  -- nothing is loaded, so nothing will be noted; the newest version was asked at most, and maybe no memory was left for a place
  abbrev pub LoadsNoDeck : FolderShelf F K → List ℕ → ShelfLoadFault → FolderShelf F K → Type 0
  LoadsNoDeck old name fault new = IsSameShelf old new × (new.loaded ≡ None) × LoadFails has_done (place_on old name) fault old.files new.files
      × ((new.turns ≡ old.turns) ⊎ ((middle : K) × tells_newest old.turns name new.seen middle × ((new.turns ≡ middle) ⊎ lacks middle new.turns)))

module _ {F K : Type 0} (has_done : F → List Step → Type 0) (turns : K → List ℕ → ℕ → Turn → K → Type 0) (lacks : K → K → Type 0) (notes : K → List ℕ → Known → K → Type 0) where
  -- the deck's file is made anew; or who knows the files showed a newer version of it that was saved, and no step was asked
  abbrev pub SavesDeck : FolderShelf F K → Saving → FolderShelf F K → Type 0
  SavesDeck old saved new = IsSameShelf old new × IsSameLoad old new × SavesInTurn turns lacks notes has_done (place_on old saved.name) saved old.turns new.turns old.files new.files

  -- the name is no text, and nothing was asked; or the save failed in its turn
  abbrev pub SavesNoDeck : FolderShelf F K → Saving → ShelfSaveFault → FolderShelf F K → Type 0
  SavesNoDeck old saved fault new = IsSameShelf old new × IsSameLoad old new
      × ((¬ IsUtf8 saved.name × (fault ≡ CannotOpen) × (new.files ≡ old.files) × (new.turns ≡ old.turns))
      ⊎ FailsInTurn turns lacks notes has_done (place_on old saved.name) saved fault old.turns new.turns old.files new.files)

module _ {F K : Type 0} (has_done : F → List Step → Type 0) where
  -- the rows are those of the files of decks in the folder, or it was not read
  abbrev pub ListsDecks : FolderShelf F K → Result (List FileRow) ShelfLoadFault → FolderShelf F K → Type 0
  ListsDecks old (Ok rows) new = IsSameShelf old new × IsSameLoad old new × (new.turns ≡ old.turns) × ListsFiles has_done old.folder old.number rows old.files new.files
  ListsDecks old (Err fault) new = IsSameShelf old new × IsSameLoad old new × (new.turns ≡ old.turns) × ListFails has_done old.folder old.number fault old.files new.files

module _ {K : Type 0} (notes_loaded : K → List ℕ → Option ℕ → Known → K → Type 0) where
  -- what was loaded last is noted with this version, by what was known before its file was read; where nothing was loaded, nothing is
  abbrev pub NotesLoad : Option FileSum → List ℕ → Option ℕ → ℕ → K → K → Type 0
  NotesLoad None name seen version old new = new ≡ old
  NotesLoad (Some sum) name seen version old new = notes_loaded old name seen (record { sum = sum; version = Some version }) new

module _ {F K : Type 0} (notes_loaded : K → List ℕ → Option ℕ → Known → K → Type 0) where
  -- and the folder is as it was
  abbrev pub NotesDeck : FolderShelf F K → List ℕ → ℕ → FolderShelf F K → Type 0
  NotesDeck old name version new = IsSameShelf old new × IsSameLoad old new × (new.files ≡ old.files) × NotesLoad notes_loaded old.loaded name old.seen version old.turns new.turns

module _ {F K : Type 0} (tells_saved : K → List ℕ → ℕ → Option SavedVersion → K → Type 0) where
  -- it is where who knows the files showed this version of the deck
  abbrev pub TellsSaved : FolderShelf F K → List ℕ → ℕ → Bool → FolderShelf F K → Type 0
  TellsSaved old name version saved new = IsSameShelf old new × IsSameLoad old new × (new.files ≡ old.files)
      × ((shown : Option SavedVersion) × (saved ≡ is_some shown) × IfSome shown (λ found. found ≡ saved_version name version) × tells_saved old.turns name version shown new.turns)
