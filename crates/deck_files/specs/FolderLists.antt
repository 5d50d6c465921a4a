-- FILES of a folder (ours): the folder lists which decks have files, and each of these files is read.
use Rattle.std.specs.Prelude.{ℕ, ◌≡◌, ◌⊎◌, List, [], ◌∷◌, ◌++◌, Option, Some, None, length}
use Rattle.definitions.specs.Cards.{Card}
use Rattle.deck_files.specs.{declared.load_fault.LoadFault.TheVariants.OutOfMemory, declared.deck_shelf.ShelfLoadFault.ShelfLoadFault, declared.deck_shelf.ShelfLoadFault.TheVariants.BadFile, declared.file_rows.DeckEntry.DeckEntry, declared.file_rows.FileRow.FileRow, declared.file_sums.FileSum.FileSum, FileRows.{row_of, with_row}, Folders.{Place, place, deck_path, folder_path}, FolderLoads.{IsUnopened, LoadsFile, LoadFails}, Steps.{Step, Decks, Refused, Holds, TakesStep}}

-- no memory was left
abbrev pub is_lacking : ShelfLoadFault
is_lacking = BadFile OutOfMemory

module _ {F : Type 0} (has_done : F → List Step → Type 0) where
  -- so many cards has the deck's file, as the folder gave it; or it is not loaded, and not for want of memory
  abbrev pub Counts : Place → Option ℕ → F → F → Type 0
  Counts at (Some count) old new = (cards : List Card) × (sum : FileSum) × (length cards ≡ count) × LoadsFile has_done (deck_path at) cards sum old new
  Counts at None old new = (fault : ShelfLoadFault) × (¬ (fault ≡ is_lacking)) × LoadFails has_done at fault old new

  -- these decks' files were read one after the other, on the shelf with this number, and these are their rows
  pub data ReadsRows (folder : List ℕ) (number : ℕ) (first : F) : List DeckEntry → List FileRow → F → Type 0 where
    no_file : ReadsRows folder number first [] [] first
    next_file : (entries : List DeckEntry) (rows : List FileRow) (middle last : F) (entry : DeckEntry) (count : Option ℕ) → ReadsRows folder number first entries rows middle →
        Counts (place folder entry.name number) count middle last → ReadsRows folder number first (entries ++ entry ∷ []) (with_row (row_of entry count) rows) last

  -- the folder listed which decks have files, and these are the rows of them all
  pub record ListsFiles (folder : List ℕ) (number : ℕ) (rows : List FileRow) (old new : F) : Type 0 where
    pub entries : List DeckEntry
    pub middle : F
    pub held : TakesStep has_done old (Decks (folder_path folder), Holds entries) middle
    pub read : ReadsRows folder number middle entries rows new

  -- no memory was left to read a deck's file, or for its row
  abbrev pub StopsAt : Place → F → F → Type 0
  StopsAt at old new = LoadFails has_done at is_lacking old new ⊎ ((count : Option ℕ) × Counts at count old new)

  -- some decks' files were read, and at the next no memory was left
  pub record StopsWithin (folder : List ℕ) (number : ℕ) (old new : F) : Type 0 where
    pub front : List DeckEntry
    pub rows : List FileRow
    pub name : List ℕ
    pub last : F
    pub read : ReadsRows folder number old front rows last
    pub stopped : StopsAt (place folder name number) last new

  -- the folder refused to list which decks have files; or it listed them, and no memory was left for all rows
  pub data ListFails (folder : List ℕ) (number : ℕ) (fault : ShelfLoadFault) (old new : F) : Type 0 where
    untold : IsUnopened fault → TakesStep has_done old (Decks (folder_path folder), Refused) new → ListFails folder number fault old new
    lacking : (entries : List DeckEntry) (middle : F) → fault ≡ is_lacking → TakesStep has_done old (Decks (folder_path folder), Holds entries) middle → StopsWithin folder number middle new →
        ListFails folder number fault old new
