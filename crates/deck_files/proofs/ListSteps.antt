-- The steps of listing the files of decks: the first of them were read.
use Rattle.std.proofs.{Common.{ℕ, ◌≡◌, ◌+◌, ◌<◌, List, [], ◌∷◌, ◌++◌, Option, length, take, get_or, sym, ap, subst, ◌∙◌}, lemmas.List.take_more}
use Rattle.deck_files.specs.{declared.file_rows.DeckEntry.DeckEntry, declared.file_rows.FileRow.FileRow, FileRows.{row_of, with_row}, Folders.place, FolderLists.{Counts, ReadsRows, StopsAt, StopsWithin, no_file, next_file}, Steps.Step}

module _ {F : Type 0} (has_done : F → List Step → Type 0) (folder : List ℕ) (number : ℕ) where
  -- no file was read
  pub rows-none : (first : F) (rows : List FileRow) → rows ≡ [] → ReadsRows has_done folder number first [] rows first
  rows-none first rows none = subst (λ (r : List FileRow). ReadsRows has_done folder number first [] r first) (sym none) no_file

  -- one file more was read
  pub rows-more : (first middle last : F) (entries : List DeckEntry) (rows after : List FileRow) (index : ℕ) (entry : DeckEntry) (count : Option ℕ) → index < length entries →
      entry ≡ get_or entries index entry → ReadsRows has_done folder number first (take index entries) rows middle →
      Counts has_done (place folder entry.name number) count middle last → after ≡ with_row (row_of entry count) rows → ReadsRows has_done folder number first (take (index + 1) entries) after last
  rows-more first middle last entries rows after index entry count within is read counts put =
      let more = take_more entries index entry within ∙ ap (λ (e : DeckEntry). take index entries ++ e ∷ []) (sym is) in
      subst (λ (l : List DeckEntry). ReadsRows has_done folder number first l after last) (sym more)
      (subst (λ (r : List FileRow). ReadsRows has_done folder number first (take index entries ++ entry ∷ []) r last) (sym put)
      (next_file (take index entries) rows middle last entry count read counts))

  -- some files were read, and then no memory was left
  pub rows-stop : (first middle last : F) (front : List DeckEntry) (rows : List FileRow) (name : List ℕ) → ReadsRows has_done folder number first front rows middle →
      StopsAt has_done (place folder name number) middle last → StopsWithin has_done folder number first last
  rows-stop first middle last front rows name read stopped = record { front = front; rows = rows; name = name; last = middle; read = read; stopped = stopped }
