-- What the calls of a shelf make of it, whichever shelf it is (ours): each relation has the shelf before, what is asked, what is answered, and the shelf after.
use Rattle.std.specs.Prelude.{ℕ, Bool, List, Result}
use Rattle.deck_files.specs.{Savings.Saving, declared.deck_shelf.ShelfLoadFault.ShelfLoadFault, declared.deck_shelf.ShelfSaveFault.ShelfSaveFault, declared.file_rows.FileRow.FileRow}

pub record ShelfRelations (S : Type 0) : Type 1 where
  -- the name, and the cards
  pub loads : S → List ℕ → List (List ℕ) → S → Type 0
  -- the name, and the fault
  pub refuses_to_load : S → List ℕ → ShelfLoadFault → S → Type 0
  -- what is saved
  pub saves : S → Saving → S → Type 0
  -- what is saved, and the fault
  pub refuses_to_save : S → Saving → ShelfSaveFault → S → Type 0
  -- the rows of its files, or why there are none
  pub lists : S → Result (List FileRow) ShelfLoadFault → S → Type 0
  -- the name, and the version
  pub notes : S → List ℕ → ℕ → S → Type 0
  -- the name, the version, and whether its cards are those of the file
  pub tells_saved : S → List ℕ → ℕ → Bool → S → Type 0
