-- What one call made of a shelf over a folder: the folder and who knows its files did as they did, and the rest stayed.
use Rattle.std.proofs.Common.{ℕ, ◌≡◌, ◌⊎◌, inr, List, Option, Some, None, Err, refl, subst}
use Rattle.definitions.specs.Cards.{Card}
use Rattle.deck_files.specs.{declared.deck_shelf.ShelfLoadFault.ShelfLoadFault, declared.deck_shelf.ShelfSaveFault.ShelfSaveFault, declared.file_sums.FileSum.FileSum, declared.known_rows.Known.Known, declared.save_turns.Turn.Turn, FolderLists.ListFails, FolderLoads.{LoadFails, LoadsFile}, FolderShelves.{FolderShelf, ListsDecks, LoadsDeck, LoadsNoDeck, SavesDeck, SavesNoDeck, place_on}, Folders.{Place, deck_path}, Savings.Saving, Steps.Step, TurnSaves.{FailsInTurn, SavesInTurn}}

module _ {F K : Type 0} (has_done : F → List Step → Type 0) (turns : K → List ℕ → ℕ → Turn → K → Type 0) (lacks : K → K → Type 0) (notes : K → List ℕ → Known → K → Type 0) where
  pub shelf-saves : (at : Place) (shelf old : FolderShelf F K) (saved : Saving) (next : F) (after : K) → shelf ≡ old → at ≡ place_on shelf saved.name →
      SavesInTurn turns lacks notes has_done at saved shelf.turns after shelf.files next →
      SavesDeck has_done turns lacks notes old saved (record { files = next; folder = shelf.folder; number = shelf.number; turns = after; seen = shelf.seen; loaded = shelf.loaded })
  shelf-saves at shelf old saved next after same is_place saves =
      let new : FolderShelf F K = record { files = next; folder = shelf.folder; number = shelf.number; turns = after; seen = shelf.seen; loaded = shelf.loaded } in
      subst (λ (o : FolderShelf F K). SavesDeck has_done turns lacks notes o saved new) same
      ((refl, refl), (refl, refl), subst (λ (a : Place). SavesInTurn turns lacks notes has_done a saved shelf.turns after shelf.files next) is_place saves)

  pub shelf-fails : (at : Place) (shelf old : FolderShelf F K) (saved : Saving) (fault : ShelfSaveFault) (next : F) (after : K) → shelf ≡ old → at ≡ place_on shelf saved.name →
      FailsInTurn turns lacks notes has_done at saved fault shelf.turns after shelf.files next →
      SavesNoDeck has_done turns lacks notes old saved fault (record { files = next; folder = shelf.folder; number = shelf.number; turns = after; seen = shelf.seen; loaded = shelf.loaded })
  shelf-fails at shelf old saved fault next after same is_place fails =
      let new : FolderShelf F K = record { files = next; folder = shelf.folder; number = shelf.number; turns = after; seen = shelf.seen; loaded = shelf.loaded } in
      subst (λ (o : FolderShelf F K). SavesNoDeck has_done turns lacks notes o saved fault new) same
      ((refl, refl), (refl, refl), inr (subst (λ (a : Place). FailsInTurn turns lacks notes has_done a saved fault shelf.turns after shelf.files next) is_place fails))

module _ {F K : Type 0} (has_done : F → List Step → Type 0) (tells_newest : K → List ℕ → Option ℕ → K → Type 0) where
  pub shelf-loads : (places : K → List ℕ → K → Type 0) (at : Place) (shelf old : FolderShelf F K) (name : List ℕ) (cards : List Card) (sum : FileSum) (seen : Option ℕ) (next : F) (middle after : K) →
      shelf ≡ old → at ≡ place_on shelf name → tells_newest shelf.turns name seen middle → places middle name after → LoadsFile has_done (deck_path at) cards sum shelf.files next →
      LoadsDeck has_done tells_newest places old name cards (record { files = next; folder = shelf.folder; number = shelf.number; turns = after; seen = seen; loaded = Some sum })
  shelf-loads places at shelf old name cards sum seen next middle after same is_place told placed loads =
      let new : FolderShelf F K = record { files = next; folder = shelf.folder; number = shelf.number; turns = after; seen = seen; loaded = Some sum } in
      subst (λ (o : FolderShelf F K). LoadsDeck has_done tells_newest places o name cards new) same
      ((refl, refl), (sum, refl, subst (λ (a : Place). LoadsFile has_done (deck_path a) cards sum shelf.files next) is_place loads), (middle, told, placed))

  pub shelf-refuses : (lacks : K → K → Type 0) (at : Place) (shelf old : FolderShelf F K) (name : List ℕ) (fault : ShelfLoadFault) (seen : Option ℕ) (next : F) (middle after : K) →
      shelf ≡ old → at ≡ place_on shelf name → tells_newest shelf.turns name seen middle → (after ≡ middle) ⊎ lacks middle after → LoadFails has_done at fault shelf.files next →
      LoadsNoDeck has_done tells_newest lacks old name fault (record { files = next; folder = shelf.folder; number = shelf.number; turns = after; seen = seen; loaded = None })
  shelf-refuses lacks at shelf old name fault seen next middle after same is_place told kept fails =
      let new : FolderShelf F K = record { files = next; folder = shelf.folder; number = shelf.number; turns = after; seen = seen; loaded = None } in
      subst (λ (o : FolderShelf F K). LoadsNoDeck has_done tells_newest lacks o name fault new) same
      ((refl, refl), refl, subst (λ (a : Place). LoadFails has_done a fault shelf.files next) is_place fails, inr (middle, told, kept))

module _ {F K : Type 0} (has_done : F → List Step → Type 0) where
  pub shelf-untold : (shelf old : FolderShelf F K) (fault : ShelfLoadFault) (next : F) → shelf ≡ old → ListFails has_done shelf.folder shelf.number fault shelf.files next →
      ListsDecks has_done old (Err fault) (record { files = next; folder = shelf.folder; number = shelf.number; turns = shelf.turns; seen = shelf.seen; loaded = shelf.loaded })
  shelf-untold shelf old fault next same fails =
      let new : FolderShelf F K = record { files = next; folder = shelf.folder; number = shelf.number; turns = shelf.turns; seen = shelf.seen; loaded = shelf.loaded } in
      subst (λ (o : FolderShelf F K). ListsDecks has_done o (Err fault) new) same ((refl, refl), (refl, refl), refl, fails)
