use Rattle.std.proofs.Common.{ℕ, List, refl, subst}
use Rattle.deck_files.specs.{FolderLists.lacking, Steps.{Decks, Holds, TakesStep}}
use Rattle.deck_files.proofs.folder_lists.list_files.Goals as goal

-- the folder listed them, and no memory was left for all rows
pub returns-clause-fault : goal.returns-clause-fault
returns-clause-fault g c =
    let P : List ℕ → Type 0 = λ (path : List ℕ). TakesStep g.F.Folder.has_done c.args.files.now (Decks path, Holds c.in-Ok.entries.items) c.decks.new.self in
    lacking c.in-Ok.entries.items c.decks.new.self refl (subst P c.path_of.ensures c.in-Ok.ensures.told) c.in-Err-read_rows.ensures.lacking
