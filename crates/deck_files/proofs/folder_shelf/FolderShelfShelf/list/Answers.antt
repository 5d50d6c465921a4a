use Rattle.deck_files.{specs.FolderShelves.FolderShelf, proofs.FolderSteps.err-map, proofs.ShelfSteps.shelf-untold}
use Rattle.deck_files.proofs.folder_shelf.FolderShelfShelf.list.Goals as goal

-- the fault that the list of the folder had
pub returns-clause-fault : goal.returns-clause-fault
returns-clause-fault g c =
    let inside = c.self.inside in
    let shelf : FolderShelf g.row.F.Denot g.row.K.Denot = record { files = inside.files; folder = inside.folder.now; number = inside.number; turns = inside.turns; seen = inside.seen; loaded = inside.loaded } in
    err-map c.list_files.result (λ fault holds. shelf-untold g.F.Folder.has_done shelf c.args.self.now fault _ c.self.view_is holds) c.list_files.ensures.fault
