use Rattle.deck_files.{specs.Savings.saving, specs.FolderShelves.FolderShelf, proofs.FolderSteps.{err-map, ok-map}, proofs.ShelfSteps.{shelf-fails, shelf-saves}}
use Rattle.deck_files.proofs.folder_shelf.FolderShelfShelf.save.Goals as goal

-- what the save in its turn did
pub returns-clause-saved : goal.returns-clause-saved
returns-clause-saved g c =
    let inside = c.self.inside in
    let shelf : FolderShelf g.row.F.Denot g.row.K.Denot = record { files = inside.files; folder = inside.folder.now; number = inside.number; turns = inside.turns; seen = inside.seen; loaded = inside.loaded } in
    ok-map c.save_in_turn.result
    (λ holds.
    shelf-saves g.F.Folder.has_done g.K.SaveTurns.turns g.K.SaveTurns.lacks g.K.SaveTurns.notes c.in-Some.place shelf c.args.self.now (saving c.args.name.now c.args.over c.args.version c.args.cards.now) _ _
    c.self.view_is c.in-Some.ensures.place holds)
    c.save_in_turn.ensures.saved

-- the fault that it had
pub returns-clause-fault : goal.returns-clause-fault
returns-clause-fault g c =
    let inside = c.self.inside in
    let shelf : FolderShelf g.row.F.Denot g.row.K.Denot = record { files = inside.files; folder = inside.folder.now; number = inside.number; turns = inside.turns; seen = inside.seen; loaded = inside.loaded } in
    err-map c.save_in_turn.result
    (λ fault holds.
    shelf-fails g.F.Folder.has_done g.K.SaveTurns.turns g.K.SaveTurns.lacks g.K.SaveTurns.notes c.in-Some.place shelf c.args.self.now (saving c.args.name.now c.args.over c.args.version c.args.cards.now) fault _ _
    c.self.view_is c.in-Some.ensures.place holds)
    c.save_in_turn.ensures.fault
