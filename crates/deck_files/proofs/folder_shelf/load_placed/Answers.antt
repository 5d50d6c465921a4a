use Rattle.deck_files.{specs.Folders.deck_path, proofs.FolderSteps.fails-noting}
use Rattle.deck_files.proofs.folder_shelf.load_placed.Goals as goal

-- no memory was left to note the file
pub returns-in-Err-reserve-clause-fault : goal.returns-in-Err-reserve-clause-fault
returns-in-Err-reserve-clause-fault g c = fails-noting g.F.Folder.has_done (deck_path c.args.place.now) c.in-Ok.loaded.cards.items c.in-Ok.loaded.sum _ _ c.in-Ok.ensures.cards
