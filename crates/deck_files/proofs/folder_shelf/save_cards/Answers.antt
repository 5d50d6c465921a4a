use Rattle.std.proofs.Common.{ℕ, List, ◌∙◌, subst}
use Rattle.deck_files.{specs.DeckFiles.file_of, specs.FolderSaves.IsFaultOfNew, proofs.SaveFaults.stays-unmade}
use Rattle.deck_files.proofs.folder_shelf.save_cards.Goals as goal

-- no file was made anew
pub returns-clause-fault : goal.returns-clause-fault
returns-clause-fault g c =
    stays-unmade g.F.Folder.has_done c.args.place.now c.args.over c.args.known c.in-Ok-make_way.keeps (file_of c.args.cards.now) c.in-Err-make_anew.fault _ _ _ c.in-Ok-make_way.ensures.way
    (subst (λ (text : List ℕ). IsFaultOfNew text c.in-Err-make_anew.fault) (c.as_slice-2.ensures.value ∙ c.in-Ok-save_file.ensures) c.in-Err-make_anew.ensures.fault.0) c.in-Err-make_anew.ensures.fault.1

-- no way was made
pub returns-in-Err-clause-fault : goal.returns-in-Err-clause-fault
returns-in-Err-clause-fault g c = c.in-Err.ensures.fault (file_of c.args.cards.now)
