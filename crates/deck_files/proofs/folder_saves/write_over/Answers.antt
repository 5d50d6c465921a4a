use Rattle.std.proofs.Common.{◌⊎◌, IfErr, sym, subst}
use Rattle.deck_files.specs.{declared.deck_shelf.SaveOver.SaveOver, FolderSaves.{BarsWay, IsFaultOfFolder}, Steps.ChangesOnly}
use Rattle.deck_files.proofs.folder_saves.write_over.Goals as goal

-- a known file alone is written over
pub returns-in-Known-clause-fault : goal.returns-in-Known-clause-fault
returns-in-Known-clause-fault g c =
    subst (λ (over : SaveOver).
    IfErr c.write_known.result (λ fault. BarsWay g.F.Folder.has_done c.args.place.now over c.args.known fault c.args.files.now c.write_known.new.files
    ⊎ (IsFaultOfFolder fault × ChangesOnly g.F.Folder.has_done (λ path. ⊥) c.args.files.now c.write_known.new.files)))
    (sym c.in-Known.is) c.write_known.ensures.fault
