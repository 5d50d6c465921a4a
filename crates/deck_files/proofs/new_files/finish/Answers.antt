use Rattle.deck_files.{specs.FolderSaves.{IsNew, filled, put_in_place, second_of}, proofs.FolderSteps.{fault-of-new, only-join, only-more, takes-join}}
use Rattle.deck_files.proofs.new_files.finish.Goals as goal

-- the file was filled and put in place
pub returns-in-Ok-put_new-clause-placed : goal.returns-in-Ok-put_new-clause-placed
returns-in-Ok-put_new-clause-placed g c =
    let made = g.F.NewFile.Write.contents c.args.file in
    let kept = g.F.NewFile.Write.contents c.in-Ok.full in (
      kept,
      c.in-Ok.ensures.kept.0,
      takes-join g.F.Folder.has_done _ _ _ (filled made kept c.args.deck.now) (put_in_place c.args.place.now c.args.new.now kept c.args.deck.now (second_of c.in-Ok-put_new.aside))
          c.in-Ok.ensures.kept.1 c.in-Ok-put_new.ensures.placed,
    )

-- it was filled, and not put in place
pub returns-in-Err-put_new-clause-fault : goal.returns-in-Err-put_new-clause-fault
returns-in-Err-put_new-clause-fault g c =
    let made = g.F.NewFile.Write.contents c.args.file in
    let kept = g.F.NewFile.Write.contents c.in-Ok.full in (
      fault-of-new c.args.bytes.now c.in-Err-put_new.fault c.in-Err-put_new.ensures.fault.0,
      only-join g.F.Folder.has_done (IsNew c.args.place.now) _ _ _ (filled made kept c.args.deck.now, (tt, (tt, tt)), c.in-Ok.ensures.kept.1) c.in-Err-put_new.ensures.fault.1,
    )

-- it was not filled
pub returns-in-Err-clause-fault : goal.returns-in-Err-clause-fault
returns-in-Err-clause-fault g c = (c.in-Err.ensures.fault.0, only-more g.F.Folder.has_done _ _ _ _ (λ path none. absurd none) c.in-Err.ensures.fault.1)
