use Rattle.std.proofs.Common.{[], ◌∷◌}
use Rattle.deck_files.{specs.Steps.{Keep, TakeAfter, Refused, Done}, proofs.FolderSteps.{fault-of-new, takes-join}}
use Rattle.deck_files.proofs.new_files.fill.Goals as goal

-- owner and mode were refused
pub returns-in-Err-clause-fault : goal.returns-in-Err-clause-fault
returns-in-Err-clause-fault g c = (
  fault-of-new c.args.bytes.now c.save_fault.result c.save_fault.ensures.one,
  ((TakeAfter (g.F.NewFile.Write.contents c.args.file) c.args.deck.now, Refused) ∷ [], (tt, tt), c.in-Err.ensures),
)

-- not all was written
pub returns-in-Err-write-clause-fault : goal.returns-in-Err-write-clause-fault
returns-in-Err-write-clause-fault g c =
    (c.in-Err-write.ensures.fault, ((TakeAfter (g.F.NewFile.Write.contents c.args.file) c.args.deck.now, Done) ∷ [], (tt, tt), c.in-Ok.ensures))

-- what was written was not kept
pub returns-in-Err-keep-clause-fault : goal.returns-in-Err-keep-clause-fault
returns-in-Err-keep-clause-fault g c =
    let taken = (TakeAfter (g.F.NewFile.Write.contents c.args.file) c.args.deck.now, Done) ∷ [] in
    let kept = (Keep (g.F.NewFile.Write.contents c.in-Ok-write.full), Refused) ∷ [] in (
      fault-of-new c.args.bytes.now c.save_fault-in-Err-keep.result c.save_fault-in-Err-keep.ensures.one,
      ((Keep (g.F.NewFile.Write.contents c.in-Ok-write.full), Refused) ∷ taken, (tt, (tt, tt)), takes-join g.F.Folder.has_done _ _ _ taken kept c.in-Ok.ensures c.in-Err-keep.ensures),
    )
