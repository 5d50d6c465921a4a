use Rattle.std.proofs.Common.{◌∙◌}
use Rattle.deck_files.proofs.SaveFaults.{takes-back}
use Rattle.deck_files.proofs.new_files.put_beside.Goals as goal

-- the new file was not put in place
pub returns-in-Err-put-clause-fault : goal.returns-in-Err-put-clause-fault
returns-in-Err-put-clause-fault g c = (
  c.save_fault.ensures.one,
  takes-back g.F.Folder.has_done c.args.place.now c.in-Ok.aside.tries c.args.new.now c.args.deck.now c.as_str.result.now (g.F.NewFile.Write.contents c.args.file) _ _ _ _ _
      (c.as_str.ensures.value ∙ c.in-Ok.ensures.aside.0) c.in-Ok.ensures.linked c.in-Err-put.ensures c.remove.ensures,
)
