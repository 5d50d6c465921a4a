use Rattle.std.proofs.Common.{◌∙◌}
use Rattle.deck_files.{specs.FolderSaves.second_of, proofs.SaveFaults.{makes-anew, takes-away}}
use Rattle.deck_files.proofs.new_files.make_anew.Goals as goal

pub returns-in-Ok-finish-clause-made : goal.returns-in-Ok-finish-clause-made
returns-in-Ok-finish-clause-made g c =
    makes-anew g.F.Folder.has_done c.args.place.now c.in-Ok.unused.tries c.as_str.result.now c.args.deck.now c.args.bytes.now c.args.keeps (second_of c.in-Ok-finish.aside)
    (g.F.NewFile.Write.contents c.in-Ok.unused.file) _ _ _ (c.as_str.ensures.value ∙ c.in-Ok.ensures.path) c.requires c.in-Ok.ensures.made c.in-Ok-finish.ensures.same c.in-Ok-finish.ensures.placed

pub returns-clause-fault : goal.returns-clause-fault
returns-clause-fault g c = (
  c.in-Err-finish.ensures.fault.0,
  takes-away g.F.Folder.has_done c.args.place.now c.in-Ok.unused.tries c.as_str-in-Err-finish.result.now (g.F.NewFile.Write.contents c.in-Ok.unused.file) _ _ _ _ _
      (c.as_str-in-Err-finish.ensures.value ∙ c.in-Ok.ensures.path) c.in-Ok.ensures.made c.in-Err-finish.ensures.fault.1 c.remove.ensures,
)
