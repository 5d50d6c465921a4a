use Rattle.desk_service.proofs.KeptChanges.{own-kept}
use Rattle.desk_service.proofs.journals.Journal.keep.Goals as goal

-- what is kept is the record that was put
pub returns : goal.returns
returns g c = λ told. own-kept g.F.RecordsFile.has_done c.with_text-draft.result.1 c.args.draft c.args.version c.with_text-draft.ensures.text (c.shows.ensures told)
