use Rattle.std.proofs.Common.{◌∙◌}
use Rattle.deck_files.proofs.FolderSteps.{fails-unopened, fails-read}
use Rattle.deck_files.proofs.folder_loads.load_deck.Goals as goal

-- the file was not opened
pub returns-in-Err-clause-fault : goal.returns-in-Err-clause-fault
returns-in-Err-clause-fault g c =
    fails-unopened g.F.Folder.has_done c.args.place.now c.as_str.result.now c.in-Err.fault _ _ (c.as_str.ensures.value ∙ c.in-Ok.ensures) c.in-Err.ensures.fault.0 c.in-Err.ensures.fault.1

-- it was, and has a fault
pub returns-clause-fault : goal.returns-clause-fault
returns-clause-fault g c =
    fails-read g.F.Folder.has_done c.args.place.now c.as_str.result.now c.in-Err-read_cards.fault (g.F.File.Read.remaining c.in-Ok-open_plain.file) c.in-Err-read_cards.ensures.fault.0 _ _
    (c.as_str.ensures.value ∙ c.in-Ok.ensures) c.in-Ok-open_plain.ensures.opened c.in-Err-read_cards.ensures.fault.1
