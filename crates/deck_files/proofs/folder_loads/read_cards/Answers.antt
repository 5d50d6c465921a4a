use Rattle.deck_files.proofs.FolderSteps.{no_room-loads}
use Rattle.deck_files.proofs.folder_loads.read_cards.Goals as goal

-- no memory was left for the buffer
pub returns-in-Err-clause-fault : goal.returns-in-Err-clause-fault
returns-in-Err-clause-fault g c = (g.R.Read.remaining c.args.file, no_room-loads (g.R.Read.remaining c.args.file))
