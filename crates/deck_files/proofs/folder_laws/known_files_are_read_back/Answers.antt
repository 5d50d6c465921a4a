use Rattle.deck_files.proofs.RowTexts.{row-back}
use Rattle.deck_files.proofs.folder_laws.known_files_are_read_back.Goals as goal

pub returns : goal.returns
returns c name known named writable = row-back name known named writable
