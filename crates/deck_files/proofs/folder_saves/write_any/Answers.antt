use Rattle.std.proofs.Common.{refl}
use Rattle.deck_files.specs.FolderSaves.{is_any}
use Rattle.deck_files.proofs.folder_saves.write_any.Goals as goal

pub returns-in-Ok-clause-way : goal.returns-in-Ok-clause-way
returns-in-Ok-clause-way g c = is_any c.in-Ok.ensures.free.0 refl refl c.in-Ok.ensures.free.1 c.in-Ok.ensures.free.2
