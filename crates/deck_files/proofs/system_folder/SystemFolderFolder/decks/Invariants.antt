use Rattle.std.proofs.Common.{◌≤◌, length}
use Rattle.deck_files.specs.FileRows.{most_files}
use Rattle.deck_files.proofs.system_folder.SystemFolderFolder.decks.Given as goal

-- no more decks than are listed
abbrev pub invariant-loop-entry : goal.invariant-loop-entry
invariant-loop-entry g l = record {
  few : length l.decks.items ≤ most_files;
}
