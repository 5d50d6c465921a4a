use Rattle.std.proofs.Common.{◌≡◌, length, take}
use Rattle.deck_files.specs.FolderLists.{ReadsRows}
use Rattle.deck_files.proofs.folder_lists.read_rows.Given as goal

-- the files so far were read, and a row stands for each
abbrev pub invariant-loop-entry : goal.invariant-loop-entry
invariant-loop-entry g l = record {
  read : ReadsRows g.F.Folder.has_done l.fn.within.folder.now l.fn.within.number l.fn.files (take l.entry-index l.entries) l.rows.items l.files;
  each : length l.rows.items ≡ l.entry-index;
}
