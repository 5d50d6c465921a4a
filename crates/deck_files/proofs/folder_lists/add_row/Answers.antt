use Rattle.std.proofs.Common.{inl}
use Rattle.deck_files.proofs.folder_lists.add_row.Goals as goal

-- no memory was left to read the file
pub returns-in-Err-clause-lacking : goal.returns-in-Err-clause-lacking
returns-in-Err-clause-lacking g c = inl c.in-Err.ensures.lacking
