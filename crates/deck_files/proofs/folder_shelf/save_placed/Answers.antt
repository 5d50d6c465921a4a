use Rattle.std.proofs.Common.{inl, refl}
use Rattle.deck_files.proofs.folder_shelf.save_placed.Goals as goal

-- the deck's file is as it was, and nothing was noted
pub returns-in-Err-clause-fault : goal.returns-in-Err-clause-fault
returns-in-Err-clause-fault g c = inl (refl, c.in-Err.ensures.fault)
