use Rattle.deck_files.proofs.KnownSteps.{noted-saved}
use Rattle.deck_files.proofs.known_rows.KnownRows.note_saved.Goals as goal

-- the version was noted
pub of-requires : goal.of-requires
of-requires c = noted-saved c.args.name.now c.args.sum c.args.version
