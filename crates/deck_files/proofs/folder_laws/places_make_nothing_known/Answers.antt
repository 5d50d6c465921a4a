use Rattle.deck_files.proofs.KnownSteps.{place-known}
use Rattle.deck_files.proofs.folder_laws.places_make_nothing_known.Goals as goal

pub returns : goal.returns
returns c name other files = place-known name other files
