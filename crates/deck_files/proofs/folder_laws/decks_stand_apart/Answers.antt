use Rattle.deck_files.proofs.PathSteps.{new-no_deck, new-not_old}
use Rattle.deck_files.proofs.folder_laws.decks_stand_apart.Goals as goal

pub returns-clause-deck : goal.returns-clause-deck
returns-clause-deck c = new-no_deck

pub returns-clause-old : goal.returns-clause-old
returns-clause-old c = new-not_old
