-- What the desk sees of a record and of a publication (ours).
use Rattle.edit_core.specs.Records.{Record}
use Rattle.deck_linker.specs.Publishing.{Published}
use Rattle.desk_core.specs.Desks.{Kept, Publication}

-- the deck of a record
abbrev pub held : Record → Kept
held kept = record { deck = record { name = kept.name; cards = kept.cards } }

-- version and decks of a publication
abbrev pub published : Published → Publication
published publication = record { version = publication.version; decks = publication.decks }
