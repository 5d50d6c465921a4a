use Rattle.std.proofs.Common.{◌≡◌, ◌++◌, drop, map}
use Rattle.desk_core.specs.Desks.{deck_of}
use Rattle.journal.specs.{Records.text_of_records, Compacting.{added_records, compacted}}
use Rattle.journal.proofs.compacting.compacted_text.Given as goal

-- the text, and the records of the decks that are left, are the whole; the version is that of the last one
abbrev pub invariant-loop-deck : goal.invariant-loop-deck
invariant-loop-deck l =
    (l.text ++ text_of_records (added_records l.moment l.version (map deck_of (drop l.deck-index l.decks))) ≡ text_of_records (compacted l.moment l.begun (map deck_of l.decks)))
