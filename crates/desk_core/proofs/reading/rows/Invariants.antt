use Rattle.std.proofs.Common.{◌≡◌, map, take}
use Rattle.desk_core.specs.Reading.{row_of}
use Rattle.desk_core.proofs.reading.rows.Given as goal

abbrev pub invariant-loop-deck : goal.invariant-loop-deck
invariant-loop-deck l = l.rows.items ≡ map row_of (take l.deck-index l.decks)
