-- The lines so far, and those of the words that are left, are the lines of all.
use Rattle.std.proofs.Common.{◌≡◌, ◌+◌, ◌++◌, drop}
use Rattle.deck_listing.specs.Joins.WordLines.{word_lines}
use Rattle.deck_listing.proofs.field_lines.push_known_words.Given as goal

abbrev pub invariant-loop-bits : goal.invariant-loop-bits
invariant-loop-bits l = record {
  text : l.text ++ word_lines l.kind l.word (drop l.bits-index l.words) ≡ l.fn.text ++ word_lines l.kind l.first l.words;
  place : l.word ≡ l.first + l.bits-index;
}
