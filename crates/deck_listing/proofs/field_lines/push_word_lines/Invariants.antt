use Rattle.std.proofs.Common.{◌≡◌, ◌+◌, ◌*◌, ◌/◌, ◌++◌, length, map}
use Rattle.definitions.specs.{Kinds.word_bits, Listing.unlinked, Words.{cut, joined, width_of}}
use Rattle.statement_coder.specs.Joins.Items.{item_as}
use Rattle.deck_listing.specs.Joins.WordLines.{DoFillWords, lines_ahead, word_lines}
use Rattle.deck_listing.proofs.field_lines.push_word_lines.Given as goal

-- the lines so far, and those that the bits that wait and the fields that are left have, are the lines of all
abbrev pub invariant-fields : goal.invariant-fields
invariant-fields l = record {
  filled : DoFillWords l.kind l.next (map item_as l.left);
  text : l.text ++ lines_ahead l.kind l.next (width_of (map item_as l.left)) (joined (unlinked l.bases) (map item_as l.left))
      ≡ l.fn.text ++ word_lines l.kind l.word
      (cut (word_bits l.kind) (width_of (map item_as l.items) / word_bits l.kind) (joined (unlinked l.bases) (map item_as l.items)));
}

abbrev pub decreases-fields : goal.decreases-fields
decreases-fields l = 61 * length l.left + l.next.width
