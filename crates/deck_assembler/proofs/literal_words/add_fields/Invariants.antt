use Rattle.std.proofs.Common.{◌≡◌, length, flat_map}
use Rattle.definitions.specs.Literals.{with_literals}
use Rattle.deck_assembler.specs.Joins.LiteralsRead.{bit_literals}
use Rattle.deck_assembler.proofs.literal_words.add_fields.Given as goal

-- the literals of the fields that are left make the words of all
abbrev pub invariant-fields : goal.invariant-fields
invariant-fields l = with_literals (flat_map bit_literals l.rest) l.words ≡ with_literals (flat_map bit_literals l.fn.fields) l.initial.words

abbrev pub decreases-fields : goal.decreases-fields
decreases-fields l = length l.rest
