use Rattle.std.proofs.Common.{◌≡◌, length, flat_map}
use Rattle.definitions.specs.Literals.{datum_literals, with_literals}
use Rattle.deck_assembler.proofs.literal_words.add_con.Given as goal

-- the literals of the words that are left make the words of all
abbrev pub invariant-words : goal.invariant-words
invariant-words l = with_literals (flat_map datum_literals l.rest) l.words ≡ with_literals (flat_map datum_literals l.fn.con) l.initial.words

abbrev pub decreases-words : goal.decreases-words
decreases-words l = length l.rest
