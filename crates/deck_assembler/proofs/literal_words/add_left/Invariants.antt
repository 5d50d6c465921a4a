use Rattle.std.proofs.Common.{◌≡◌, length}
use Rattle.definitions.specs.Literals.{with_literals}
use Rattle.deck_assembler.proofs.literal_words.add_left.Given as goal

-- the literals that are left make the words of all
abbrev pub invariant-literals : goal.invariant-literals
invariant-literals l = with_literals l.rest l.words ≡ with_literals l.fn.left l.initial.words

abbrev pub decreases-literals : goal.decreases-literals
decreases-literals l = length l.rest
