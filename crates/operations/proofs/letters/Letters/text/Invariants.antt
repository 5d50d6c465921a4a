use Rattle.std.proofs.Common.{◌≡◌, ◌++◌, ◌+◌, ◌≤◌, length}
use Rattle.operations.specs.Joins.LetterBits.{among, flagged}
use Rattle.operations.proofs.letters.Letters.text.Given as goal

-- the letters so far, and those of the rest
abbrev pub invariant-letters : goal.invariant-letters
invariant-letters l = (l.text ++ among l.self-inside.bits l.left ≡ flagged l.self-inside.bits) × (length l.text + length l.left ≤ 9)

abbrev pub decreases-letters : goal.decreases-letters
decreases-letters l = length l.left
