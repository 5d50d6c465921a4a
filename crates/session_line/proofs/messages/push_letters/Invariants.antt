use Rattle.std.proofs.Common.{drop}
use Rattle.session_line.{specs.Messages.lettered, proofs.MessageSteps.IsSoFar}
use Rattle.session_line.proofs.messages.push_letters.Given as goal

-- the lines of the letters so far stand behind what stood there
abbrev pub invariant-loop-letter : goal.invariant-loop-letter
invariant-loop-letter l = IsSoFar l.name (lettered l.number l.letters) (lettered l.number (drop l.letter-index l.letters)) l.fn.text l.text
