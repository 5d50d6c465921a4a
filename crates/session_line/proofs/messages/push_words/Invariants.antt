use Rattle.std.{proofs.Common.{◌≡◌, ◌++◌, take}, specs.Prelude.map}
use Rattle.session_line.specs.Messages.{told_character}
use Rattle.session_line.proofs.messages.push_words.Given as goal

-- the characters so far stand behind what stood there
abbrev pub invariant-loop-character : goal.invariant-loop-character
invariant-loop-character l = l.text ≡ l.fn.text ++ map told_character (take l.character-index l.words)
