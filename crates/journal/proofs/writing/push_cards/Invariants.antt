use Rattle.std.proofs.Common.{◌≡◌, ◌++◌, drop, map}
use Rattle.session_commands.specs.Lines.{behind_a_blank}
use Rattle.journal.specs.Records.{text_of_lines}
use Rattle.journal.proofs.writing.push_cards.Given as goal

-- the text, and the lines of the cards that are left, are the whole
abbrev pub invariant-loop-card : goal.invariant-loop-card
invariant-loop-card l = l.text ++ text_of_lines (map behind_a_blank (drop l.card-index l.cards)) ≡ l.fn.text ++ text_of_lines (map behind_a_blank l.cards)
