use Rattle.std.proofs.Common.{◌≡◌, ◌++◌, drop, map}
use Rattle.session_commands.specs.Lines.{behind_a_blank, line_in_batch}
use Rattle.journal.specs.Records.{text_of_lines}
use Rattle.journal.proofs.writing.push_edits.Given as goal

-- the text, and the lines of the edits that are left, are the whole
abbrev pub invariant-loop-edit : goal.invariant-loop-edit
invariant-loop-edit l = l.text ++ text_of_lines (map behind_a_blank (map line_in_batch (drop l.edit-index l.edits))) ≡ l.fn.text ++ text_of_lines (map behind_a_blank (map line_in_batch l.edits))
