-- What HELP shows (ours): each command as it is written, and what it asks for, a line each. The lines stand in the code alone, and docs/PROTOCOL.md has them as a table.
use Rattle.std.specs.Prelude.{ℕ, List}
use Rattle.session_line.specs.declared.help.TheConstants.{HELP}

-- the lines
abbrev pub help_text : List ℕ
help_text = HELP.now
