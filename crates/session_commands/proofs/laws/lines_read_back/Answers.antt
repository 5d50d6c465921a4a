use Rattle.session_commands.proofs.LineLaws.{line-back, batch_line-back}
use Rattle.session_commands.proofs.laws.lines_read_back.Goals as goal

pub returns-clause-commands : goal.returns-clause-commands
returns-clause-commands c = line-back

pub returns-clause-edits : goal.returns-clause-edits
returns-clause-edits c = batch_line-back
