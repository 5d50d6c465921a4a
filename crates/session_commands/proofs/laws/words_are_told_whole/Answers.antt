use Rattle.session_commands.proofs.UnknownWordLaws.{told-whole}
use Rattle.session_commands.proofs.laws.words_are_told_whole.Goals as goal

pub returns : goal.returns
returns c = told-whole
