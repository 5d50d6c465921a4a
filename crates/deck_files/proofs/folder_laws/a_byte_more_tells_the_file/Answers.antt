use Rattle.deck_files.proofs.SumSteps.{just-all}
use Rattle.deck_files.proofs.folder_laws.a_byte_more_tells_the_file.Goals as goal

pub returns : goal.returns
returns c sum bytes small = just-all sum bytes small
