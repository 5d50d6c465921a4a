use Rattle.definitions.proofs.NumeralLaws.{number_of-octal_of}
use Rattle.definitions.proofs.laws.octal_reads_back.Goals as goal

pub returns : goal.returns
returns c = number_of-octal_of
