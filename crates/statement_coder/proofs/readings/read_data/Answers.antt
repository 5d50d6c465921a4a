use Rattle.definitions.specs.Pieces.{pieces_of, subfields_of}
use Rattle.statement_coder.proofs.LawfulLaws.{data-lawful}
use Rattle.statement_coder.proofs.readings.read_data.Goals as goal

pub returns-in-Ok-clause-lawful : goal.returns-in-Ok-clause-lawful
returns-in-Ok-clause-lawful c = data-lawful c.args.base (subfields_of (pieces_of c.args.text.now)) c.in-Ok.words c.in-Ok.ensures
